-- What a part stands for when its bytes change at its closed gate and behind it, and what a crash leaves of it meanwhile.
use Rattle.std.proofs.Common.{◌≡◌, ◌≢◌, ◌⊎◌, inl, inr, ℕ, ◌+◌, ◌^◌, ◌<◌, true, List, [], ◌∷◌, ◌++◌, length, get_or, take, drop, ◌-◌, Option, Some, None, refl, sym, ◌∙◌, ap, subst, arith, append_assoc, length-drop, length-take, take-append-drop}
use Rattle.std.specs.Prelude.{◌==◌, ◌||◌, nat_eq, if◌then◌else◌}
use Rattle.std.specs.Cmp.Lexicographic.{pointwise}
use Rattle.std.specs.Int.{w32, w64, to_be_bytes, from_be_bytes}
use Rattle.std.proofs.lemmas.List.{append-nil, take_all, drop-drop, drop_more, length-take-le}
use Rattle.std.proofs.lemmas.Bool.{or_left, or_right, eq-eqb}
use Rattle.std.proofs.lemmas.Nat.{from_be_bytes-to_be_bytes_4, from_be_bytes-to_be_bytes_8}
use Rattle.sw_disk.specs.DiskRule.{Torn, written}
use Rattle.sw_journal.specs.Gate.{HasBehind, IsTornRecord}
use Rattle.sw_journal.specs.Format.{Format, format_1, format_2, format_of, record_bytes, number_bytes, needed_length}
use Rattle.sw_journal.specs.Content.{NotFormatted, Records, Reading, preceded, reading_from, reading, content, content_by, content_of_reading, up_to, IsPart}
use Rattle.sw_journal.proofs.PartLemmas.{reading_from-closed, same_front, same_middle, parts_at, IsSpelled, reads_spelled, Splits, splits_within}

-- a format's number is 0 or 8 bytes wide
abbrev pub HasWidth : ℕ → Type 0
HasWidth width = (width ≡ 0) ⊎ (width ≡ 8)

-- the header is told by the first 16 bytes
pub format_of-front : (a b : List ℕ) → take 16 a ≡ take 16 b → format_of a ≡ format_of b
unfolding format_of
format_of-front a b same =
    ap (λ (l : List ℕ). if pointwise nat_eq format_2.header l then Some format_2 else if pointwise nat_eq format_1.header l then Some format_1 else None) same

-- a part's content, by its header and its reading
pub content-unformatted : (bytes : List ℕ) → format_of bytes ≡ None → content bytes ≡ NotFormatted
unfolding content
content-unformatted bytes none = ap (λ (f : Option Format). content_by f bytes) none

pub content-reads : (format : Format) (bytes : List ℕ) (r : Reading) → format_of bytes ≡ Some format → reading format bytes ≡ r → content bytes ≡ content_of_reading r
unfolding content
content-reads format bytes r header reads = ap (λ (f : Option Format). content_by f bytes) header ∙ ap content_of_reading reads

pub content-part : (format : Format) (records : List (ℕ × List ℕ)) (gate : ℕ) (bytes : List ℕ) → IsPart format records gate bytes → content bytes ≡ Records records
content-part format records gate bytes part = content-reads format bytes (up_to records gate) part.header part.reads

numbered : (width number : ℕ) → HasWidth width → number < 2 ^ 64 → (width == 0 || from_be_bytes w64 (take width (to_be_bytes w64 number)) == number) ≡ true
numbered width number (inl is) small = or_left _ _ (eq-eqb width 0 is)
numbered width number (inr is) small =
    or_right _ _ (ap (λ (w : ℕ). from_be_bytes w64 (take w (to_be_bytes w64 number)) == number) is ∙ eq-eqb _ number (from_be_bytes-to_be_bytes_8 number small))

-- what is written for a record spells it
pub spelled : (format : Format) → HasWidth format.width → (number : ℕ) (payload : List ℕ) → number < 2 ^ 64 → length payload < 2 ^ 32
    → IsSpelled format number (to_be_bytes w32 (length payload)) (number_bytes format number) payload
spelled format wide number payload small short = record {
  four = refl;
  wide = omega (arith, wide, length-take format.width (to_be_bytes w64 number));
  is_size = from_be_bytes-to_be_bytes_4 (length payload) short;
  numbered = numbered format.width number wide small;
}

module _ (format : Format) (records : List (ℕ × List ℕ)) (gate : ℕ) (bytes : List ℕ) (part : IsPart format records gate bytes) where
  split : Splits format 0 16 (drop 16 bytes) (up_to records gate)
  unfolding reading
  split = subst (Splits format 0 16 (drop 16 bytes)) part.reads (splits_within (length (drop 16 bytes)) format 0 16 (drop 16 bytes) (omega arith))

  -- a part's first closed gate
  pub closed_gate : (byte : ℕ) × (rest : List ℕ) × (byte ≢ 1) × (drop gate bytes ≡ byte ∷ rest)
  closed_gate =
      let s = split in
      let k = length s.front in
      let shut = s.closed refl in
      let there = ap (λ (n : ℕ). drop n bytes) s.gate_is ∙ sym (drop-drop k 16 bytes) ∙ (parts_at s.front s.tail (drop 16 bytes) k (sym s.bytes_are) refl).1 in
      (shut.0, shut.1, shut.2, there ∙ shut.3)

  -- Where the bytes up to the gate stay, the part reads the same up to the gate.
  pub part_front : (other : List ℕ) → take gate other ≡ take gate bytes → gate < length other
      → (format_of other ≡ Some format) × (reading format other ≡ preceded records (reading_from format (length records) gate (drop gate other)))
  unfolding reading
  part_front other front more =
      let s = split in
      let k = length s.front in
      let fronts = subst (λ (n : ℕ). take n other ≡ take n bytes) s.gate_is front in
      let before : take k (drop 16 other) ≡ s.front = same_middle 16 k other bytes fronts ∙ (parts_at s.front s.tail (drop 16 bytes) k (sym s.bytes_are) refl).0 in
      let behind : drop k (drop 16 other) ≡ drop gate other = drop-drop k 16 other ∙ ap (λ (n : ℕ). drop n other) (sym s.gate_is) in
      let n : 0 + length records ≡ length records = omega arith in (
        format_of-front other bytes (same_front 16 (16 + k) other bytes (omega arith) fronts) ∙ part.header,
        ap (λ (l : List ℕ). reading_from format 0 16 l) (sym (take-append-drop k (drop 16 other)) ∙ (λ i. before i ++ behind i))
            ∙ s.same (drop gate other) (omega (arith, more, length-drop gate other)) ∙ (λ i. preceded records (reading_from format (n i) gate (drop gate other))),
      )

pub gate_there : (format : Format) (records : List (ℕ × List ℕ)) (gate : ℕ) (bytes : List ℕ) → IsPart format records gate bytes → gate < length bytes
gate_there format records gate bytes part = omega (arith, ap length (closed_gate format records gate bytes part).3, length-drop gate bytes)

-- Where the bytes before the gate stay and the gate is closed, the part has the same records.
pub closed_still : (format : Format) (records : List (ℕ × List ℕ)) (gate : ℕ) (bytes other : List ℕ) → IsPart format records gate bytes
    → take gate other ≡ take gate bytes → (byte : ℕ) (rest : List ℕ) → byte ≢ 1 → drop gate other ≡ byte ∷ rest → IsPart format records gate other
closed_still format records gate bytes other part front byte rest shut there =
    let more : gate < length other = omega (arith, ap length there, length-drop gate other) in
    let it = part_front format records gate bytes part other front more in
    record {
      header = it.0;
      reads = it.1 ∙ ap (λ (l : List ℕ). preceded records (reading_from format (length records) gate l)) there
          ∙ ap (λ (r : Reading). preceded records r) (reading_from-closed format (length records) gate byte rest shut) ∙ ap (λ (l : List (ℕ × List ℕ)). up_to l gate) (append-nil records);
    }

-- Where the bytes up to the closed gate stay, the part has the same records.
pub closed_kept : (format : Format) (records : List (ℕ × List ℕ)) (gate : ℕ) (bytes other : List ℕ) → IsPart format records gate bytes
    → take (gate + 1) other ≡ take (gate + 1) bytes → IsPart format records gate other
closed_kept format records gate bytes other part front =
    let at = closed_gate format records gate bytes part in
    let rest = drop 1 (drop gate other) in
    let there : drop gate other ≡ at.0 ∷ rest =
    sym (take-append-drop 1 (drop gate other)) ∙ ap (λ (l : List ℕ). l ++ rest) (same_middle gate 1 other bytes front ∙ ap (λ (l : List ℕ). take 1 l) at.3) in
    closed_still format records gate bytes other part (same_front gate (gate + 1) other bytes (omega arith) front) at.0 rest at.2 there

-- Where a whole record and a closed gate stand behind the gate of a part, opening it adds the record.
pub opened_adds : (format : Format) → HasWidth format.width → (records : List (ℕ × List ℕ)) (gate : ℕ) (bytes other : List ℕ) → IsPart format records gate bytes
    → take gate other ≡ take gate bytes → (payload : List ℕ) (next : ℕ) (rest : List ℕ) → length records < 2 ^ 64 → length payload < 2 ^ 32 → next ≢ 1
    → drop gate other ≡ 1 ∷ record_bytes format (length records) payload ++ next ∷ rest
    → IsPart format (records ++ (gate, payload) ∷ []) (gate + needed_length format (length payload)) other
opened_adds format wide records gate bytes other part front payload next rest small short shut there =
    let number = length records in
    let later = gate + needed_length format (length payload) in
    let it = part_front format records gate bytes part other front (omega (arith, ap length there, length-drop gate other)) in
    record {
      header = it.0;
      reads = it.1 ∙ ap (λ (l : List ℕ). preceded records (reading_from format number gate l)) there
          ∙ ap (λ (r : Reading). preceded records r) (reads_spelled format number _ _ payload (next ∷ rest) gate (spelled format wide number payload small short) (omega arith))
          ∙ ap (λ (r : Reading). preceded records (preceded ((gate, payload) ∷ []) r)) (reading_from-closed format (number + 1) later next rest shut);
    }

-- the record stands behind some gate
stands_behind : (gate : ℕ) (bytes old new rest : List ℕ) → take gate new ≡ take gate old → gate < length new → drop (gate + 1) new ≡ bytes ++ rest → HasBehind gate bytes old new
stands_behind gate bytes old new rest front inside is =
    record { front = front; byte = get_or new gate 0; rest = rest; behind = drop_more new gate 0 inside ∙ ap (λ (l : List ℕ). get_or new gate 0 ∷ l) is }

-- it does once it is written
staged_behind : (gate : ℕ) (bytes old : List ℕ) → gate < length old → HasBehind gate bytes old (written (gate + 1) bytes old)
staged_behind gate bytes old inside =
    let front = take (gate + 1) old in
    let tail = drop (gate + 1 + length bytes) old in
    let size : length front ≡ gate + 1 = length-take-le (gate + 1) old (omega arith) in
    let it = parts_at front (bytes ++ tail) (written (gate + 1) bytes old) (gate + 1) (append_assoc front bytes tail) size in
    stands_behind gate bytes old (written (gate + 1) bytes old) tail (same_front gate (gate + 1) (written (gate + 1) bytes old) old (omega arith) it.0)
    (omega (arith, ap length it.0, size, length-take (gate + 1) (written (gate + 1) bytes old))) it.1

-- a torn gate is some byte, and the record stays behind it
torn_gate : (gate : ℕ) (bytes old new c : List ℕ) → HasBehind gate bytes old new → Torn (length new) gate 1 new c → HasBehind gate bytes old c
torn_gate gate bytes old new c has torn =
    let m = length new - (gate + 1) in
    let past = drop m (drop (gate + 1) c) in
    let inside : gate < length new = omega (arith, ap length has.behind, length-drop gate new) in
    let kept : take m (drop (gate + 1) c) ≡ bytes ++ has.rest =
    torn.behind ∙ take_all m (drop (gate + 1) new) (omega (arith, length-drop (gate + 1) new)) ∙ sym (drop-drop 1 gate new) ∙ ap (λ (l : List ℕ). drop 1 l) has.behind in
    stands_behind gate bytes old c (has.rest ++ past) (torn.before ∙ has.front) (omega (arith, inside, torn.no_shorter))
    (sym (take-append-drop m (drop (gate + 1) c)) ∙ ap (λ (l : List ℕ). l ++ past) kept ∙ append_assoc bytes has.rest past)

-- the record behind its gate, with the gate torn
pub torn_opening : (gate : ℕ) (bytes old c : List ℕ) → gate < length old → Torn (length (written (gate + 1) bytes old)) gate 1 (written (gate + 1) bytes old) c → IsTornRecord gate bytes old c
torn_opening gate bytes old c inside torn = inr (torn_gate gate bytes old (written (gate + 1) bytes old) c (staged_behind gate bytes old inside) torn)
