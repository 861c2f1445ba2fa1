-- How a part reads: gate by gate, and when its bytes change behind a gate.
use Rattle.std.proofs.Common.{◌≡◌, ◌≢◌, inl, inr, ℕ, zero, suc, ◌+◌, ◌<◌, ◌≤◌, Bool, true, false, List, [], ◌∷◌, ◌++◌, length, take, drop, Option, Some, None, refl, sym, ◌∙◌, ap, subst, arith, append_assoc, length-append, length-take, length-drop, take-append-drop}
use Rattle.std.specs.Prelude.{◌==◌, if◌then◌else◌}
use Rattle.std.specs.Int.{w32, from_be_bytes}
use Rattle.std.proofs.lemmas.List.{drop-take, take-take, take_at, drop_at, places}
use Rattle.std.proofs.lemmas.Grind.{same_number_lists}
use Rattle.std.proofs.lemmas.Bool.{cases_eq, and_right, cond-false}
use Rattle.std.proofs.lemmas.Bool.Decides.{nat_tests}
use Rattle.sw_journal.specs.Format.{Format, is_numbered}
use Rattle.sw_journal.specs.Content.{Reading, ends, preceded, payload_length, reading_on, reading_within, reading_from}

-- what reading goes on with matters only where a record is whole
on_same : (format : Format) (gate : ℕ) (bytes : List ℕ) (next other : ℕ → List ℕ → Reading) (found : Option ℕ)
    → ((g : ℕ) (size : ℕ) → next g (drop (4 + format.width + size) bytes) ≡ other g (drop (4 + format.width + size) bytes))
    → reading_on format gate bytes next found ≡ reading_on format gate bytes other found
on_same format gate bytes next other None same = refl
on_same format gate bytes next other (Some size) same =
    ap (λ (r : Reading). preceded ((gate, take size (drop (4 + format.width) bytes)) ∷ []) r) (same (gate + (5 + format.width + size)) size)

-- more steps than bytes read no more
enough : (s t : ℕ) (format : Format) (number gate : ℕ) (bytes : List ℕ) → length bytes ≤ s → length bytes ≤ t
    → reading_within s format number gate bytes ≡ reading_within t format number gate bytes
unfolding reading_within
enough s t format number gate [] less more = refl
enough zero t format number gate (byte ∷ bytes) less more = absurd (omega arith)
enough (suc s) zero format number gate (byte ∷ bytes) less more = absurd (omega arith)
enough (suc s) (suc t) format number gate (byte ∷ bytes) less more =
    ap (λ (r : Reading). if byte == 1 then r else ends gate true)
    (on_same format gate bytes (λ g rest. reading_within s format (number + 1) g rest) (λ g rest. reading_within t format (number + 1) g rest) (payload_length format number bytes)
    (λ g size. let fewer = length-drop (4 + format.width + size) bytes in enough s t format (number + 1) g (drop (4 + format.width + size) bytes) (omega arith) (omega arith)))

-- the first gate is missing
pub reading_from-nil : (format : Format) (number gate : ℕ) → reading_from format number gate [] ≡ ends gate false
unfolding reading_from reading_within
reading_from-nil format number gate = refl

-- a closed gate
pub reading_from-closed : (format : Format) (number gate byte : ℕ) (bytes : List ℕ) → byte ≢ 1 → reading_from format number gate (byte ∷ bytes) ≡ ends gate true
unfolding reading_from reading_within
reading_from-closed format number gate byte bytes shut = grind (arith, nat_tests)

-- an open gate, and what is behind it
pub reading_from-open : (format : Format) (number gate : ℕ) (bytes : List ℕ) (found : Option ℕ) → payload_length format number bytes ≡ found
    → reading_from format number gate (1 ∷ bytes) ≡ reading_on format gate bytes (λ g rest. reading_from format (number + 1) g rest) found
unfolding reading_from reading_within
reading_from-open format number gate bytes found is =
    on_same format gate bytes (λ g rest. reading_within (length bytes) format (number + 1) g rest) (λ g rest. reading_from format (number + 1) g rest) (payload_length format number bytes)
    (λ g size. enough (length bytes) (length (drop (4 + format.width + size) bytes)) format (number + 1) g (drop (4 + format.width + size) bytes)
    (omega (arith, length-drop (4 + format.width + size) bytes)) (omega arith))
    ∙ ap (λ (it : Option ℕ). reading_on format gate bytes (λ g rest. reading_from format (number + 1) g rest) it) is

-- a record that is whole at the front of these bytes, behind its gate
pub record Whole (format : Format) (number : ℕ) (bytes : List ℕ) (size : ℕ) : Type 0 where
  pub is_size : from_be_bytes w32 (take 4 bytes) ≡ size
  pub fits : 4 + format.width + size < length bytes
  pub numbered : is_numbered format number (take format.width (drop 4 bytes)) ≡ true

pub whole_is : (format : Format) (number : ℕ) (bytes : List ℕ) (size : ℕ) → payload_length format number bytes ≡ Some size → Whole format number bytes size
unfolding payload_length
whole_is format number bytes size found = record { is_size = grind (arith, nat_tests); fits = grind (arith, nat_tests); numbered = grind (arith, nat_tests) }

pub is_whole : (format : Format) (number : ℕ) (bytes : List ℕ) (size : ℕ) → Whole format number bytes size → payload_length format number bytes ≡ Some size
unfolding payload_length
is_whole format number bytes size whole = grind (arith, nat_tests)

-- where a record is not whole
pub payload_length-short : (format : Format) (number : ℕ) (bytes : List ℕ) → length bytes ≤ 4 + format.width + from_be_bytes w32 (take 4 bytes) → payload_length format number bytes ≡ None
unfolding payload_length
payload_length-short format number bytes short = grind (arith, nat_tests)

pub payload_length-unnumbered : (format : Format) (number : ℕ) (bytes : List ℕ) → is_numbered format number (take format.width (drop 4 bytes)) ≡ false → payload_length format number bytes ≡ None
unfolding payload_length
payload_length-unnumbered format number bytes other = cond-false _ _ _ (and_right _ _ other)

-- what lists with one front have in common
pub same_front : (m n : ℕ) (a b : List ℕ) → m ≤ n → take n a ≡ take n b → take m a ≡ take m b
same_front m n a b le same = sym (take-take m n a le) ∙ ap (λ (l : List ℕ). take m l) same ∙ take-take m n b le

pub same_middle : (m n : ℕ) (a b : List ℕ) → take (m + n) a ≡ take (m + n) b → take n (drop m a) ≡ take n (drop m b)
same_middle m n a b same = sym (drop-take m n a) ∙ ap (λ (l : List ℕ). drop m l) same ∙ drop-take m n b

-- one part of a list, and then the next
pub take_both : (m n : ℕ) (l : List ℕ) → take (m + n) l ≡ take m l ++ take n (drop m l)
take_both m n l = same_number_lists _ _ (search (arith, places)) (λ k lt. grind (arith, places))

-- the two parts of which a list is made
pub parts_at : (front back l : List ℕ) (n : ℕ) → l ≡ front ++ back → length front ≡ n → (take n l ≡ front) × (drop n l ≡ back)
parts_at front back l n is size = (ap (λ (l : List ℕ). take n l) is ∙ take_at front back n size, ap (λ (l : List ℕ). drop n l) is ∙ drop_at front back n size)

-- a record behind its gate: these are its length, its number and its payload
pub record IsSpelled (format : Format) (number : ℕ) (size told payload : List ℕ) : Type 0 where
  pub four : length size ≡ 4
  pub wide : length told ≡ format.width
  pub is_size : from_be_bytes w32 size ≡ length payload
  pub numbered : is_numbered format number told ≡ true

-- it is read, where some gate is behind it
pub reads_spelled : (format : Format) (number : ℕ) (size told payload tail : List ℕ) (gate : ℕ) → IsSpelled format number size told payload → 0 < length tail
    → reading_from format number gate (1 ∷ (size ++ told ++ payload ++ tail))
    ≡ preceded ((gate, payload) ∷ []) (reading_from format (number + 1) (gate + (5 + format.width + length payload)) tail)
reads_spelled format number size told payload tail gate it some =
    let n = length payload in
    let bytes = size ++ told ++ payload ++ tail in
    let long : length (size ++ told) ≡ 4 + format.width = omega (arith, it.four, it.wide, length-append size told) in
    let after : bytes ≡ (size ++ told) ++ (payload ++ tail) = append_assoc (size ++ told) payload tail in
    let first = parts_at size (told ++ (payload ++ tail)) bytes 4 (after ∙ append_assoc size told (payload ++ tail)) it.four in
    let second = parts_at told (payload ++ tail) (drop 4 bytes) format.width first.1 it.wide in
    let third = parts_at payload tail (drop (4 + format.width) bytes) n (parts_at (size ++ told) (payload ++ tail) bytes (4 + format.width) after long).1 refl in
    let behind : drop (4 + format.width + n) bytes ≡ tail = drop_at (size ++ told ++ payload) tail (4 + format.width + n) (omega (arith, long, length-append (size ++ told) payload)) in
    reading_from-open format number gate bytes (Some n) (is_whole format number bytes n (record {
      is_size = ap (λ (l : List ℕ). from_be_bytes w32 l) first.0 ∙ it.is_size;
      fits = omega (arith, some, long, length-append (size ++ told ++ payload) tail, length-append (size ++ told) payload);
      numbered = ap (λ (l : List ℕ). is_numbered format number l) second.0 ∙ it.numbered;
    }))
    ∙ (λ i. preceded ((gate, third.0 i) ∷ []) (reading_from format (number + 1) (gate + (5 + format.width + n)) (behind i)))

-- How a reading goes up to the gate at which it ends: these bytes are before it, and they read the same before any other gate
pub record Splits (format : Format) (number gate : ℕ) (bytes : List ℕ) (reading : Reading) : Type 0 where
  pub front : List ℕ
  pub tail : List ℕ
  pub bytes_are : front ++ tail ≡ bytes
  pub gate_is : reading.gate ≡ gate + length front
  pub closed : reading.is_closed ≡ true → (byte : ℕ) × (rest : List ℕ) × (byte ≢ 1) × (tail ≡ byte ∷ rest)
  pub same : (back : List ℕ) → 0 < length back
      → reading_from format number gate (front ++ back) ≡ preceded reading.records (reading_from format (number + length reading.records) reading.gate back)

stops : (format : Format) (number gate : ℕ) (bytes : List ℕ) (is_closed : Bool)
    → (is_closed ≡ true → (byte : ℕ) × (rest : List ℕ) × (byte ≢ 1) × (bytes ≡ byte ∷ rest)) → Splits format number gate bytes (ends gate is_closed)
stops format number gate bytes is_closed shut = record {
  front = [];
  tail = bytes;
  bytes_are = refl;
  gate_is = omega arith;
  closed = shut;
  same = λ back some. let n : number ≡ number + 0 = omega arith in ap (λ (k : ℕ). reading_from format k gate back) n;
}

-- a whole record is read in front of any gate, and then what is behind it
reads_front : (format : Format) (number gate : ℕ) (bytes : List ℕ) (size : ℕ) (tail : List ℕ) → Whole format number bytes size → 0 < length tail
    → reading_from format number gate (1 ∷ (take (4 + format.width + size) bytes ++ tail))
    ≡ preceded ((gate, take size (drop (4 + format.width) bytes)) ∷ []) (reading_from format (number + 1) (gate + (5 + format.width + size)) tail)
reads_front format number gate bytes size tail whole some =
    let payload = take size (drop (4 + format.width) bytes) in
    let long : length payload ≡ size = omega (arith, whole.fits, length-take size (drop (4 + format.width) bytes), length-drop (4 + format.width) bytes) in
    ap (λ (l : List ℕ). reading_from format number gate (1 ∷ (l ++ tail))) (take_both (4 + format.width) size bytes ∙ ap (λ (l : List ℕ). l ++ payload) (take_both 4 format.width bytes))
    ∙ reads_spelled format number (take 4 bytes) (take format.width (drop 4 bytes)) payload tail gate (record {
      four = omega (arith, whole.fits, length-take 4 bytes);
      wide = omega (arith, whole.fits, length-take format.width (drop 4 bytes), length-drop 4 bytes);
      is_size = whole.is_size ∙ sym long;
      numbered = whole.numbered;
    }) some
    ∙ ap (λ (n : ℕ). preceded ((gate, payload) ∷ []) (reading_from format (number + 1) (gate + (5 + format.width + n)) tail)) long

goes_on : (format : Format) (number gate : ℕ) (rest : List ℕ) (size : ℕ) (later : Reading) → Whole format number rest size
    → Splits format (number + 1) (gate + (5 + format.width + size)) (drop (4 + format.width + size) rest) later
    → Splits format number gate (1 ∷ rest) (preceded ((gate, take size (drop (4 + format.width) rest)) ∷ []) later)
goes_on format number gate rest size later whole splits =
    let m = 4 + format.width + size in
    let one : List (ℕ × List ℕ) = (gate, take size (drop (4 + format.width) rest)) ∷ [] in
    let n : number + 1 + length later.records ≡ number + suc (length later.records) = omega arith in
    record {
      front = 1 ∷ (take m rest ++ splits.front);
      tail = splits.tail;
      bytes_are = ap (λ (l : List ℕ). 1 ∷ l) (append_assoc (take m rest) splits.front splits.tail ∙ ap (λ (l : List ℕ). take m rest ++ l) splits.bytes_are ∙ take-append-drop m rest);
      gate_is = omega (arith, splits.gate_is, whole.fits, length-append (take m rest) splits.front, length-take m rest);
      closed = splits.closed;
      same = λ back some. ap (λ (l : List ℕ). reading_from format number gate (1 ∷ l)) (append_assoc (take m rest) splits.front back)
          ∙ reads_front format number gate rest size (splits.front ++ back) whole (omega (arith, some, length-append splits.front back))
          ∙ ap (λ (r : Reading). preceded one r) (splits.same back some) ∙ ap (λ (k : ℕ). preceded (one ++ later.records) (reading_from format k later.gate back)) n;
    }

splits_open : (format : Format) (number gate : ℕ) (rest : List ℕ)
    → ((g size : ℕ) → Splits format (number + 1) g (drop (4 + format.width + size) rest) (reading_from format (number + 1) g (drop (4 + format.width + size) rest)))
    → (found : Option ℕ) → payload_length format number rest ≡ found → Splits format number gate (1 ∷ rest) (reading_from format number gate (1 ∷ rest))
splits_open format number gate rest later None is =
    subst (Splits format number gate (1 ∷ rest)) (sym (reading_from-open format number gate rest None is)) (stops format number gate (1 ∷ rest) false (λ shut. absurd (cc)))
splits_open format number gate rest later (Some size) is =
    subst (Splits format number gate (1 ∷ rest)) (sym (reading_from-open format number gate rest (Some size) is))
    (goes_on format number gate rest size _ (whole_is format number rest size is) (later (gate + (5 + format.width + size)) size))

-- each reading splits its bytes
pub splits_within : (steps : ℕ) (format : Format) (number gate : ℕ) (bytes : List ℕ) → length bytes ≤ steps → Splits format number gate bytes (reading_from format number gate bytes)
splits_within steps format number gate [] few =
    subst (Splits format number gate []) (sym (reading_from-nil format number gate)) (stops format number gate [] false (λ shut. absurd (cc)))
splits_within zero format number gate (byte ∷ rest) few = absurd (omega arith)
splits_within (suc steps) format number gate (byte ∷ rest) few = elim (cases_eq byte 1) [
  | inr shut ↦
      subst (Splits format number gate (byte ∷ rest)) (sym (reading_from-closed format number gate byte rest shut))
      (stops format number gate (byte ∷ rest) true (λ _. (byte, rest, shut, refl)))
  | inl is_open ↦
      subst (λ (b : ℕ). Splits format number gate (b ∷ rest) (reading_from format number gate (b ∷ rest))) (sym is_open)
      (splits_open format number gate rest
      (λ g size. splits_within steps format (number + 1) g (drop (4 + format.width + size) rest) (omega (arith, length-drop (4 + format.width + size) rest)))
      (payload_length format number rest) refl)
]
