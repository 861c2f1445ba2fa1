-- The steps of reading a part's records.
use Rattle.std.proofs.Common.{◌≡◌, ◌≢◌, ℕ, ◌+◌, ◌-◌, ◌<◌, ◌≤◌, Bool, true, false, List, [], ◌∷◌, ◌++◌, length, get_or, take, drop, Option, Some, None, refl, sym, ◌∙◌, ap, subst, arith, append_assoc, length-drop}
use Rattle.std.proofs.lemmas.List.{append-nil, drop_more, nil_from_length, take_rest, length_push}
use Rattle.std.specs.Prelude.{MatchOption}
use Rattle.sw_journal.specs.Format.{Format}
use Rattle.sw_journal.specs.Content.{Reading, IsRecord, ends, preceded, payload_length, reading, reading_from}
use Rattle.sw_journal.proofs.PartLemmas.{whole_is, reading_from-nil, reading_from-closed, reading_from-open}

-- these records were read, and this rest of the bytes, from a gate on, is to be read
pub record SoFar (format : Format) (bytes : List ℕ) (records : List (ℕ × List ℕ)) (gate : ℕ) (rest : List ℕ) : Type 0 where
  pub reads : preceded records (reading_from format (length records) gate rest) ≡ reading format bytes
  pub place : gate + length rest ≡ length bytes

-- before the first
pub starts : (format : Format) (bytes : List ℕ) (records : List (ℕ × List ℕ)) (rest : List ℕ) → records ≡ [] → rest ≡ drop 16 bytes → 16 ≤ length bytes → SoFar format bytes records 16 rest
unfolding reading
starts format bytes records rest none is long = record {
  reads = (λ i. preceded (none i) (reading_from format (length (none i)) 16 (is i)));
  place = omega (arith, ap length is, length-drop 16 bytes);
}

-- what is known where no record was found
pub none_of : {X : Type 0} (found : Option X) (P : Type 0) (Q : X → Type 0) → MatchOption found P Q → ((x : X) → found ≡ Some x → ⊥) → P
none_of None P Q known isnt = known
none_of (Some x) P Q known isnt = absurd (isnt x refl)

module _ {format : Format} {bytes : List ℕ} {records : List (ℕ × List ℕ)} {gate : ℕ} {rest : List ℕ} (it : SoFar format bytes records gate rest) where
  ended : (is_closed : Bool) → reading_from format (length records) gate rest ≡ ends gate is_closed → reading format bytes ≡ record { records = records; gate = gate; is_closed = is_closed }
  ended is_closed is =
      sym it.reads ∙ ap (λ (r : Reading). preceded records r) is ∙ ap (λ (l : List (ℕ × List ℕ)). record { records = l; gate = gate; is_closed = is_closed }) (append-nil records)

  -- the bytes end
  pub end_step : length rest < 1 → reading format bytes ≡ record { records = records; gate = gate; is_closed = false }
  end_step short = ended false (ap (λ (l : List ℕ). reading_from format (length records) gate l) (nil_from_length rest (omega arith)) ∙ reading_from-nil format (length records) gate)

  head : 1 ≤ length rest → rest ≡ get_or rest 0 0 ∷ drop 1 rest
  head long = drop_more rest 0 0 (omega arith)

  -- the gate is closed
  pub closed_step : 1 ≤ length rest → get_or rest 0 0 ≢ 1 → reading format bytes ≡ record { records = records; gate = gate; is_closed = true }
  closed_step long shut =
      ended true (ap (λ (l : List ℕ). reading_from format (length records) gate l) (head long) ∙ reading_from-closed format (length records) gate (get_or rest 0 0) (drop 1 rest) shut)

  module _ (number : ℕ) (number_is : number ≡ length records) (long : 1 ≤ length rest) (open_now : get_or rest 0 0 ≡ 1) where
    opened : reading_from format (length records) gate rest ≡ reading_from format (length records) gate (1 ∷ drop 1 rest)
    opened = ap (λ (l : List ℕ). reading_from format (length records) gate l) (head long ∙ ap (λ (b : ℕ). b ∷ drop 1 rest) open_now)

    -- no whole record is behind an open gate
    pub bad_step : payload_length format number (take (length rest - 1) (drop 1 rest)) ≡ None → reading format bytes ≡ record { records = records; gate = gate; is_closed = false }
    bad_step none =
        ended false (opened ∙ reading_from-open format (length records) gate (drop 1 rest) None ((λ i. payload_length format (sym number_is i) (sym (take_rest rest 1) i)) ∙ none))

    -- a whole record is
    pub record_step : (payload next : List ℕ) (more : List (ℕ × List ℕ)) (width : ℕ) → width ≡ format.width → more ≡ records ++ (gate, payload) ∷ []
        → IsRecord format number (take (length rest - 1) (drop 1 rest)) payload next → SoFar format bytes more (gate + (5 + width + length payload)) next
    record_step payload next more width width_is more_is found =
        let behind = drop 1 rest in
        let later = gate + (5 + format.width + length payload) in
        let then = reading_from format (length records + 1) later next in
        let is = subst (λ k. IsRecord format k behind payload next) number_is (subst (λ l. IsRecord format number l payload next) (take_rest rest 1) found) in
        let whole = whole_is format (length records) behind (length payload) is.is_whole in
        let count : length more ≡ length records + 1 = ap length more_is ∙ length_push records (gate, payload) in
        record {
          reads = (λ i. preceded (more_is i) (reading_from format (count i) (gate + (5 + width_is i + length payload)) next))
              ∙ ap (λ (l : List (ℕ × List ℕ)). record { records = l; gate = then.gate; is_closed = then.is_closed }) (append_assoc records ((gate, payload) ∷ []) then.records)
              ∙ (λ i. preceded records (preceded ((gate, is.payload_is i) ∷ []) (reading_from format (length records + 1) later (is.rest_is i))))
              ∙ ap (λ (r : Reading). preceded records r) (sym (opened ∙ reading_from-open format (length records) gate behind (Some (length payload)) is.is_whole)) ∙ it.reads;
          place = omega (arith, it.place, width_is, whole.fits, ap length is.rest_is, length-drop (4 + format.width + length payload) behind, length-drop 1 rest);
        }
