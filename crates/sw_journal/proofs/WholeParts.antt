-- What a part that is written whole stands for.
use Rattle.std.proofs.Common.{◌≡◌, inr, ℕ, suc, ◌+◌, ◌^◌, ◌<◌, List, [], ◌∷◌, ◌++◌, length, All, refl, sym, ◌∙◌, ap, subst, arith, append_assoc, length-append}
use Rattle.sw_journal.specs.Format.{Format, format_2, format_of, record_bytes, needed_length}
use Rattle.sw_journal.specs.Content.{Records, Reading, preceded, reading_from, reading, content, up_to, IsPart, EndsAt}
use Rattle.sw_journal.specs.WholePart.{open_records, whole_part, placed, place_behind, IsWhole}
use Rattle.sw_journal.proofs.PartLemmas.{reading_from-closed, reads_spelled}
use Rattle.sw_journal.proofs.PartChanges.{HasWidth, spelled, content-part}

pub reads_open : (format : Format) → HasWidth format.width → (number gate : ℕ) (payloads : List (List ℕ)) → All (λ p. length p < 2 ^ 32) payloads → number + length payloads < 2 ^ 64
    → reading_from format number gate (open_records format number payloads ++ 0 ∷ []) ≡ up_to (placed format gate payloads) (place_behind format gate payloads)
reads_open format wide number gate [] short few = reading_from-closed format number gate 0 [] (λ one. omega (arith, one))
reads_open format wide number gate (payload ∷ payloads) short few =
    let rest = open_records format (number + 1) payloads in
    ap (λ (l : List ℕ). reading_from format number gate (1 ∷ l)) (append_assoc (record_bytes format number payload) rest (0 ∷ []))
    ∙ reads_spelled format number _ _ payload (rest ++ 0 ∷ []) gate (spelled format wide number payload (omega (arith, few)) (short 0 [] (omega arith))) (omega (arith, length-append rest (0 ∷ [])))
    ∙ ap (λ (r : Reading). preceded ((gate, payload) ∷ []) r) (reads_open format wide (number + 1) (gate + needed_length format (length payload)) payloads (λ k d within. short (suc k) d (omega (arith, within))) (omega (arith, few)))

-- a whole part of format 2 is a part with its payloads
pub whole_2 : (payloads : List (List ℕ)) → All (λ p. length p < 2 ^ 32) payloads → length payloads < 2 ^ 64
    → IsPart format_2 (placed format_2 16 payloads) (place_behind format_2 16 payloads) (whole_part format_2 payloads)
unfolding format_of reading
whole_2 payloads short few = record {
  header = refl;
  reads = reads_open format_2 (inr refl) 0 16 payloads short (omega (arith, few));
}

pub content-whole_2 : (payloads : List (List ℕ)) → All (λ p. length p < 2 ^ 32) payloads → length payloads < 2 ^ 64 → content (whole_part format_2 payloads) ≡ Records (placed format_2 16 payloads)
content-whole_2 payloads short few =
    content-part format_2 (placed format_2 16 payloads) (place_behind format_2 16 payloads) (whole_part format_2 payloads) (whole_2 payloads short few)

length-placed : (format : Format) (gate : ℕ) (payloads : List (List ℕ)) → length (placed format gate payloads) ≡ length payloads
length-placed format gate [] = refl
length-placed format gate (payload ∷ payloads) = ap suc (length-placed format (gate + needed_length format (length payload)) payloads)

-- where its reading ends, a journal with that gate and that count stands
module _ (payloads : List (List ℕ)) (bytes : List ℕ) (is : IsWhole payloads bytes) (gate count : ℕ) (end : EndsAt format_2 bytes gate count) where
  part : IsPart format_2 (placed format_2 16 payloads) (place_behind format_2 16 payloads) bytes
  part = subst (IsPart format_2 (placed format_2 16 payloads) (place_behind format_2 16 payloads)) (sym is.whole) (whole_2 payloads is.short is.few)

  same : up_to (placed format_2 16 payloads) (place_behind format_2 16 payloads) ≡ record { records = end.records; gate = gate; is_closed = end.is_closed }
  same = sym part.reads ∙ end.reads

  pub end_is : (gate ≡ place_behind format_2 16 payloads) × (count ≡ length payloads)
  end_is = (
    sym (ap (λ (r : Reading). r.gate) same),
    sym end.number ∙ sym (ap (λ (r : Reading). length r.records) same) ∙ length-placed format_2 16 payloads,
  )

  pub stands_in : (records : List (ℕ × List ℕ)) × (length records ≡ count) × IsPart format_2 records gate bytes
  stands_in =
      (placed format_2 16 payloads, length-placed format_2 16 payloads ∙ sym end_is.1, subst (λ g. IsPart format_2 (placed format_2 16 payloads) g bytes) (sym end_is.0) part)
