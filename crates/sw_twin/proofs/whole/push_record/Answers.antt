use Rattle.std.proofs.Common.{[], ◌∷◌, ◌++◌, length, ◌∙◌, ap, List, ℕ}
use Rattle.std.specs.Int.{w32, w64, to_be_bytes}
use Rattle.sw_twin.proofs.Spelling.{record_added}
use Rattle.sw_twin.proofs.whole.push_record.Goals as goal

pub returns : goal.returns
returns c =
    let payload = c.args.payload.now in
    let size = to_be_bytes w32 (length payload) in
    let number = to_be_bytes w64 c.args.number in
    let old = c.args.part.now.items in
    let sized = c.in_ok-extend_from_slice.ensures.items ∙ (λ i. c.in_ok-push.ensures.items i ++ c.to_be_bytes.ensures i) in
    let numbered = c.in_ok-extend_from_slice-2.ensures.items ∙ (λ i. sized i ++ c.to_be_bytes-2.ensures i) in
    c.in_ok-extend_from_slice-3.ensures.items ∙ ap (λ (l : List ℕ). l ++ payload) numbered ∙ record_added old (1 ∷ []) size number payload
