-- One more number at each place.
use Rattle.std.proofs.Common.{◌∙◌, ◌≡◌, ℕ, List, ◌∷◌, [], ◌++◌, Some, ap, arith, sym}
use Rattle.std.proofs.lemmas.List.{length-map}
use Rattle.std.specs.Map.{values_of}
use Rattle.std.specs.List.{slice_get}
use Rattle.std.specs.Option.{option_copied}
use Rattle.sw_roster.proofs.Numbers.{past_none, took}
use Rattle.sw_roster.proofs.recent.Recent.numbers.Goals as goal
use Rattle.sw_roster.proofs.recent.Recent.numbers.Goals.{in-Some+in_ok-push, in_default}

pub loop-place-preserved : goal.loop-place-preserved
loop-place-preserved c =
    elim c.match-at.branch [
      | in-Some+in_ok-push w ↦ (
          let all = values_of c.self.inside.numbers.entries in
          let here : slice_get all c.loop-place.place ≡ Some w.in-Some.number.now = sym c.at.ensures ∙ ap option_copied w.in-Some.is in
          ap (λ v. v.items) w.all-is ∙ w.in_ok-push.ensures.items
          ∙ ap (λ (xs : List ℕ). xs ++ w.in-Some.number.now ∷ []) c.loop-place.invariant
          ∙ sym (took all c.loop-place.place w.in-Some.number.now here))
      | in_default w ↦ absurd
          (past_none (values_of c.self.inside.numbers.entries) c.loop-place.place
          (omega (arith, c.loop-place-test.true, c.len-place-end.ensures, length-map c.self.inside.numbers.entries (λ (entry : ℕ × ℕ). entry.1)))
          (sym c.at.ensures ∙ ap option_copied w.in_default.is))
    ]
