use Rattle.std.proofs.Common.{◌≡◌, ◌∙◌, ◌++◌, ◌∷◌, [], ap, sym, subst}
use Rattle.std.specs.List.{IsDistinct, list_any}
use Rattle.std.specs.Map.{keys_of}
use Rattle.sw_list.specs.Named.{is_at}
use Rattle.sw_sizes.specs.Counted.{is_same}
use Rattle.sw_sizes.specs.Rows.{Row}
use Rattle.sw_sizes.proofs.CountedLemmas.{counted_put, counted_same, held_within}
use Rattle.sw_sizes.proofs.RowLemmas.{added_apart}
use Rattle.sw_sizes.proofs.sizes.Sizes.add.Goals as goal

pub change-requires-clause-within : goal.change-requires-clause-within
change-requires-clause-within c = held_within c.self.inside.rows.rows c.self.inside.sums c.args.key.now c.self.invariant.0

pub invariant_of-self-in_err-change : goal.invariant_of-self-in_err-change
invariant_of-self-in_err-change c =
    rw c.in_ok-new.ensures.same (counted_same c.self.inside.rows.rows c.self.inside.sums c.change.new.self c.self.invariant.0 c.in_err-change.ensures.same c.in_err-change.ensures.kept, c.self.invariant.1)

pub invariant_of-self-2 : goal.invariant_of-self-2
invariant_of-self-2 c =
    let rows = c.self.inside.rows.rows in
    let key = c.args.key.now in
    let scope = c.args.scope.now in
    let row : Row = ((key, scope), c.args.parts) in
    let made = c.in_ok-new.ensures in
    let added : c.put.new.self.rows ≡ rows ++ row ∷ [] =
    c.put.ensures ∙ (λ i. made.same i ++ (((made.key ∙ c.in_ok-copy.ensures) i, (made.name ∙ c.in_ok-copy-2.ensures) i), c.args.parts) ∷ []) in (
      counted_put rows c.put.new.self.rows c.self.inside.sums c.change.new.self row c.in_ok-bytes.bytes c.self.invariant.0 added c.in_ok-bytes.ensures c.in_ok-change.ensures.total c.in_ok-change.ensures.held,
      subst (λ (list : _). IsDistinct is_same (keys_of list)) (sym added)
          (added_apart key scope c.args.parts rows c.self.invariant.1 (ap (list_any (is_at key scope)) c.self.view_is ∙ c.requires)),
    )
