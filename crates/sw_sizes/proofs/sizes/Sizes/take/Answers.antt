use Rattle.std.proofs.Common.{◌≡◌, ◌∙◌, List, sym, subst, ap, arith}
use Rattle.std.specs.Prelude.{filter, not}
use Rattle.std.specs.List.{IsDistinct}
use Rattle.std.specs.Map.{keys_of}
use Rattle.std.proofs.lemmas.Map.Made.{IsDistinct-keys_filter}
use Rattle.sw_list.specs.Named.{is_at}
use Rattle.sw_sizes.specs.Counted.{is_same}
use Rattle.sw_sizes.specs.Rows.{Row, rows_bytes}
use Rattle.sw_sizes.proofs.CountedLemmas.{counted_taken, held_within, of_key, taken_within}
use Rattle.sw_sizes.proofs.sizes.Sizes.take.Goals as goal

pub change-requires-clause-had : goal.change-requires-clause-had
change-requires-clause-had c =
    let key = c.args.key.now in
    let scope = c.args.scope.now in
    let rows = c.self.inside.rows.rows in
    let gone : c.args.gone ≡ rows_bytes (filter (is_at key scope) rows) = c.requires ∙ ap (λ (list : List Row). rows_bytes (filter (is_at key scope) list)) (sym c.self.view_is) in
    let less = taken_within key (is_at key scope) (of_key key scope) rows in
    let held = c.self.invariant.0.held key in
    omega (arith, gone, less, held)

pub change-requires-clause-within : goal.change-requires-clause-within
change-requires-clause-within c = held_within c.self.inside.rows.rows c.self.inside.sums c.args.key.now c.self.invariant.0

pub invariant_of-self-2 : goal.invariant_of-self-2
invariant_of-self-2 c =
    let key = c.args.key.now in
    let scope = c.args.scope.now in
    let rows = c.self.inside.rows.rows in
    let gone : c.args.gone ≡ rows_bytes (filter (is_at key scope) rows) = c.requires ∙ ap (λ (list : List Row). rows_bytes (filter (is_at key scope) list)) (sym c.self.view_is) in (
      counted_taken key (is_at key scope) (of_key key scope) rows c.remove_named.new.self.rows c.self.inside.sums c.change.new.self c.args.gone c.self.invariant.0 c.remove_named.ensures gone c.in_ok-change.ensures.total c.in_ok-change.ensures.held,
      subst (λ (list : List Row). IsDistinct is_same (keys_of list)) (sym c.remove_named.ensures) (IsDistinct-keys_filter is_same (λ row. not (is_at key scope row)) rows c.self.invariant.1),
    )
