use Rattle.std.proofs.Common.{◌≡◌, ◌∙◌, List, sym, subst}
use Rattle.std.specs.Prelude.{filter, not}
use Rattle.std.specs.List.{IsDistinct}
use Rattle.std.specs.Map.{keys_of}
use Rattle.std.proofs.lemmas.Map.Made.{IsDistinct-keys_filter}
use Rattle.sw_list.specs.Named.{is_of}
use Rattle.sw_sizes.specs.Counted.{is_same}
use Rattle.sw_sizes.specs.Rows.{Row, rows_bytes}
use Rattle.sw_sizes.proofs.CountedLemmas.{counted_taken, held_within}
use Rattle.sw_sizes.proofs.sizes.Sizes.remove_key.Goals as goal

pub change-requires-clause-within : goal.change-requires-clause-within
change-requires-clause-within c = held_within c.self.inside.rows.rows c.self.inside.sums c.args.key.now c.self.invariant.0

pub invariant_of-self-2 : goal.invariant_of-self-2
invariant_of-self-2 c =
    let key = c.args.key.now in
    let rows = c.self.inside.rows.rows in
    let gone : c.of-gone.result ≡ rows_bytes (filter (is_of key) rows) = c.of-gone.ensures ∙ c.self.invariant.0.held key in (
      counted_taken key (is_of key) (λ row is. is) rows c.remove_key.new.self.rows c.self.inside.sums c.change.new.self c.of-gone.result c.self.invariant.0 c.remove_key.ensures gone c.in_ok-change.ensures.total c.in_ok-change.ensures.held,
      subst (λ (list : List Row). IsDistinct is_same (keys_of list)) (sym c.remove_key.ensures) (IsDistinct-keys_filter is_same (λ row. not (is_of key row)) rows c.self.invariant.1),
    )
