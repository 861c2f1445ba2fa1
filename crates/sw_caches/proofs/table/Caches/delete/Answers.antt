use Rattle.std.proofs.Common.{◌∙◌, ap, arith, map}
use Rattle.std.specs.Prelude.{filter, not}
use Rattle.sw_rules.specs.Storage.{is_cache}
use Rattle.sw_caches.specs.Sums.{at_key}
use Rattle.sw_caches.specs.Tables.{kept_row}
use Rattle.sw_caches.proofs.CarryLemmas.{held_within}
use Rattle.sw_caches.proofs.CountedLemmas.{counted_taken, of_key, taken_within}
use Rattle.sw_caches.proofs.TableLemmas.{filter_mapped}
use Rattle.sw_caches.proofs.table.Caches.delete.Goals as goal

pub named_bytes-gone-requires-clause-few : goal.named_bytes-gone-requires-clause-few
named_bytes-gone-requires-clause-few c = c.self.invariant.few

pub change-requires-clause-had : goal.change-requires-clause-had
change-requires-clause-had c =
    let key = c.args.key.now in
    let name = c.args.name.now in
    let less = taken_within key (is_cache key name) (of_key key name) (map kept_row c.self.inside.rows.rows) in
    let gone = c.named_bytes-gone.ensures in
    let held = c.self.invariant.held key in
    omega (arith, less, gone, held)

pub change-requires-clause-within : goal.change-requires-clause-within
change-requires-clause-within c = held_within c.self.inside.rows.rows c.self.inside.sums c.args.key.now c.self.invariant

pub change-requires-clause-fits : goal.change-requires-clause-fits
change-requires-clause-fits c = let few = c.self.invariant.few in let total = c.self.invariant.total in omega (arith, few, total)

pub invariant_of-self : goal.invariant_of-self
invariant_of-self c =
    let key = c.args.key.now in
    let name = c.args.name.now in
    let rows = c.self.inside.rows.rows in
    let new = c.remove_named.new.self.rows in
    counted_taken key (is_cache key name) (of_key key name) rows new c.self.inside.sums c.change.new.self c.self.invariant c.remove_named.ensures
    (ap (map kept_row) c.remove_named.ensures ∙ filter_mapped kept_row (λ row. not (is_cache key name row)) rows)
    (let total = c.change.ensures.total in let gone = c.named_bytes-gone.ensures in omega (arith, total, gone))
    (λ other. let held = c.change.ensures.held other in let same = ap (at_key key other) c.named_bytes-gone.ensures in omega (arith, held, same))

pub returns-clause-rows : goal.returns-clause-rows
returns-clause-rows c =
    ap (map kept_row) c.remove_named.ensures
    ∙ (filter_mapped kept_row (λ row. not (is_cache c.args.key.now c.args.name.now row)) c.self.inside.rows.rows
    ∙ ap (λ table. filter (λ row. not (is_cache c.args.key.now c.args.name.now row)) table.rows) c.self.view_is)
