use Rattle.std.proofs.Common.{◌≡◌, ◌∙◌, ap, arith, map}
use Rattle.std.specs.Prelude.{bytes_eq, filter, not}
use Rattle.sw_data.specs.declared.storage.KeptCache.{KeptCache}
use Rattle.sw_caches.specs.Tables.{kept_row}
use Rattle.sw_caches.specs.Sums.{at_key}
use Rattle.sw_caches.specs.Bytes.{bytes_of}
use Rattle.sw_caches.proofs.CarryLemmas.{held_within}
use Rattle.sw_caches.proofs.CountedLemmas.{counted_taken}
use Rattle.sw_caches.proofs.TableLemmas.{filter_mapped}
use Rattle.sw_caches.proofs.table.Caches.drop_key.Goals as goal

pub change-requires-clause-within : goal.change-requires-clause-within
change-requires-clause-within c = held_within c.self.inside.rows.rows c.self.inside.sums c.args.key.now c.self.invariant

pub change-requires-clause-fits : goal.change-requires-clause-fits
change-requires-clause-fits c = let few = c.self.invariant.few in let total = c.self.invariant.total in omega (arith, few, total)

pub invariant_of-self : goal.invariant_of-self
invariant_of-self c =
    let key = c.args.key.now in
    let rows = c.self.inside.rows.rows in
    let new = c.remove_key.new.self.rows in
    let gone : c.of-bytes.result ≡ bytes_of (filter (λ (row : KeptCache). bytes_eq row.key key) (map kept_row rows)) = c.of-bytes.ensures ∙ c.self.invariant.held key in
    counted_taken key (λ row. bytes_eq row.key key) (λ row is. is) rows new c.self.inside.sums c.change.new.self c.self.invariant c.remove_key.ensures
    (ap (map kept_row) c.remove_key.ensures ∙ filter_mapped kept_row (λ row. not (bytes_eq row.key key)) rows)
    (let total = c.change.ensures.total in omega (arith, total, gone))
    (λ other. let held = c.change.ensures.held other in let same = ap (at_key key other) gone in omega (arith, held, same))

pub returns : goal.returns
returns c =
    ap (map kept_row) c.remove_key.ensures
    ∙ (filter_mapped kept_row (λ row. not (bytes_eq row.key c.args.key.now)) c.self.inside.rows.rows
    ∙ ap (λ table. filter (λ row. not (bytes_eq row.key c.args.key.now)) table.rows) c.self.view_is)
