use Rattle.std.proofs.Common.{◌∙◌, ap}
use Rattle.sw_list.specs.Named.{named_row}
use Rattle.sw_rules.specs.Caching.{pairs_of}
use Rattle.sw_caches.proofs.TableLemmas.{none_at, pairs_at}
use Rattle.sw_caches.proofs.table.Caches.cache.Goals as goal

pub returns-in-Some : goal.returns-in-Some
returns-in-Some c =
    pairs_at c.args.key.now c.args.name.now c.self.inside.rows.rows c.in-Some.place (named_row c.row.result.now) c.in-Some.ensures c.row.ensures
    ∙ ap (λ table. pairs_of c.args.key.now c.args.name.now table.rows) c.self.view_is

pub returns-in-None : goal.returns-in-None
returns-in-None c =
    none_at c.args.key.now c.args.name.now c.self.inside.rows.rows c.in-None.ensures
    ∙ ap (λ table. pairs_of c.args.key.now c.args.name.now table.rows) c.self.view_is
