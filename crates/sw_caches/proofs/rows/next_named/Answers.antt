use Rattle.sw_list.specs.Named.{named_row}
use Rattle.sw_rules.specs.Storage.{is_cache}
use Rattle.sw_caches.proofs.WalkLemmas.{next_reads, none_reads}
use Rattle.sw_caches.proofs.rows.next_named.Goals as goal

pub returns-in-Some : goal.returns-in-Some
returns-in-Some c =
    next_reads (is_cache c.args.key.now c.args.name.now) c.args.rows.now.rows c.args.from c.in-Some.place (named_row c.row.result.now)
    c.in-Some.ensures.place c.row.ensures c.in-Some.ensures.low c.in-Some.ensures.few

pub returns-in-None : goal.returns-in-None
returns-in-None c = none_reads (is_cache c.args.key.now c.args.name.now) c.args.rows.now.rows c.args.from c.in-None.ensures.place
