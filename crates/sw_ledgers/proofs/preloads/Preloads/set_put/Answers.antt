use Rattle.std.proofs.Common.{◌<◌, subst, sym}
use Rattle.sw_ledgers.specs.Preloaded.{Table}
use Rattle.sw_ledgers.proofs.Preloading.{flag_put, value_put}
use Rattle.sw_ledgers.proofs.Results.{on_ok}
use Rattle.sw_ledgers.proofs.preloads.Preloads.set_put.Goals as goal

pub returns-clause-flag : goal.returns-clause-flag
returns-clause-flag c n =
    let room = subst (λ (table : Table). 0 < table.spare) (sym c.self.view_is) c.requires in
    let entries = on_ok c.insert.result c.insert.ensures.entries (c.insert.ensures.succeeds room) in
    rw (← c.self.view_is) (rw (← c.row.view_is) (rw entries (flag_put n c.row.inside.registration c.row.inside.preload c.self.inside.preloads.entries)))

pub returns-clause-value : goal.returns-clause-value
returns-clause-value c n =
    let room = subst (λ (table : Table). 0 < table.spare) (sym c.self.view_is) c.requires in
    let entries = on_ok c.insert.result c.insert.ensures.entries (c.insert.ensures.succeeds room) in
    rw (← c.self.view_is) (rw (← c.row.view_is) (rw entries (value_put n c.row.inside.registration c.row.inside.preload c.self.inside.preloads.entries)))
