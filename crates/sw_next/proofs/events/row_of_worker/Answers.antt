use Rattle.std.proofs.Common.{◌≡◌, ◌∙◌, option_map, sym, ap, subst}
use Rattle.std.specs.Option.{option_copied}
use Rattle.sw_state.specs.contracts.tables.HostTables.{the_view}
use Rattle.sw_state.specs.Hosted.{Hosted, state_of}
use Rattle.sw_rules.specs.Rows.{worker_row}
use Rattle.sw_tables.proofs.Lookups.{worker_shown}
use Rattle.sw_tables.specs.Lent.{shown_worker}
use Rattle.sw_next.proofs.events.row_of_worker.Goals as goal

pub returns : goal.returns
returns c =
    let host : Hosted = the_view c.host.inside in
    subst (λ (h : Hosted). option_map shown_worker (option_copied c.row.result) ≡ worker_row (state_of h) c.args.worker) c.host.view_is
    (ap (option_map shown_worker) c.row.ensures ∙ sym (worker_shown c.args.worker host.workers.rows))
