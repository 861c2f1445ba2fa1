use Rattle.std.proofs.Common.{◌≡◌, ◌∙◌, false, Option, Some, None, is_some, option_and_then, option_map, sym, ap, subst}
use Rattle.std.specs.Option.{option_copied}
use Rattle.sw_next.proofs.Enabling.{ends_shown}
use Rattle.sw_state.specs.contracts.tables.HostTables.{the_view}
use Rattle.sw_state.specs.Hosted.{Hosted, rest_of, state_of}
use Rattle.sw_data.specs.declared.rows.WorkerRow.{WorkerRow}
use Rattle.sw_rules.specs.Installing as installing
use Rattle.sw_rules.specs.Rows.{worker_row}
use Rattle.sw_rules.specs.State.{Worker}
use Rattle.sw_tables.proofs.Lookups.{worker_shown}
use Rattle.sw_tables.proofs.Rows.{found_number}
use Rattle.sw_tables.specs.Ends.{is_in}
use Rattle.sw_tables.specs.Lent.{shown_worker}
use Rattle.sw_worker.specs.Table.{worker_at}
use Rattle.sw_next.proofs.events.is_at_end.Goals as goal

pub returns-in-Some : goal.returns-in-Some
returns-in-Some c =
    let host : Hosted = the_view c.host.inside in
    let row : WorkerRow = c.in-Some.row.now in
    let here : worker_at c.args.worker host.workers.rows ≡ Some row = sym c.row.ensures ∙ ap option_copied c.in-Some.is in
    let own : worker_at row.number host.workers.rows ≡ Some row =
    ap (λ n. worker_at n host.workers.rows) (found_number (λ (r : WorkerRow). r.number) c.args.worker host.workers.rows row here) ∙ here in
    subst (λ (h : Hosted). c.is_some.result ≡ is_some (option_and_then (installing.ended_handler (state_of h) (is_in c.args.phase)) (worker_row (state_of h) c.args.worker))) c.host.view_is
    (c.is_some.ensures
    ∙ ends_shown host c.args.phase c.args.worker row c.ended_handler.result here
    (c.ended_handler.ensures.ended host.scopes host.workers host.registrations host.clients (rest_of host) own c.host.invariant.counts))

pub returns-in-None : goal.returns-in-None
returns-in-None c =
    let host : Hosted = the_view c.host.inside in
    let none : worker_at c.args.worker host.workers.rows ≡ None = sym c.row.ensures ∙ ap option_copied c.in-None.is in
    subst (λ (h : Hosted). false ≡ is_some (option_and_then (installing.ended_handler (state_of h) (is_in c.args.phase)) (worker_row (state_of h) c.args.worker))) c.host.view_is
    (ap (λ (o : Option Worker). is_some (option_and_then (installing.ended_handler (state_of host) (is_in c.args.phase)) o))
    (sym (worker_shown c.args.worker host.workers.rows ∙ ap (option_map shown_worker) none)))
