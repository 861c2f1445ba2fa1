use Rattle.std.proofs.Common.{◌≡◌, true, sym, subst}
use Rattle.sw_finish.proofs.Doing.{left_in}
use Rattle.sw_state.specs.contracts.tables.HostTables.{the_view}
use Rattle.sw_state.specs.Hosted.{Hosted, state_of}
use Rattle.sw_work.specs.Plans.{has_calls_left}
use Rattle.sw_finish.proofs.acts.call_made.Goals as goal

pub note_call-requires-clause-calls : goal.note_call-requires-clause-calls
note_call-requires-clause-calls c =
    left_in (the_view c.host.inside) c.args.worker
    (subst (λ (h : Hosted). has_calls_left c.args.worker (state_of h) ≡ true) (sym c.host.view_is) c.requires)
