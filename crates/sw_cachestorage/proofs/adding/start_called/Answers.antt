-- The addAll of a handler is added, and its call is noted.
use Rattle.std.proofs.Common.{◌≡◌, ◌∙◌, true, sym, ap, subst}
use Rattle.sw_cachestorage.proofs.Starting.{joined_call}
use Rattle.sw_cachestorage.specs.Adding.{added_by}
use Rattle.sw_rules.specs.Calls as calls
use Rattle.sw_rules.specs.Told.{Told}
use Rattle.sw_state.specs.contracts.tables.HostTables.{the_view}
use Rattle.sw_state.specs.Hosted.{Hosted, rest_of, state_of}
use Rattle.sw_worker.specs.Table.{has_calls_left, has_worker}
use Rattle.sw_cachestorage.proofs.adding.start_called.Goals as goal

pub note_call-requires-clause-calls : goal.note_call-requires-clause-calls
note_call-requires-clause-calls c =
    subst (λ (h : Hosted). has_worker has_calls_left c.args.worker h.workers.rows ≡ true) (sym c.host.view_is) c.requires.calls

pub invariant_of-host : goal.invariant_of-host
invariant_of-host c =
    let inside : Hosted = the_view c.host.inside in
    joined_call inside c.args.new c.add.new.tasks c.add.new.draws (c.add.ensures (state_of inside)) c.note_call.new.workers c.args.worker c.requires.maker c.note_call.ensures.counts
    (c.note_call.ensures.linked inside.scopes inside.clients c.host.invariant.linked) c.host.invariant

pub returns-clause-state : goal.returns-clause-state
returns-clause-state c =
    let inside : Hosted = the_view c.host.inside in
    let mid : Hosted = record inside { tasks = c.add.new.tasks; draws = c.add.new.draws } in
    subst (λ (h : Hosted). state_of (record mid { workers = c.note_call.new.workers }) ≡ (calls.note_call (added_by c.args.new (state_of h)).state c.args.worker c.args.fault).state) c.host.view_is
    (c.note_call.ensures.state inside.scopes inside.clients (rest_of mid)
    ∙ ap (λ (t : Told). (calls.note_call t.state c.args.worker c.args.fault).state) (sym (c.add.ensures (state_of inside))))

pub returns-clause-others : goal.returns-clause-others
returns-clause-others c = ap (λ (h : Hosted). record h { workers = c.note_call.new.workers; tasks = c.add.new.tasks; draws = c.add.new.draws }) c.host.view_is
