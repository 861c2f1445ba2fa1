-- One part after the other.
use Rattle.std.proofs.Common.{◌≡◌, ◌∙◌, true, false, sym, ap, subst}
use Rattle.sw_cachestorage.proofs.Busy.{quiet_one}
use Rattle.sw_cachestorage.specs.Forgetting.{forget_one}
use Rattle.sw_reg.specs.Table.{is_there}
use Rattle.sw_rules.specs.Noticing.{Did}
use Rattle.sw_rules.specs.Registrations.{clear, unmap}
use Rattle.sw_rules.specs.Rows.{has_pending_worker}
use Rattle.sw_state.specs.contracts.tables.HostTables.{the_view}
use Rattle.sw_state.specs.Hosted.{Hosted, rest_of, state_of}
use Rattle.sw_tables.proofs.Chain.{did_then}
use Rattle.sw_cachestorage.proofs.forgetting.forget_one.Goals as goal

pub unmap-requires-clause-there : goal.unmap-requires-clause-there
unmap-requires-clause-there c =
    subst (λ (h : Hosted). is_there c.args.number h.registrations.rows ≡ true) (sym c.host.view_is) c.requires.there

pub clear-requires-clause-there : goal.clear-requires-clause-there
clear-requires-clause-there c =
    subst (λ (h : Hosted). is_there c.args.number h.registrations.rows ≡ true) (sym c.host.view_is) c.requires.there

pub clear-requires-clause-quiet : goal.clear-requires-clause-quiet
clear-requires-clause-quiet c =
    quiet_one (the_view c.host.inside) c.host.invariant c.args.number
    (subst (λ (h : Hosted). has_pending_worker (state_of h) c.args.number ≡ false) (sym c.host.view_is) c.requires.quiet)

pub invariant_of-host : goal.invariant_of-host
invariant_of-host c =
    let inside : Hosted = the_view c.host.inside in
    record {
      linked = c.clear.ensures.linked c.unmap.new.map inside.clients (c.unmap.ensures.linked inside.workers inside.clients c.host.invariant.linked);
      counts = λ number. c.clear.ensures.counts number ∙ c.host.invariant.counts number;
    }

pub returns-clause-did : goal.returns-clause-did
returns-clause-did c =
    let inside : Hosted = the_view c.host.inside in
    let mid : Hosted = record inside { scopes = c.unmap.new.map } in
    let new : Hosted = record mid { workers = c.clear.new.workers; registrations = c.clear.new.registrations } in
    subst (λ (h : Hosted). Did (forget_one (state_of h) c.args.number) c.args.notices.now c.clear.new.notices (state_of new)) c.host.view_is
    (did_then (unmap (state_of inside) c.args.number) (λ left. clear left c.args.number) c.args.notices.now c.unmap.new.notices c.clear.new.notices (state_of mid) (state_of new)
    (c.unmap.ensures.did inside.workers inside.clients (rest_of inside)) (c.clear.ensures.did mid.scopes mid.clients (rest_of mid)))

pub returns-clause-others : goal.returns-clause-others
returns-clause-others c =
    ap (λ (h : Hosted). record h { scopes = c.unmap.new.map; workers = c.clear.new.workers; registrations = c.clear.new.registrations }) c.host.view_is
