-- A worker of the registration where the walk stands is pending, or the rest is left.
use Rattle.std.proofs.Common.{◌∙◌, ◌+◌, ◌||◌, Bool, drop, sym, ap, subst}
use Rattle.std.specs.List.{list_any}
use Rattle.sw_cachestorage.proofs.Busy.{Either, pending_on, pends_left, pends_of, pends_skips}
use Rattle.sw_cachestorage.proofs.Walks.{at_end, first_passed, first_stands, nearer, next_passed, next_stands, stands_at}
use Rattle.sw_data.specs.declared.rows.RegistrationRow.{RegistrationRow}
use Rattle.sw_reg.specs.Table.{first_of, next_of}
use Rattle.sw_state.specs.contracts.tables.HostTables.{the_view}
use Rattle.sw_state.specs.Hosted.{Hosted, state_of}
use Rattle.sw_tables.specs.Linked.{ArePlaces}
use Rattle.sw_cachestorage.proofs.forgetting.has_pending_of.Goals as goal

pub loop-at-init : goal.loop-at-init
loop-at-init c =
    let key = c.args.key.now in
    let host = c.args.host.now in
    let is = c.first_of-at.ensures ∙ ap (λ (h : Hosted). first_of key h.registrations.rows) c.host.view_is in
    record {
      stands = first_stands key host.registrations.rows c.first_of-at.result is;
      pending = first_passed key host (list_any (pends_of key host)) (pends_skips key host) c.first_of-at.result is;
    }

pub returns-then-is_pending-clause-pending : goal.returns-then-is_pending-clause-pending
returns-then-is_pending-clause-pending c =
    let key = c.args.key.now in
    let host = c.args.host.now in
    let n = c.in-Some.number in
    let are = subst (λ (h : Hosted). ArePlaces (λ (row : RegistrationRow). row.number) h.registrations.rows) c.host.view_is c.host.invariant.linked.slots.registration_places in
    let stands = stands_at key host.registrations.rows c.loop-at.at n c.loop-at.invariant.stands c.in-Some.is in
    sym (c.loop-at.invariant.pending
    ∙ (pends_left key host c.loop-at.at n are stands c.in-Some.is
    ∙ ap (λ (b : Bool). b || list_any (pends_of key host) (drop (n + 1) (state_of host).registrations)) (sym c.is_pending.ensures ∙ c.if-is_pending.true)))

pub loop-at-preserved : goal.loop-at-preserved
loop-at-preserved c =
    let key = c.args.key.now in
    let host = c.args.host.now in
    let n = c.in-Some.number in
    let are = subst (λ (h : Hosted). ArePlaces (λ (row : RegistrationRow). row.number) h.registrations.rows) c.host.view_is c.host.invariant.linked.slots.registration_places in
    let stands = stands_at key host.registrations.rows c.loop-at.at n c.loop-at.invariant.stands c.in-Some.is in
    let is = c.next_of-at.ensures ∙ ap (λ (h : Hosted). next_of n h.registrations.rows) c.host.view_is in
    record {
      stands = next_stands key host.registrations.rows n c.next_of-at.result stands is;
      pending =
          c.loop-at.invariant.pending
          ∙ (pends_left key host c.loop-at.at n are stands c.in-Some.is
          ∙ (ap (λ (b : Bool). b || list_any (pends_of key host) (drop (n + 1) (state_of host).registrations)) (sym c.is_pending.ensures ∙ c.if-is_pending.false)
          ∙ next_passed key host (list_any (pends_of key host)) (pends_skips key host) n c.next_of-at.result stands is));
    }

pub loop-at-smaller : goal.loop-at-smaller
loop-at-smaller c =
    let rows = c.args.host.now.registrations.rows in
    nearer c.args.key.now rows c.loop-at.at c.in-Some.number c.next_of-at.result
    (stands_at c.args.key.now rows c.loop-at.at c.in-Some.number c.loop-at.invariant.stands c.in-Some.is) c.in-Some.is
    (c.next_of-at.ensures ∙ ap (λ (h : Hosted). next_of c.in-Some.number h.registrations.rows) c.host.view_is)

pub returns-clause-pending : goal.returns-clause-pending
returns-clause-pending c =
    sym (c.loop-at.invariant.pending ∙ ap (list_any (pends_of c.args.key.now c.args.host.now)) (at_end c.args.host.now c.loop-at.at c.in_default.is))

pub returns-then-is_pending-clause-either : goal.returns-then-is_pending-clause-either
returns-then-is_pending-clause-either c =
    returns-then-is_pending-clause-pending c
    ∙ subst (λ (h : Hosted). Either h c.args.key.now) c.host.view_is (pending_on (the_view c.host.inside) c.host.invariant c.args.key.now)

pub returns-clause-either : goal.returns-clause-either
returns-clause-either c =
    returns-clause-pending c
    ∙ subst (λ (h : Hosted). Either h c.args.key.now) c.host.view_is (pending_on (the_view c.host.inside) c.host.invariant c.args.key.now)
