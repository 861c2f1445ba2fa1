-- One registration of the key after another is forgotten, and at the end the caches.
use Rattle.std.proofs.Common.{◌∙◌, refl, sym, ap, subst}
use Rattle.sw_cachestorage.proofs.Busy.{registrations_places}
use Rattle.sw_cachestorage.proofs.ForgetWalk.{IsForgotten, all_forgotten, nearer_now, none_forgotten, one_forgotten, room_for}
use Rattle.sw_reg.specs.Table.{first_of, next_of}
use Rattle.sw_rules.specs.State.{Registration}
use Rattle.sw_state.specs.contracts.tables.HostTables.{the_view}
use Rattle.sw_state.specs.Hosted.{Hosted, state_of}
use Rattle.sw_tables.specs.Linked.{ArePlaces}
use Rattle.sw_cachestorage.proofs.forgetting.forget.Goals as goal

pub loop-at-init : goal.loop-at-init
loop-at-init c = (
  none_forgotten c.args.key.now c.args.host.now c.args.notices.now c.first_of-at.result
      (c.first_of-at.ensures ∙ ap (λ (h : Hosted). first_of c.args.key.now h.registrations.rows) c.host.view_is) c.requires.quiet c.requires.room
      (subst (λ (h : Hosted). ArePlaces (λ (row : Registration). row.number) (state_of h).registrations) c.host.view_is (registrations_places (the_view c.host.inside) c.host.invariant)),
  refl,
)

pub forget_at-requires-clause-quiet : goal.forget_at-requires-clause-quiet
forget_at-requires-clause-quiet c = c.loop-at.invariant.0.left.quiet

pub forget_at-requires-clause-room : goal.forget_at-requires-clause-room
forget_at-requires-clause-room c =
    room_for c.args.key.now (state_of c.args.host.now) c.args.notices.now c.loop-at.host c.loop-at.notices c.loop-at.at c.in-Some.number c.loop-at.invariant.0 c.in-Some.is

pub loop-at-preserved : goal.loop-at-preserved
loop-at-preserved c =
    let new = c.forget_at.new.host in (
      one_forgotten c.args.key.now (state_of c.args.host.now) c.args.notices.now c.loop-at.host c.loop-at.notices c.loop-at.at c.in-Some.number c.loop-at.invariant.0 c.in-Some.is
          new c.forget_at.new.notices c.forget_at.ensures.did c.forget_at.ensures.room c.next_of-at.result
          (c.next_of-at.ensures ∙ ap (λ (h : Hosted). next_of c.in-Some.number h.registrations.rows) c.host-in-Some.view_is),
      c.forget_at.ensures.others
          ∙ ap (λ (h : Hosted). record h { scopes = new.scopes; workers = new.workers; registrations = new.registrations }) c.loop-at.invariant.1,
    )

pub loop-at-smaller : goal.loop-at-smaller
loop-at-smaller c =
    nearer_now c.args.key.now (state_of c.args.host.now) c.args.notices.now c.loop-at.host c.loop-at.notices c.loop-at.at c.in-Some.number c.loop-at.invariant.0 c.in-Some.is
    c.forget_at.new.host c.forget_at.new.notices c.forget_at.ensures.did c.forget_at.ensures.room c.next_of-at.result
    (c.next_of-at.ensures ∙ ap (λ (h : Hosted). next_of c.in-Some.number h.registrations.rows) c.host-in-Some.view_is)

pub returns-clause-did : goal.returns-clause-did
returns-clause-did c =
    let left : Hosted = the_view c.host-2.inside in
    all_forgotten c.args.key.now (state_of c.args.host.now) c.args.notices.now left c.loop-at.notices c.loop-at.at c.drop_key.new.self.rows
    (subst (λ (h : Hosted). IsForgotten c.args.key.now (state_of c.args.host.now) c.args.notices.now h c.loop-at.notices c.loop-at.at) (sym c.host-2.view_is) c.loop-at.invariant.0)
    c.in_default.is c.drop_key.ensures
