use Rattle.std.proofs.Common.{◌∙◌, ◌<◌, ℕ, List, length, get_or, refl, subst, arith}
use Rattle.std.proofs.lemmas.Bool.Decides.{nat_tests}
use Rattle.sw_rules.specs.Clients as rules
use Rattle.sw_rules.specs.Noticing.{Did}
use Rattle.sw_rules.specs.State.{State}
use Rattle.sw_rules.specs.Told.{quiet}
use Rattle.sw_tables.proofs.Chain.{did_quietly}
use Rattle.sw_tables.specs.Lent.{lent}
use Rattle.sw_activate.specs.Names.{numbers_of}
use Rattle.sw_activate.proofs.OneByOne.{below_numbers, claimed_next}
use Rattle.sw_activate.proofs.Names.{keeps_all, still_owned, then_keeps}
use Rattle.sw_activate.proofs.claims.claim_clients.Goals as goal

pub loop-place-init : goal.loop-place-init
unfolding rules.claim_clients
loop-place-init c = (
  λ rest.
      let state : State = lent c.args.map.now c.args.workers.now c.args.registrations.now c.args.clients.now rest in
      did_quietly (quiet state) c.args.notices.now state refl refl,
  c.requires.linked,
  keeps_all c.args.workers.now c.args.registrations.now c.args.clients.now,
  omega (arith),
  λ number. refl,
)

pub claim_at-requires-clause-owner : goal.claim_at-requires-clause-owner
claim_at-requires-clause-owner c =
    still_owned c.args.worker c.args.workers.now.rows c.loop-place.workers.rows c.loop-place.invariant.2.workers ∙ c.requires.owner

pub loop-place-preserved : goal.loop-place-preserved
loop-place-preserved c =
    let so_far = c.loop-place.invariant in
    let within : c.loop-place.place < length c.args.clients.now.rows = grind (arith, nat_tests, c.loop-place-test.true, c.len-place-end.ensures) in (
      λ rest.
          claimed_next c.args.worker c.args.registration (numbers_of c.args.clients.now) c.loop-place.place 0
          (lent c.args.map.now c.args.workers.now c.args.registrations.now c.args.clients.now rest)
          c.args.notices.now c.loop-place.notices c.claim_at.new.notices
          (lent c.args.map.now c.loop-place.workers c.loop-place.registrations c.loop-place.clients rest)
          (lent c.args.map.now c.claim_at.new.workers c.claim_at.new.registrations c.claim_at.new.clients rest)
          (below_numbers c.loop-place.place c.args.clients.now within)
          (so_far.0 rest)
          (subst (λ (numbers : List ℕ).
          Did (rules.claim_client (lent c.args.map.now c.loop-place.workers c.loop-place.registrations c.loop-place.clients rest) c.args.worker c.args.registration
          (get_or numbers c.loop-place.place 0)) c.loop-place.notices c.claim_at.new.notices
          (lent c.args.map.now c.claim_at.new.workers c.claim_at.new.registrations c.claim_at.new.clients rest))
          so_far.2.clients (c.claim_at.ensures.did rest 0)),
      c.claim_at.ensures.linked,
      then_keeps c.args.workers.now c.loop-place.workers c.claim_at.new.workers
          c.args.registrations.now c.loop-place.registrations c.claim_at.new.registrations
          c.args.clients.now c.loop-place.clients c.claim_at.new.clients so_far.2 c.claim_at.ensures.names,
      omega (arith, so_far.3, c.claim_at.ensures.room),
      λ number. c.claim_at.ensures.counts number ∙ so_far.4 number,
    )
