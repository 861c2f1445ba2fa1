use Rattle.std.proofs.Common.{◌≡◌, ◌<◌, Some, sym, ap, ◌∙◌, subst, arith}
use Rattle.sw_lock.specs.Passes.{opened_of, made_of}
use Rattle.sw_lock.specs.Steps.{Sat, Found, counting, with_ticket}
use Rattle.sw_lock.proofs.Turning.{has, slot_there, slot_is, found_seat, worked_seat, counted_seat, counts_turn, passes_turn, took}
use Rattle.sw_lock.proofs.lock.Shared.take_turn.Given.{Over}
use Rattle.sw_lock.proofs.lock.Shared.take_turn.Goals.{After-slot_mut, After-fetch_add}
use Rattle.sw_lock.proofs.lock.Shared.take_turn.Goals as goal

pub slot_mut-requires : goal.slot_mut-requires
slot_mut-requires g c =
    let value = c.wait_for.ensures.found.0 in
    let found = found_seat g.T.Logged c.args.seat.now.me _ _ c.draw-ticket.result value c.requires.idle c.draw-ticket.ensures.drew c.wait_for.ensures.found.1 in (
      c.wait_for.ensures.table ∙ (c.draw-ticket.ensures.table ∙ c.requires.table),
      (Some value, slot_there c.wait_for.new.seat.me.1 (Some value) (ap (λ (n : Sat g.row.T.Denot g.row.T-Entry.Denot). n.1) found.1)),
    )

-- the ticket is served: the value is in the slot
module _ (g : Over) (c : After-slot_mut g) where
  found : Found g.T.Logged (with_ticket c.args.seat.now.me c.draw-ticket.result) c.wait_for.ensures.found.0 c.wait_for.new.seat.me
      × (c.wait_for.new.seat.me ≡ has g.T.Logged c.args.seat.now.me c.draw-ticket.result c.wait_for.ensures.found.0 c.wait_for.ensures.found.0)
      × (c.slot_mut.result.now ≡ Some c.wait_for.ensures.found.0)
  found =
      let value = c.wait_for.ensures.found.0 in
      let f = found_seat g.T.Logged c.args.seat.now.me _ _ c.draw-ticket.result value c.requires.idle c.draw-ticket.ensures.drew c.wait_for.ensures.found.1 in
      (f.0, f.1, slot_is c.wait_for.new.seat.me.1 c.slot_mut.result.now (Some value) (ap (λ (n : Sat g.row.T.Denot g.row.T-Entry.Denot). n.1) f.1) c.slot_mut.ensures.value)

pub advance-answer-requires : goal.advance-answer-requires
advance-answer-requires g c =
    let f = found g (goal.at.advance-answer-requires g c).After-slot_mut in
    let about = f.0.base_is (opened_of c.args.self.now) c.requires.opened in
    let number = c.requires.pass in
    let inside : c.args.pass < g.T.Logged.passes (g.T.Logged.base (opened_of c.args.self.now)) = let below = about.1 in omega arith in
    (c.wait_for.ensures.found.0, f.2, subst (λ (b : g.T.Logged.Base). c.args.pass < g.T.Logged.passes b) (sym about.0) inside)

pub fetch_add-requires : goal.fetch_add-requires
fetch_add-requires g c =
    let lock = c.args.self.now in let sized = lock.sized.0 in let m = c.args.seat.now.me in let value = c.wait_for.ensures.found.0 in
    let f = found g (goal.at.fetch_add-requires g c).After-slot_mut in
    let step = c.advance-answer.ensures value f.2 in (
      c.wait_for.ensures.table ∙ (c.draw-ticket.ensures.table ∙ c.requires.table),
      omega arith,
      counts_turn g.T.Logged (opened_of lock) (made_of lock) lock.table.shared.table_id.slots c.wait_for.new.seat.id c.advance-answer.result.1 c.draw-ticket.result c.args.pass m _ value step.0
          c.args.given c.advance-answer.result.0 c.requires.idle (worked_seat g.T.Logged m c.wait_for.new.seat.me c.draw-ticket.result value step.0 c.advance-answer.new.slot f.1 step.1) c.requires.pass step.2,
    )

-- the entries of the step are counted
tallies : (g : Over) (c : After-fetch_add g) (y : g.row.T.Denot)
    → c.wait_for.new.seat.me ≡ has g.T.Logged c.args.seat.now.me c.draw-ticket.result c.wait_for.ensures.found.0 c.wait_for.ensures.found.0 → c.advance-answer.new.slot ≡ Some y
    → c.fetch_add.new.seat.me ≡ counting g.T.Logged (has g.T.Logged c.args.seat.now.me c.draw-ticket.result c.wait_for.ensures.found.0 y) y
tallies g c y seat slot =
    let m = c.args.seat.now.me in let value = c.wait_for.ensures.found.0 in
    counted_seat g.T.Logged m _ c.fetch_add.new.seat.me c.draw-ticket.result value y
    (worked_seat g.T.Logged m c.wait_for.new.seat.me c.draw-ticket.result value y c.advance-answer.new.slot seat slot) c.fetch_add.ensures.2

pub fetch_add-served-requires : goal.fetch_add-served-requires
fetch_add-served-requires g c =
    let lock = c.args.self.now in let sized = lock.sized.0 in let value = c.wait_for.ensures.found.0 in
    let at = goal.at.fetch_add-served-requires g c in
    let f = found g at.After-slot_mut in
    let step = c.advance-answer.ensures value f.2 in (
      c.fetch_add.ensures.0 ∙ (c.wait_for.ensures.table ∙ (c.draw-ticket.ensures.table ∙ c.requires.table)),
      omega arith,
      passes_turn g.T.Logged (opened_of lock) (made_of lock) lock.table.shared.table_id.slots c.fetch_add.new.seat.id c.advance-answer.result.1 c.draw-ticket.result c.args.pass c.args.seat.now.me c.wait_for.new.seat.me
          c.fetch_add.new.seat.me value step.0 c.args.given c.advance-answer.result.0 c.requires.idle c.requires.opened f.0 step.2 (tallies g at.After-fetch_add step.0 f.1 step.1),
    )

pub returns : goal.returns
returns g c =
    let lock = c.args.self.now in let value = c.wait_for.ensures.found.0 in
    let at = goal.at.returns g c in
    let f = found g at.After-slot_mut in
    let step = c.advance-answer.ensures value f.2 in
    record {
      table = c.fetch_add-served.ensures.0 ∙ (c.fetch_add.ensures.0 ∙ (c.wait_for.ensures.table ∙ c.draw-ticket.ensures.table));
      took = took g.T.Logged (opened_of lock) (made_of lock) c.advance-answer.result.1 c.draw-ticket.result c.args.pass c.args.seat.now.me c.wait_for.new.seat.me c.fetch_add.new.seat.me c.fetch_add-served.new.seat.me
          value step.0 c.args.given c.advance-answer.result.0 c.requires.opened c.requires.pass f.0 step.2 (tallies g at.After-fetch_add step.0 f.1 step.1) c.fetch_add-served.ensures.2;
    }
