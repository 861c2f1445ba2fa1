-- The next action may not happen; or no more entries are made; or it happens.
use Rattle.std.proofs.Common.{◌+◌, false, true, arith, subst, sym}
use Rattle.sw_data.specs.Events.{event_of_action}
use Rattle.sw_data.specs.declared.events.Event.{Event}
use Rattle.sw_data.specs.declared.events.Who.TheVariants as who
use Rattle.sw_readers.specs.declared.inputs.RosterLine.{RosterLine}
use Rattle.sw_roster.proofs.Played.{line_played, spent_by_line, stalled_now, tested}
use Rattle.sw_roster.proofs.playing.Play.act.Goals as goal
use Rattle.sw_roster.specs.Beats.{HasRoster}
use Rattle.sw_roster.specs.Playing.{HasHappened, IsPlayed}
use Rattle.sw_state.specs.Hosted.{state_of}
use Rattle.std.proofs.Common.{List}

pub returns-then-not-enabled-clause-goes_on : goal.returns-then-not-enabled-clause-goes_on
returns-then-not-enabled-clause-goes_on c = λ fetches all so_far.
    let play = c.args.self.now in
    let waits =
    tested (state_of c.core.result.now) play.roster.state c.event_of_action-event.result (event_of_action (who.Lane 0 play.at) c.args.action) c.enabled.result false
    c.core.ensures.state c.event_of_action-event.ensures c.enabled.ensures c.if-not-enabled.true in
    subst (HasRoster fetches all play.beats.items) (sym c.over.ensures) (stalled_now fetches all play.left.items play c.args.action so_far c.requires.rests waits)

pub returns-then-self-clause-goes_on : goal.returns-then-self-clause-goes_on
returns-then-self-clause-goes_on c = λ fetches all so_far.
    let play = c.args.self.now in
    let may =
    tested (state_of c.core.result.now) play.roster.state c.event_of_action-event.result (event_of_action (who.Lane 0 play.at) c.args.action) c.enabled.result true
    c.core.ensures.state c.event_of_action-event.ensures c.enabled.ensures c.if-not-enabled.false in
    subst (HasRoster fetches all play.beats.items) (sym c.over-then-self.ensures)
    (spent_by_line fetches all play.left.items play c.args.action so_far c.requires.rests may (omega (arith, c.if-self.true)))

pub returns-clause-goes_on : goal.returns-clause-goes_on
returns-clause-goes_on c = λ fetches all so_far.
    let play = c.args.self.now in
    let new = c.happen.new.self in
    let one = subst (λ (happened : Event). HasHappened happened (play.at + 1) play new) c.event_of_action-event.ensures c.in_ok-happen.ensures in
    subst (λ (left : List RosterLine). IsPlayed fetches all left new) (λ i. (sym one.left i).items)
    (line_played fetches all play.left.items play c.args.action so_far new c.requires.rests one)
