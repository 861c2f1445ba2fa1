-- The answer is added.
use Rattle.std.proofs.Common.{refl}
use Rattle.sw_readers.specs.declared.inputs.RosterLine.TheVariants as line
use Rattle.sw_roster.proofs.Played.{asked_on}
use Rattle.sw_roster.proofs.playing.Play.focus.Goals as goal

pub returns-clause-goes_on : goal.returns-clause-goes_on
returns-clause-goes_on c = λ fetches all so_far.
    asked_on c.ask.result fetches all c.args.self.now (record c.args.self.now { roster = c.focused.new.roster }) c.ask.new.self (line.Focus c.args.client) c.in_ok-answer.answer
    c.ask.ensures.none c.ask.ensures.beats c.ask.ensures.others refl c.focused.ensures.state c.in_ok-answer.ensures.recent c.requires.rests c.in_ok-answer.ensures.answer so_far
