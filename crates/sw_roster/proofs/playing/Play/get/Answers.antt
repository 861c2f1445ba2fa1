-- The answer is added.
use Rattle.std.proofs.Common.{refl}
use Rattle.sw_readers.specs.declared.inputs.RosterLine.TheVariants as line
use Rattle.sw_roster.proofs.Played.{asked_on}
use Rattle.sw_roster.proofs.playing.Play.get.Goals as goal

pub returns-clause-goes_on : goal.returns-clause-goes_on
returns-clause-goes_on c = λ fetches all so_far.
    asked_on c.ask.result fetches all c.args.self.now c.args.self.now c.ask.new.self (line.Get c.args.client c.args.worker) c.in_ok-answer.answer
    c.ask.ensures.none c.ask.ensures.beats c.ask.ensures.others refl refl refl c.requires.rests c.in_ok-answer.ensures so_far
