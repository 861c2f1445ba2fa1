-- What an event leaves is coherent.
use Rattle.sw_laws.specs.Coherent.{Coherent}
use Rattle.sw_roster.proofs.Stepping.{stays_coherent}
use Rattle.sw_roster.proofs.roster.Roster.act.Goals as goal
use Rattle.sw_roster.proofs.roster.Roster.act.Goals.{After-turned}
use Rattle.sw_state.specs.Hosted.{state_of}

sound : (c : After-turned) → Coherent (state_of c.apply.new.self)
sound c =
    stays_coherent (state_of c.self.inside.core) (state_of c.apply.new.self) c.args.event.now c.in_ok-reply.reply.answer c.in_ok-reply.reply.notices c.self.invariant c.in_ok-reply.ensures.step

pub invariant_of-self-in-Some : goal.invariant_of-self-in-Some
invariant_of-self-in-Some c = sound (goal.at.invariant_of-self-in-Some c).After-turned

pub invariant_of-self-in_default : goal.invariant_of-self-in_default
invariant_of-self-in_default c = sound (goal.at.invariant_of-self-in_default c).After-turned
