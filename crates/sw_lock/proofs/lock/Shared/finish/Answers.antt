use Rattle.std.proofs.Common.{◌≡◌, Some}
use Rattle.sw_lock.specs.Turns.{IsEnd}
use Rattle.sw_lock.specs.Passes.{opened_of, made_of}
use Rattle.sw_lock.proofs.Turning.{closed_slot, closed_value}
use Rattle.sw_lock.proofs.lock.Shared.finish.Given.{Over}
use Rattle.sw_lock.proofs.lock.Shared.finish.Goals.{After-take}
use Rattle.sw_lock.proofs.lock.Shared.finish.Goals as goal

-- a value was in the slot
there : (g : Over) (c : After-take g) → (x : g.row.T.Denot) × (c.take.result ≡ Some x) × IsEnd g.T.Logged (opened_of c.args.self) c.args.seat.me.0 x
there g c =
    closed_slot g.T.Logged (opened_of c.args.self) (made_of c.args.self) c.args.seat.id c.args.seat.me.0 _ _ c.take.result
    c.requires.place c.requires.some c.requires.all c.close_with-closed.ensures.values.2 c.take.ensures.value

pub unreachable-requires : goal.unreachable-requires
unreachable-requires g c = let told = there g (goal.at.unreachable-requires g c).After-take in c.in_default.not-Some told.0 told.1

pub returns : goal.returns
returns g c =
    closed_value g.T.Logged (opened_of c.args.self) (made_of c.args.self) c.args.seat.me.0 c.take.result c.in-Some.value
    (there g (goal.at.returns g c).After-take) c.in-Some.is
