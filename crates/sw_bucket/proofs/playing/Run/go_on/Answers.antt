-- What was picked happens, or the run is at its end.
use Rattle.sw_bucket.proofs.PlayLemmas.{is_done, is_stalled, picked_here}
use Rattle.sw_bucket.proofs.playing.Run.go_on.Goals as goal
use Rattle.sw_lane.specs.declared.picks.Pick.TheVariants as pick

pub go-requires-clause-picked : goal.go-requires-clause-picked
go-requires-clause-picked g c =
    picked_here c.core.result.now c.args.store.now.core c.args.self.now.lanes c.pick.result (pick.Work c.in-Work.picked) c.core.ensures c.pick.ensures c.in-Work.is

pub returns-in-Stalled-clause-played : goal.returns-in-Stalled-clause-played
returns-in-Stalled-clause-played g c origin playing none = (
  is_stalled g.D.Disk g.B.Bound c.args.disk.now c.args.bound.now origin c.args.self.now c.args.store.now playing none c.in-Stalled.lane
      (picked_here c.core.result.now c.args.store.now.core c.args.self.now.lanes c.pick.result (pick.Stalled c.in-Stalled.lane) c.core.ensures c.pick.ensures c.in-Stalled.is),
  λ some. playing.between.notes,
)

pub returns-in-Done-clause-played : goal.returns-in-Done-clause-played
returns-in-Done-clause-played g c origin playing none = (
  is_done g.D.Disk g.B.Bound c.args.disk.now c.args.bound.now origin c.args.self.now c.args.store.now playing none
      (picked_here c.core.result.now c.args.store.now.core c.args.self.now.lanes c.pick.result pick.Done c.core.ensures c.pick.ensures c.in-Done.is),
  λ some. playing.between.notes,
)
