-- What has come by the end.
use Rattle.sw_roster.proofs.Played.{comes_to}
use Rattle.sw_roster.proofs.playing.run_roster.Goals as goal

pub returns : goal.returns
returns c =
    comes_to c.args.recording.fetches c.args.recording.lines c.in_ok-play.play c.run-over.new.self c.in_ok-play.ensures c.run-over.result c.run-over.ensures c.into_beats.result.items c.into_beats.ensures
    c.finish.result c.finish.ensures
