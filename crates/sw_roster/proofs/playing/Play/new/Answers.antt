-- The lines at their beginning.
use Rattle.std.proofs.Common.{◌∙◌, refl}
use Rattle.sw_roster.proofs.Played.{begins, coherent_at_first}
use Rattle.sw_roster.proofs.playing.Play.new.Goals as goal
use Rattle.sw_state.specs.Hosted.{state_of}

pub new-requires-3 : goal.new-requires-3
new-requires-3 c = coherent_at_first (state_of c.new-2.result) c.new-2.ensures

pub returns : goal.returns
returns c =
    begins c.args.recording.fetches c.args.recording.lines (record {
      roster = c.new-3.result;
      net = c.in_ok-net.net;
      left = c.from_vec.result;
      beats = c.in_ok-beats.beats;
      at = 0;
      made = 0;
    })
    c.in_ok-beats.ensures (c.new-3.ensures.state ∙ c.new-2.ensures) c.new-3.ensures.recent c.in_ok-net.ensures (c.from_vec.ensures.items ∙ c.into_vec.ensures) refl refl
