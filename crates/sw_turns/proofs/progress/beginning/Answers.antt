-- The recording is under way, and the host at work on its disk.
use Rattle.std.proofs.Common.{◌≡◌, ◌∷◌, [], sym, subst}
use Rattle.sw_data.specs.declared.recordings.Recording.{Recording}
use Rattle.sw_lane.specs.Recorded.{AreLanesOf}
use Rattle.sw_store.specs.Opened.{HasOpened}
use Rattle.sw_turns.proofs.BeginLemmas.{at_work, under_way}
use Rattle.sw_turns.proofs.progress.beginning.Goals as goal
use Rattle.sw_turns.specs.Groups.{IsUnderWay}
use Rattle.sw_turns.specs.Playing.{opening_of}
use Rattle.sw_turns.specs.Surviving.{IsAtWork}
use Rattle.sw_turns.specs.Ways.{Way}
use Rattle.sw_work.proofs.Calling.{both_ok}

pub returns-clause-under_way : goal.returns-clause-under_way
returns-clause-under_way g c =
    both_ok c.set_out.result (λ made. AreLanesOf c.args.recording [] made.0) (λ made. made.3.items ≡ opening_of c.base.result.now c.clock.result ∷ [])
    (λ made. (way : Way) → way.recording ≡ c.args.recording → IsUnderWay c.args.passes way c.args.store.now.base made.3.items made.0 c.args.store.now)
    (λ made ours is way same.
    under_way c.args.passes way c.base.result.now c.clock.result made.0 c.args.store.now made.3.items c.requires.some c.requires.fresh
    (subst (λ (recording : Recording). AreLanesOf recording [] made.0) (sym same) ours) c.base.ensures is)
    c.set_out.ensures.lanes c.set_out.ensures.history

pub returns-clause-at_work : goal.returns-clause-at_work
returns-clause-at_work g c =
    both_ok c.set_out.result (λ made. made.3.items ≡ opening_of c.base.result.now c.clock.result ∷ []) (λ made. made.3.items ≡ opening_of c.base.result.now c.clock.result ∷ [])
    (λ made. (start : g.row.D.Denot) → HasOpened g.D.Disk start c.args.disk.now c.args.store.now → IsAtWork g.D.Disk start c.args.disk.now c.args.store.now.base made.3.items c.args.store.now)
    (λ made is also start opened.
    at_work g.D.Disk start c.args.disk.now c.clock.result c.base.result.now c.args.store.now made.3.items c.requires.fresh c.base.ensures c.clock.ensures is opened)
    c.set_out.ensures.history c.set_out.ensures.history
