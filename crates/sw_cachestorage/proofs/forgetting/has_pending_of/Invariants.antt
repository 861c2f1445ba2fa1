-- Nothing is pending on the registrations of the key that the walk has passed.
use Rattle.std.proofs.Common.{◌≡◌, ◌-◌, length}
use Rattle.std.specs.List.{list_any}
use Rattle.std.specs.Option.{IfSome}
use Rattle.sw_cachestorage.proofs.Busy.{pends_of}
use Rattle.sw_cachestorage.proofs.Walks.{HasKeyAt, ahead, place_of}
use Rattle.sw_cachestorage.specs.Forgetting.{has_pending_of}
use Rattle.sw_state.specs.Hosted.{state_of}
use Rattle.sw_cachestorage.proofs.forgetting.has_pending_of.Given as goal

abbrev pub invariant-loop-at : goal.invariant-loop-at
invariant-loop-at l = record {
  stands : IfSome l.at (HasKeyAt l.key l.host.registrations.rows);
  pending : has_pending_of l.key (state_of l.host) ≡ list_any (pends_of l.key l.host) (ahead l.host l.at);
}

abbrev pub decreases-loop-at : goal.decreases-loop-at
decreases-loop-at l = length l.host.registrations.rows - place_of l.host.registrations.rows l.at
