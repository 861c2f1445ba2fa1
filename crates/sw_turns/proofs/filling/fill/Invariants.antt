use Rattle.std.proofs.Common.{◌≡◌, ◌≤◌, ◌-◌, List, None, length}
use Rattle.sw_data.specs.declared.histories.Entry.{Entry}
use Rattle.sw_data.specs.declared.recordings.Recording.{Recording}
use Rattle.sw_data.specs.declared.storage.Kept.{Kept}
use Rattle.sw_lane.specs.Picked.{in_flight, picked}
use Rattle.sw_lane.specs.declared.picks.Pick.TheVariants as pick
use Rattle.sw_laws.specs.Coherent.{Coherent}
use Rattle.sw_lock.specs.Entries.{ThenOwn}
use Rattle.sw_turns.specs.Coming.{GrowsByPick}
use Rattle.sw_turns.specs.Flights.{AreInFlight}
use Rattle.sw_turns.specs.Groups.{IsUnderWay}
use Rattle.sw_turns.specs.Ways.{recorded_way}
use Rattle.sw_store.specs.Stores.{IsSameTwin}
use Rattle.sw_state.specs.Hosted.{state_of}
use Rattle.sw_turns.proofs.filling.fill.Given as goal

abbrev pub invariant-events : goal.invariant-events
invariant-events l = record {
  sound : Coherent (state_of l.store.core);
  same : l.flights ≡ l.initial.flights;
  flying : AreInFlight (state_of l.store.core) l.flights;
  since : l.store.since ≡ None;
  few : length l.store.staged ≤ 16;
  more : length l.initial.store.staged ≤ length l.store.staged;
  still : length l.store.staged ≡ length l.initial.store.staged
      → picked (state_of l.store.core) (in_flight l.flights) l.lanes
      ≡ picked (state_of l.initial.store.core) (in_flight l.initial.flights) l.initial.lanes;
  idle : picked (state_of l.initial.store.core) (in_flight l.initial.flights) l.initial.lanes ≡ pick.Idle
      → length l.store.staged ≡ length l.initial.store.staged;
  twin : IsSameTwin l.initial.store.twin l.store.twin;
  mark : l.store.mark ≡ l.initial.store.mark;
  own : ThenOwn (λ (entry : Entry). entry.pass) l.pass l.initial.store.staged l.store.staged;
  grows : GrowsByPick l.net l.initial.flights l.initial.lanes l.lanes l.initial.store l.store;
  goes_on : (recording : Recording) (base : Kept) (history : List Entry) → recording.fetches ≡ l.net
      → IsUnderWay (length l.initial.flights) (recorded_way recording) base history l.initial.lanes l.initial.store
      → IsUnderWay (length l.initial.flights) (recorded_way recording) base history l.lanes l.store;
}

abbrev pub decreases-events : goal.decreases-events
decreases-events l = 16 - length l.store.staged
