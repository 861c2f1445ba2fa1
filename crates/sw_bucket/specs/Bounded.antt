-- A recording under a bound: which way its history goes, and how the work on it ends.
use Rattle.std.specs.Prelude.{◌≡◌, ◌^◌, ◌≤◌, true, List, length, Option, None}
use Rattle.std.specs.Option.{option_or}
use Rattle.sw_bucket.specs.declared.ends.BoundedEnd.{BoundedEnd}
use Rattle.sw_bucket.specs.declared.ends.BoundedEnd.TheVariants as end
use Rattle.sw_data.specs.declared.events.Event.{Event}
use Rattle.sw_data.specs.declared.events.Event.TheVariants as event
use Rattle.sw_data.specs.declared.events.Who.TheVariants as who
use Rattle.sw_data.specs.declared.histories.Entry.{Entry}
use Rattle.sw_data.specs.declared.recordings.Place.{Place}
use Rattle.sw_data.specs.declared.recordings.Recording.{Recording}
use Rattle.sw_data.specs.declared.storage.Kept.{Kept}
use Rattle.sw_disk.specs.declared.disk.Disk.{Ghosts}
use Rattle.sw_rules.specs.History.{after}
use Rattle.sw_rules.specs.Picks.{next}
use Rattle.sw_rules.specs.State.{State}
use Rattle.sw_turns.specs.Ends.{EndedBy}
use Rattle.sw_turns.specs.Ways.{Way}
use Rattle.sw_turns.specs.declared.ends.DriveEnd.{DriveEnd}
use Rattle.sw_turns.specs.declared.ends.DriveEnd.TheVariants as drive_end
use Rattle.sw_turns.specs.declared.ends.Refusal.{Refusal}
use Rattle.sw_turns.specs.declared.ends.Refusal.TheVariants as refusal

-- own: the host forgets a key
abbrev pub IsForget : Event → Type 0
IsForget happened = (place : Place) × (happened ≡ event.Forget who.Host place)

-- own: the way of a recording on which the forget that is due comes before what the pick order has next
abbrev pub bounded_way : (Kept → List Entry → State → Option Event) → Recording → Kept → Way
bounded_way forgets recording base = record {
  recording = recording;
  forgets = true;
  next = λ history state. option_or (forgets base history state) (next recording history state);
}

-- ---- ends

-- own: it isn't for want of room behind others that an event is refused
abbrev pub IsAlone : Refusal → Type 0
IsAlone (refusal.NoRoom happened) = ⊥
IsAlone _ = Unit {0}

-- own: the end by an event that is refused though nothing waits
abbrev pub refused_by : Refusal → BoundedEnd
refused_by (refusal.Full happened from needed) = end.Full happened from needed
refused_by _ = end.NoMemory

-- own: the end by the disk or for want of memory
abbrev pub cut_by : DriveEnd → BoundedEnd
cut_by (drive_end.DiskFault refused) = end.DiskFault refused
cut_by _ = end.NoMemory

-- own: the end without a bound that says as much of the history
abbrev pub end_of : BoundedEnd → DriveEnd
end_of end.Done = drive_end.Done
end_of (end.Stalled lane) = drive_end.Stalled lane
end_of (end.DiskFault refused) = drive_end.DiskFault refused
end_of (end.Full happened from needed) = drive_end.Full happened from needed
end_of _ = drive_end.NoMemory

-- own: what an end says of what comes next, and of how many entries there are
abbrev pub IsOver : Way → Kept → List Entry → BoundedEnd → Type 0
IsOver way base history end.Done = way.next history (after base history) ≡ None
IsOver way base history (end.Stalled lane) = way.next history (after base history) ≡ None
IsOver way base history end.Spent = 2 ^ 32 ≤ length history
IsOver way base history _ = Unit {0}

-- own: the run of a way by one worker has ended so
pub record HasEnded {D : Type 0} (disk : Ghosts D) (start now : D) (way : Way) (base : Kept) (history : List Entry) (ended : BoundedEnd) : Type 0 where
  pub run : EndedBy disk start now 1 way base history (end_of ended)
  pub over : IsOver way base history ended
