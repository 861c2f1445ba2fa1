-- A recording that is run under a limit of what is kept: the status and the transcript of its end, and the line behind it.
use Rattle.std.specs.Prelude.{◌≡◌, ◌≢◌, ◌++◌, ℕ, List, map, codes, decimal}
use Rattle.sw_bucket.specs.Bounded as bounded
use Rattle.sw_bucket.specs.declared.ends.BoundedEnd.{BoundedEnd}
use Rattle.sw_bucket.specs.declared.ends.BoundedEnd.TheVariants as bounded_end
use Rattle.sw_bucket.specs.Eviction.{next_forget}
use Rattle.sw_data.specs.declared.histories.End.{End}
use Rattle.sw_data.specs.declared.histories.End.TheVariants as end
use Rattle.sw_data.specs.declared.histories.Entry.{Entry}
use Rattle.sw_data.specs.declared.recordings.Recording.{Recording}
use Rattle.sw_data.specs.declared.storage.Kept.{Kept}
use Rattle.sw_disk.specs.declared.disk.Disk.{Ghosts}
use Rattle.sw_host.specs.declared.statuses.Status.{Status}
use Rattle.sw_host.specs.declared.statuses.Status.TheVariants as status
use Rattle.sw_print.specs.Transcript.{transcript}
use Rattle.sw_rules.specs.Durable.{durable}
use Rattle.sw_rules.specs.History.{after}
use Rattle.sw_sizes.specs.Usage.{usage}
use Rattle.sw_turns.specs.Ways.{Way}

-- own: the way of a recording on which the host forgets the least recently used key that may go, while the usage passes the limit
abbrev pub limited_way : ℕ → Recording → Kept → Way
limited_way limit recording base = bounded.bounded_way (next_forget limit) recording base

-- own: the run of a recording under a limit, on a disk that was opened at the start, has ended so
abbrev pub EndedWithin : {D : Type 0} → Ghosts D → (start now : D) → ℕ → Recording → Kept → List Entry → BoundedEnd → Type 0
EndedWithin disk start now limit recording base history ended =
    bounded.HasEnded disk start now (limited_way limit recording base) base history ended

-- the end that the transcript of a run under a limit names
abbrev pub last_of : BoundedEnd → End
last_of (bounded_end.Stalled lane) = end.Stalled lane
last_of (bounded_end.DiskFault refused) = end.Disk (map (λ entry. entry.event) refused.items)
last_of (bounded_end.Full happened from needed) = end.Full happened
last_of bounded_end.Spent = end.Spent
last_of _ = end.Done

-- the status of a run under a limit
abbrev pub status_of : BoundedEnd → Status
status_of bounded_end.Done = status.Done
status_of (bounded_end.Stalled lane) = status.Stalled
status_of (bounded_end.DiskFault refused) = status.DiskFault
status_of (bounded_end.Full happened from needed) = status.Full
status_of bounded_end.Spent = status.NoEntryLeft
status_of bounded_end.NoMemory = status.NoMemory

-- own: the line of what is used, and of the limit
abbrev pub usage_text : (used limit : ℕ) → List ℕ
usage_text used limit = codes "usage " ++ (decimal used ++ (codes " of " ++ (decimal limit ++ codes "\n")))

-- own: the text of a run under a limit: the transcript of its history, and the line of what is used after it
abbrev pub bounded_text : ℕ → Kept → List Entry → BoundedEnd → List ℕ
bounded_text limit base history ended =
    transcript history (last_of ended) ++ usage_text (usage (durable (after base history))) limit

-- own: a recording is run under a limit on a disk to this status, and the text is that of its history: one that is legal, has each
-- lane's actions in order, and is the one that the pick order fixes, but that the host forgets the least recently used key that may go
-- while the usage passes the limit; of which a crash at any moment leaves a prefix
pub record EndsBounded {D : Type 0} (disk : Ghosts D) (old new : D) (limit : ℕ) (recording : Recording) (outcome : Status) (text : List ℕ) : Type 0 where
  pub base : Kept
  pub history : List Entry
  pub ended : BoundedEnd
  pub run : EndedWithin disk old new limit recording base history ended
  pub ends : outcome ≡ status_of ended
  pub some : outcome ≢ status.NoMemory
  pub printed : text ≡ bounded_text limit base history ended
