-- A recording that was run was not refused.
use Rattle.std.proofs.Common.{List, ℕ}
use Rattle.sw_disk.specs.declared.disk.Disk.{Ghosts}
use Rattle.sw_forms.specs.declared.error.RecordingError.{RecordingError}
use Rattle.sw_forms.specs.declared.error.RecordingError.TheVariants as error
use Rattle.sw_host.specs.Reading.{RefusedAs}
use Rattle.sw_host.specs.Stands.{RefusesDisk}
use Rattle.sw_host.specs.declared.statuses.Status.{Status}
use Rattle.sw_host.specs.declared.statuses.Status.TheVariants as status

-- own: statuses that of all recordings only those that were run have
abbrev pub IsOfRun : Status → Type 0
IsOfRun status.Done = Unit {0}
IsOfRun status.Stalled = Unit {0}
IsOfRun (status.Spent spent) = Unit {0}
IsOfRun _ = ⊥

pub unrefused : {D : Type 0} (disk : Ghosts D) (old new : D) (text : List ℕ) (outcome : Status) → IsOfRun outcome → RefusesDisk disk old new outcome text → ⊥
unrefused disk old new text status.Done run refused = refused
unrefused disk old new text status.Stalled run refused = refused
unrefused disk old new text (status.Spent spent) run refused = refused
unrefused disk old new text _ run refused = absurd run

pub unread : (text : List ℕ) (why : RecordingError) (outcome : Status) → IsOfRun outcome → RefusedAs why outcome text → ⊥
unread text error.NoMemory outcome run refused = refused
unread text (error.BadLine line cause) status.BadLine run refused = absurd run
unread text (error.BadLine line cause) _ run refused = refused
unread text (error.TooLarge line passed) status.TooLarge run refused = absurd run
unread text (error.TooLarge line passed) _ run refused = refused
