-- How work has ended, where an end is kept and where none is.
use Rattle.std.proofs.Common.{◌≡◌, ℕ, Option, Some, None, length, subst}
use Rattle.std.specs.Prelude.{unwrap_or}
use Rattle.sw_disk.specs.declared.disk.Disk.{Ghosts}
use Rattle.sw_pool.specs.Yards.{IsUnended, IsUnkept, IsWorked, Origin, IsYardOf}
use Rattle.sw_turns.proofs.EndLemmas.{ends_short, ends_spent}
use Rattle.sw_turns.specs.Ends.{Ended, IsTurnEnd}
use Rattle.sw_turns.specs.declared.ends.DriveEnd.{DriveEnd}
use Rattle.sw_turns.specs.declared.ends.DriveEnd.TheVariants as drive_end
use Rattle.sw_turns.specs.declared.progress.Progress.{Progress}

module _ {D : Type 0} (disk : Ghosts D) (origin : Origin D) (now : D) (progress : Progress) (passes : length progress.flights.items ≡ origin.passes) where
  -- the same by the number of passes
  counted : (ended : DriveEnd) → Ended disk origin.start now (length progress.flights.items) origin.recording origin.base progress.history.items ended
      → Ended disk origin.start now origin.passes origin.recording origin.base progress.history.items ended
  counted ended run = subst (λ (workers : ℕ). Ended disk origin.start now workers origin.recording origin.base progress.history.items ended) passes run

  -- an end that is kept is not that of a pass that is spent
  unended : (ended : DriveEnd) → IsTurnEnd ended → IsUnended disk origin now progress ended
  unended drive_end.Done kept = tt
  unended (drive_end.Stalled lane) kept = tt
  unended (drive_end.DiskFault refused) kept = tt
  unended (drive_end.Full happened from needed) kept = tt
  unended drive_end.NoMemory kept = tt
  unended (drive_end.Spent spent) kept = absurd kept

  pub worked : (kept : Option DriveEnd) (otherwise : DriveEnd) → IsYardOf disk now origin progress kept → IsUnkept (disk.clock origin.start) otherwise
      → IsWorked disk origin now progress (unwrap_or kept otherwise)
  worked (Some ended) otherwise stands unkept = (stands.0, unended ended stands.1)
  worked None drive_end.NoMemory going unkept =
      ((counted drive_end.NoMemory (ends_short disk origin.start now origin.recording origin.base progress going), tt), tt)
  worked None (drive_end.Spent spent) going unkept =
      ((counted (drive_end.Spent spent) (ends_spent disk origin.start now origin.recording origin.base progress going spent unkept), tt), going)
  worked None drive_end.Done going unkept = absurd unkept
  worked None (drive_end.Stalled lane) going unkept = absurd unkept
  worked None (drive_end.DiskFault refused) going unkept = absurd unkept
  worked None (drive_end.Full happened from needed) going unkept = absurd unkept

  -- a value that is stopped stands
  pub stopped : (kept : Option DriveEnd) → IsYardOf disk now origin progress kept → IsYardOf disk now origin progress (Some (unwrap_or kept drive_end.NoMemory))
  stopped (Some ended) stands = stands
  stopped None going = ((counted drive_end.NoMemory (ends_short disk origin.start now origin.recording origin.base progress going), tt), tt)
