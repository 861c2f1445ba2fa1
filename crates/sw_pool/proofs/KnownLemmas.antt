-- What is known of the host where no end is kept, or one that leaves it as its history does.
use Rattle.std.proofs.Common.{◌≡◌, Option, Some, None, true, length, sym}
use Rattle.sw_disk.specs.declared.disk.Disk.{Ghosts}
use Rattle.sw_pool.specs.Yards.{Origin, IsYardOf, is_known}
use Rattle.sw_reg.specs.Table as registrations
use Rattle.sw_rules.specs.History.{Legal, after}
use Rattle.sw_scope.specs.Scopes.{Scopes}
use Rattle.sw_tables.specs.Lent.{lent}
use Rattle.sw_turns.proofs.EndLemmas.{so_far_here}
use Rattle.sw_turns.specs.Ways.{recorded_way}
use Rattle.sw_turns.specs.declared.ends.DriveEnd.{DriveEnd}
use Rattle.sw_turns.specs.declared.ends.DriveEnd.TheVariants as drive_end
use Rattle.sw_turns.specs.declared.progress.Progress.{Progress}
use Rattle.sw_state.specs.Hosted.{Hosted, rest_of, state_of}

-- the history is legal, and leaves the state of the host
pub known : {D : Type 0} (disk : Ghosts D) (now : D) (origin : Origin D) (progress : Progress) (end : Option DriveEnd) → IsYardOf disk now origin progress end → is_known end ≡ true
    → Legal origin.base progress.history.items × (after origin.base progress.history.items ≡ state_of progress.store.core)
known disk now origin progress None going is =
    let so_far = so_far_here (length progress.flights.items) (recorded_way origin.recording) origin.base progress.history.items progress.lanes progress.store going.under_way going.quiet.staged in
    (so_far.legal, so_far.state_is)
known disk now origin progress (Some drive_end.Done) stands is = (stands.0.0.0.run.legal, stands.0.1)
known disk now origin progress (Some (drive_end.Stalled lane)) stands is = (stands.0.0.0.run.legal, stands.0.1)
known disk now origin progress (Some (drive_end.Full happened from needed)) stands is = (stands.0.0.2.run.legal, stands.0.1)
known disk now origin progress (Some (drive_end.DiskFault refused)) stands is = absurd (cc (is))
known disk now origin progress (Some drive_end.NoMemory) stands is = absurd (cc (is))
known disk now origin progress (Some (drive_end.Spent spent)) stands is = absurd (cc (is))

-- a state is that of tables that are the host's own
pub lent_here : (host : Hosted) (scopes : Scopes) (of_registrations : registrations.Table) → scopes ≡ host.scopes → of_registrations ≡ host.registrations
    → state_of host ≡ lent scopes host.workers of_registrations host.clients (rest_of host)
lent_here host scopes of_registrations scopes_are rows_are = λ i. lent (sym scopes_are i) host.workers (sym rows_are i) host.clients (rest_of host)
