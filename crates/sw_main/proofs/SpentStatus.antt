-- The status of a run whose number is that of a spent one.
use Rattle.std.proofs.Common.{◌≡◌, refl}
use Rattle.sw_host.specs.declared.statuses.Status.{Status}
use Rattle.sw_host.specs.declared.statuses.Status.TheVariants as status
use Rattle.sw_host.specs.Texts.{code_of}
use Rattle.sw_lock.specs.declared.pass.Spent.{Spent}

pub spent_of : (outcome : Status) → code_of outcome ≡ 13 → (outcome ≡ status.NoEntryLeft → ⊥) → (spent : Spent) × (outcome ≡ status.Spent spent)
spent_of (status.Spent spent) is other = (spent, refl)
spent_of status.Done is other = absurd cc
spent_of status.NoMemory is other = absurd cc
spent_of status.BadWords is other = absurd cc
spent_of status.BadLine is other = absurd cc
spent_of status.ReadFault is other = absurd cc
spent_of status.WriteFault is other = absurd cc
spent_of status.DiskFault is other = absurd cc
spent_of status.NotFormatted is other = absurd cc
spent_of status.BadJournal is other = absurd cc
spent_of status.Stalled is other = absurd cc
spent_of status.TooLarge is other = absurd cc
spent_of status.Full is other = absurd cc
spent_of status.AlreadyFormatted is other = absurd cc
spent_of status.Refuted is other = absurd cc
spent_of status.NoTranscript is other = absurd cc
spent_of status.NoEntryLeft is other = absurd (other refl)
