-- Why a journal was not reopened.
use Rattle.std.specs.Prelude.{ℕ, List}
use Rattle.sw_journal.specs.declared.read.ReadError.{ReadError}
use Rattle.sw_journal.specs.declared.read.ReadError.TheVariants as read
use Rattle.sw_journal.specs.declared.reopening.ReopenError.{ReopenError}
use Rattle.sw_journal.specs.declared.reopening.ReopenError.TheVariants.{NoMemory, DiskFault, NotFormatted, BadJournal}

-- own: what holds of a bad part's offset, and of the whole records before it
abbrev pub OnBadJournal : ReopenError → (ℕ → List (ℕ × List ℕ) → Type 0) → Type 0
OnBadJournal (BadJournal offset before) P = P offset before.items
OnBadJournal NoMemory P = Unit {0}
OnBadJournal DiskFault P = Unit {0}
OnBadJournal NotFormatted P = Unit {0}

-- own: why, where reading the part failed
abbrev pub reopen_error : ReadError → ReopenError
reopen_error read.NoMemory = NoMemory
reopen_error read.DiskFault = DiskFault
