-- The number of a status, and the text that a refusal prints.
use Rattle.std.specs.Prelude.{ℕ, ◌++◌, List, [], codes, decimal}
use Rattle.sw_host.specs.declared.pages.TheConstants.{HELP}
use Rattle.sw_host.specs.declared.statuses.Status.{Status}
use Rattle.sw_host.specs.declared.statuses.Status.TheVariants as status

-- the exit status of the program
abbrev pub code_of : Status → ℕ
code_of status.Done = 0
code_of status.NoMemory = 1
code_of status.BadWords = 2
code_of status.BadLine = 3
code_of status.ReadFault = 4
code_of status.WriteFault = 5
code_of status.DiskFault = 6
code_of status.NotFormatted = 7
code_of status.BadJournal = 8
code_of status.Stalled = 9
code_of status.TooLarge = 10
code_of status.Full = 11
code_of status.AlreadyFormatted = 12
code_of (status.Spent spent) = 13
code_of status.Refuted = 15
code_of status.NoTranscript = 16
code_of status.NoEntryLeft = 13

-- the text that a refusal of its own prints
abbrev pub refusal_text : Status → List ℕ
refusal_text status.BadWords = codes "error: words: init, replay [N], show, gen NUMBER SIZE\n"
refusal_text status.ReadFault = codes "error: read\n"
refusal_text status.DiskFault = codes "error: disk\n"
refusal_text status.NotFormatted = codes "error: not formatted\n"
refusal_text status.TooLarge = codes "error: too large: recording\n"
refusal_text status.Full = codes "error: full\n"
refusal_text status.AlreadyFormatted = codes "error: already formatted\n"
refusal_text status.Refuted = codes "audit no\n"
refusal_text status.NoTranscript = codes "error: no transcript\n"
refusal_text _ = []

-- the text of a bad journal
abbrev pub bad_journal_text : ℕ → List ℕ
bad_journal_text offset = codes "error: bad journal at " ++ decimal offset ++ codes "\n"

-- the text of a source that has more bytes than a recording and a transcript may have
abbrev pub large_source_text : List ℕ
large_source_text = codes "error: too large: source\n"

-- own: how the program is called
abbrev pub help_text : List ℕ
help_text = HELP.now

-- own: the program's name and version
abbrev pub version_text : List ℕ
version_text = codes "swhost 1.0.0\n"
