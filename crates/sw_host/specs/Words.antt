-- What words ask for.
use Rattle.std.specs.Prelude.{ℕ, ◌≤◌, ◌^◌, ◌&&◌, Bool, true, false, List, [], ◌∷◌, Option, Some, None, codes, decimal, bytes_eq, nat_le, nat_lt, String, string_bytes, if◌then◌else◌}
use Rattle.std.specs.Option.{option_and_then, option_map_or}
use Rattle.std.specs.Str.Parse.{digits_value}
use Rattle.std.specs.declared.alloc.Global.{Global}
use Rattle.sw_forms.specs.declared.limits.TheConstants.{RECORDING_LIMIT}
use Rattle.sw_host.specs.declared.command.Command.{Command}
use Rattle.sw_host.specs.declared.command.Command.TheVariants as command

-- the command that is one word
abbrev pub one_word : List ℕ → Command
one_word word =
    if bytes_eq word (codes "init") then command.Init
    else if bytes_eq word (codes "replay") then command.Replay 1
    else if bytes_eq word (codes "show") then command.Show
    else if bytes_eq word (codes "imports") then command.Imports
    else if bytes_eq word (codes "audit") then command.Audit
    else if bytes_eq word (codes "roster") then command.Roster
    else if bytes_eq word (codes "--help") then command.Help
    else if bytes_eq word (codes "--version") then command.Version
    else command.Unknown

-- the number below 2^32 that a word is, in decimal digits without leading zeros: that of its digits, where so it is written
abbrev pub number_of : List ℕ → Option ℕ
number_of word =
    let value = digits_value 10 word in
    if nat_lt value (2 ^ 32) && bytes_eq (decimal value) word then Some value else None

-- the number that a word is, where it is one from the least to the most
abbrev pub number_within : ℕ → ℕ → List ℕ → Option ℕ
number_within least most word =
    option_and_then (λ number. if nat_le least number && nat_le number most then Some number else None) (number_of word)

-- the command of a word and so many workers
abbrev pub by_workers : List ℕ → ℕ → Command
by_workers word workers =
    if bytes_eq word (codes "replay") then command.Replay workers
    else if bytes_eq word (codes "watch") then command.Watch workers
    else command.Unknown

-- the command that is two words
abbrev pub two_words : List ℕ → List ℕ → Command
two_words word number =
    if bytes_eq word (codes "quota") then option_map_or command.Quota (number_of number) command.Unknown
    else option_map_or (by_workers word) (number_within 1 16 number) command.Unknown

-- the command of a number and a size
abbrev pub gen_of : Option ℕ → Option ℕ → Command
gen_of (Some number) (Some size) = command.Gen number size
gen_of _ _ = command.Unknown

-- the command that is three words
abbrev pub three_words : List ℕ → List ℕ → List ℕ → Command
three_words word number size =
    if bytes_eq word (codes "gen") then gen_of (number_of number) (number_within 1 4096 size) else command.Unknown

-- what the words ask for
abbrev pub command_of : List (String Global) → Command
command_of [] = command.Unknown
command_of (word ∷ []) = one_word (string_bytes word)
command_of (word ∷ first ∷ []) = two_words (string_bytes word) (string_bytes first)
command_of (word ∷ first ∷ second ∷ []) = three_words (string_bytes word) (string_bytes first) (string_bytes second)
command_of (word ∷ first ∷ second ∷ third ∷ rest) = command.Unknown

-- the command reads the source
abbrev pub reads_source : Command → Bool
reads_source (command.Replay workers) = true
reads_source (command.Watch workers) = true
reads_source (command.Quota limit) = true
reads_source command.Imports = true
reads_source command.Audit = true
reads_source command.Roster = true
reads_source _ = false

-- how many bytes a command reads of the source at most
abbrev pub source_limit : Command → ℕ
source_limit command.Audit = 67108864
source_limit _ = RECORDING_LIMIT

-- own: the command reads the disk, or writes it
abbrev pub needs_disk : Command → Bool
needs_disk command.Init = true
needs_disk (command.Replay workers) = true
needs_disk (command.Watch workers) = true
needs_disk (command.Quota limit) = true
needs_disk command.Show = true
needs_disk command.Audit = true
needs_disk _ = false

-- own: a command that runs a recording has from 1 to 16 workers, and one that generates it a size from 1 to 4096
abbrev pub AreWithin : Command → Type 0
AreWithin (command.Replay workers) = (1 ≤ workers) × (workers ≤ 16)
AreWithin (command.Watch workers) = (1 ≤ workers) × (workers ≤ 16)
AreWithin (command.Gen number size) = (1 ≤ size) × (size ≤ 4096)
AreWithin _ = Unit {0}
