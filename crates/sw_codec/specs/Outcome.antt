-- How what a reader of the code returns stands to what bytes spell.
use Rattle.std.specs.Prelude.{◌≡◌, ℕ, List, Option, Some, None, Result, Ok, Err}
use Rattle.sw_data.specs.declared.storage.Change.{Change}
use Rattle.sw_codec.specs.declared.error.Fault.{Fault}
use Rattle.sw_codec.specs.declared.error.Fault.TheVariants as faults
use Rattle.sw_codec.specs.declared.error.ReadError.{ReadError}
use Rattle.sw_codec.specs.declared.error.ReadError.TheVariants as errors

-- own: the bytes are bad exactly where no front is a spelling; memory may always be wanting
abbrev pub Fails : {Y : Type 0} → Fault → Option Y → Type 0
Fails faults.NoMemory read = Unit {0}
Fails faults.Bad read = read ≡ None

-- own: what a reader returned, seen by view, is what the bytes spell, unless memory is wanting
abbrev pub Gives : {X Y : Type 0} → (X → Y) → Result X Fault → Option Y → Type 0
Gives view (Ok x) read = read ≡ Some (view x)
Gives view (Err fault) read = Fails fault read

-- own: the same of a whole payload, whose fault has an offset
abbrev pub FailsAt : ReadError → Result (List Change) ℕ → Type 0
FailsAt errors.NoMemory read = Unit {0}
FailsAt (errors.BadAt offset) read = read ≡ Err offset

abbrev pub GivesAll : {X : Type 0} → (X → List Change) → Result X ReadError → Result (List Change) ℕ → Type 0
GivesAll view (Ok x) read = read ≡ Ok (view x)
GivesAll view (Err error) read = FailsAt error read
