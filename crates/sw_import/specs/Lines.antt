-- The text of the checks: a line for each.
use Rattle.std.specs.Prelude.{ℕ, List, [], ◌∷◌, ◌++◌, codes, decimal}
use Rattle.json.specs.Print.{quoted}
use Rattle.sw_readers.specs.declared.inputs.ImportFetch.{ImportFetch}
use Rattle.sw_import.specs.Checking.{Checks, check}
use Rattle.sw_import.specs.declared.answers.Checked.{Checked}
use Rattle.sw_import.specs.declared.answers.Checked.TheVariants as checked
use Rattle.sw_import.specs.declared.answers.ImportCause.{ImportCause}
use Rattle.sw_import.specs.declared.answers.ImportCause.TheVariants as cause

-- the word of a cause (own)
abbrev pub cause_word : ImportCause → List ℕ
cause_word cause.Network = codes "network"
cause_word cause.Mime = codes "mime"
cause_word cause.Status = codes "status"
cause_word cause.Import = codes "import"

-- the text of an answer (own)
abbrev pub checked_text : Checked → List ℕ
checked_text (checked.Failed why fetches) = codes "failed " ++ (cause_word why ++ (codes " " ++ decimal fetches))
checked_text (checked.Unchanged fetches) = codes "unchanged " ++ decimal fetches
checked_text (checked.Changed fetches resources) =
    codes "changed " ++ (decimal fetches ++ (codes " " ++ decimal resources))

-- the line of a check: the script's address as a JSON string, and the answer behind the arrow (own)
abbrev pub check_line : List ℕ → Checked → List ℕ
check_line script answer =
    codes "check " ++ (quoted script ++ (codes " -> " ++ (checked_text answer ++ codes "\n")))

-- the lines of the checks of these scripts, one after another
unfoldable pub checks_text : List ImportFetch → Checks → List (List ℕ) → List ℕ
checks_text lines checks [] = []
checks_text lines checks (script ∷ rest) =
    let done = check lines checks script in
    check_line script done.0 ++ checks_text lines done.1 rest
