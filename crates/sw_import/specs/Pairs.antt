-- Fetch lines beside what their scripts import (own).
use Rattle.std.specs.Prelude.{ℕ, List, [], ◌∷◌}
use Rattle.sw_data.specs.declared.recordings.FetchLine.{FetchLine}
use Rattle.sw_readers.specs.declared.inputs.ImportFetch.{ImportFetch}

-- the lines with their imports, of two lists of one length
abbrev pub paired : List FetchLine → List (List (List ℕ)) → List ImportFetch
paired [] all_imports = []
paired (line ∷ lines) [] = []
paired (line ∷ lines) (imports ∷ all_imports) =
    record { line = line; imports = imports } ∷ paired lines all_imports
