-- A source that holds a recording and a transcript, divided at a line that is exactly `%%` (own).
use Rattle.std.specs.Prelude.{ℕ, List, [], ◌∷◌, ◌++◌, flat_map, codes, bytes_eq, Option, Some, None, option_map, if◌then◌else◌}
use Rattle.std.specs.List.{join_with_byte}
use Rattle.sw_record.specs.Grammar.{lines_of}

-- the lines before the first that is exactly `%%`, and those behind it
abbrev pub lines_divided : List (List ℕ) → Option (List (List ℕ) × List (List ℕ))
lines_divided [] = None
lines_divided (line ∷ rest) =
    if bytes_eq line (codes "%%") then Some ([], rest)
    else option_map (λ parts. (line ∷ parts.0, parts.1)) (lines_divided rest)

-- lines of which each ends with a line feed
abbrev pub ended : List (List ℕ) → List ℕ
ended lines = flat_map (λ line. line ++ 10 ∷ []) lines

-- what stands before the first line that is exactly `%%`, and what follows the line feed of that line; none where no line is `%%`
unfoldable pub division : List ℕ → Option (List ℕ × List ℕ)
division source =
    option_map (λ parts. (ended parts.0, join_with_byte 10 parts.1)) (lines_divided (lines_of source))
