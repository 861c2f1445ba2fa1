use Rattle.std.proofs.Common.{◌≡◌, string_bytes, ◌++◌, length, take, flat_map, decimal}
use Rattle.json.specs.Print.{quoted}
use Rattle.sw_print.specs.Transcript.{spaced}
use Rattle.sw_print.proofs.lists.listed_names.Given as goal

abbrev pub invariant-loop-name : goal.invariant-loop-name
invariant-loop-name l =
    string_bytes l.line ≡ decimal (length l.names) ++ flat_map (λ name. spaced (quoted name)) (take l.name-index l.shown)
