use Rattle.std.proofs.Common.{◌≡◌, string_bytes, ◌++◌, length, take, flat_map, decimal}
use Rattle.sw_print.specs.Transcript.{numbered, spaced}
use Rattle.sw_print.proofs.lists.listed_numbers.Given as goal

abbrev pub invariant-loop-number : goal.invariant-loop-number
invariant-loop-number l =
    string_bytes l.line ≡ decimal (length l.numbers) ++ flat_map (λ number. spaced (numbered l.letter number)) (take l.number-index l.shown)
