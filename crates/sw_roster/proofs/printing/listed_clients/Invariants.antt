use Rattle.std.proofs.Common.{◌≡◌, string_bytes, ◌++◌, codes, length, take, flat_map, decimal}
use Rattle.sw_print.specs.Transcript.{numbered, spaced}
use Rattle.sw_roster.proofs.printing.listed_clients.Given as goal

abbrev pub invariant-loop-client : goal.invariant-loop-client
invariant-loop-client l =
    string_bytes l.line ≡ decimal (length l.clients) ++ flat_map (λ client. spaced (numbered (codes "c") client)) (take l.client-index l.shown)
