-- What is read from a source and written to a sink. Either may tell its bytes or tell nothing.
use Rattle.std.specs.Prelude.{◌≡◌, ℕ, List, Option, None, Some}
use Rattle.std.specs.Io.KnownBytes.{Consumes}

-- own: these are the bytes that are told; where none are told, any may be
abbrev pub Tells : Option (List ℕ) → List ℕ → Type 0
Tells None bytes = Unit {0}
Tells (Some told) bytes = bytes ≡ told

-- own: a source lost some bytes at its front, and nothing else, where it tells what it has left
abbrev pub ConsumesSome : Option (List ℕ) → Option (List ℕ) → Type 0
ConsumesSome old new = (front : List ℕ) × Consumes old new front
