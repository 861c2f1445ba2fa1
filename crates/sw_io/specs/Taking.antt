-- What a sink takes, told or not.
use Rattle.std.specs.Prelude.{◌≡◌, ◌++◌, ℕ, List}
use Rattle.std.specs.Io.KnownBytes.{Appends, Keeps}
use Rattle.sw_io.specs.declared.sink.Sink.{Ghosts}

-- own: a sink was handed these bytes and took them all, and holds them behind what it held, where it tells that
pub record Takes {K : Type 0} (sink : Ghosts K) (old new : K) (bytes : List ℕ) : Type 0 where
  pub held : Appends (sink.held old) (sink.held new) bytes
  pub handed : sink.handed new ≡ sink.handed old ++ bytes

-- own: a sink took some first part of these bytes, and nothing else
abbrev pub TakesPrefix : {K : Type 0} → Ghosts K → (old new : K) → List ℕ → Type 0
TakesPrefix sink old new bytes = (front rest : List ℕ) × (bytes ≡ front ++ rest) × Takes sink old new front

-- own: a sink took nothing
pub record TakesNothing {K : Type 0} (sink : Ghosts K) (old new : K) : Type 0 where
  pub held : Keeps (sink.held old) (sink.held new)
  pub handed : sink.handed new ≡ sink.handed old
