-- What a source or a sink in memory is.
use Rattle.std.specs.Prelude.{ℕ, ◌+◌, ◌-◌, ◌^◌, min, List}

-- own: a source in memory: the bytes that it has left, the calls that fail, numbered from 0, how many calls
-- were made and how many of them failed
pub record SourceState : Type 0 where
  pub left : List ℕ
  pub failing : List ℕ
  pub calls : ℕ
  pub faults : ℕ

-- own: a sink in memory: the bytes that it holds, the calls that fail, numbered from 0, how many calls were made
-- and how many of them failed
pub record SinkState : Type 0 where
  pub held : List ℕ
  pub failing : List ℕ
  pub calls : ℕ
  pub faults : ℕ

-- own: a source that never fails: the bytes that it has left, and how many reads were made
pub record NeverState : Type 0 where
  pub left : List ℕ
  pub reads : ℕ

-- own: the count after one more, which stays at the last value of its type
abbrev pub counted : ℕ → ℕ
counted n = min (n + 1) (2 ^ 64 - 1)
