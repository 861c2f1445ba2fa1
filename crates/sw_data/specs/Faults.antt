-- Counts of faults, of a source, a sink or a disk.
use Rattle.std.specs.Prelude.{ℕ, ◌-◌, ◌^◌, ◌<◌}

-- own: the count of faults rose from before to now: it grew, or it stands at the last value of its type
abbrev pub Rose : ℕ → ℕ → Type 0
Rose before now = now < 2 ^ 64 - 1 → before < now
