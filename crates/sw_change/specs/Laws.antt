-- Laws of the kept content, each proved by the public call of `sw_change::laws` that has its name.
use Rattle.std.specs.Prelude.{◌≡◌}
use Rattle.sw_data.specs.declared.storage.Kept.{Kept}
use Rattle.sw_rules.specs.Durable.{checkpoint_changes}
use Rattle.sw_rules.specs.Storage.{IsMade, kept_after, nothing}

-- the changes of a checkpoint make, of nothing, the content that it is of
abbrev pub IsRebuilt : Type 0
IsRebuilt = (kept : Kept) → IsMade kept → kept_after nothing (checkpoint_changes kept) ≡ kept
