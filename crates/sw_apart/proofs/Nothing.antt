-- A host that has kept nothing.
use Rattle.std.proofs.Common.{◌≡◌, [], sym, subst, refl}
use Rattle.sw_data.specs.declared.storage.Kept.{Kept}
use Rattle.sw_rules.specs.Storage.{IsMade, nothing}

pub nothing_is_made : (kept : Kept) → kept ≡ nothing → IsMade kept
nothing_is_made kept is = subst IsMade (sym is) ([], refl)
