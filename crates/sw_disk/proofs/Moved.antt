-- How the clock of a disk in memory goes on.
use Rattle.std.proofs.Common.{◌≡◌, ◌≤◌, ◌+◌, ◌⊎◌, ◌↔◌, ◌++◌, [], ◌∷◌, inl, inr, ⊎_elim, ℕ, List, refl, sym, subst, arith}
use Rattle.std.specs.Prelude.{Result, Ok, Err, OnOk, OnErr}
use Rattle.std.specs.List.{All}
use Rattle.std.proofs.lemmas.List.Elements.{All-weaker}
use Rattle.sw_data.specs.Faults.{Rose}
use Rattle.sw_disk.specs.Image.{Image}
use Rattle.sw_disk.specs.DiskRule.{Within, OnPart, capped}
use Rattle.sw_disk.specs.declared.part.Part.{Part}
use Rattle.sw_disk.specs.declared.part.Part.TheVariants.{Root, Left, Right}
use Rattle.sw_disk.specs.Doubts.{Exactly}
use Rattle.sw_disk.specs.Memory.{HadLeft, MayLeave, ForgetsNothing, image_of}
use Rattle.sw_disk.specs.MemoryLaws.{leaves_image}
use Rattle.sw_disk.specs.declared.memory.part.MemoryPart.{MemoryPart}
use Rattle.sw_disk.specs.declared.part.Parts.{Parts}
use Rattle.sw_disk.specs.declared.memory.MemoryDisk.{MemoryDisk}
use Rattle.sw_disk.specs.declared.memory.history.Past.{Past}

-- what was before the clock is before a later one
pub later_all : (old new : ℕ) (past : List Past) → new ≡ capped (old + 1) → All (λ p. Rose p.clock old) past → All (λ p. Rose p.clock new) past
later_all old new past is before = All-weaker (λ p. Rose p.clock old) (λ p. Rose p.clock new) (λ p rose goes. omega (arith, is, goes, rose (omega (arith, is, goes)))) past before

-- what a crash had left with one more moment that is past, at which it may leave what has P
pub had_left_pushed : (past : List Past) (was : Past) (t : ℕ) (c : Image) (P : Type 0) → MayLeave was.parts c ↔ P → HadLeft (past ++ was ∷ []) t c ↔ (HadLeft past t c ⊎ ((t ≤ was.clock) × P))
had_left_pushed [] was t c P same =
    (λ had. ⊎_elim (λ new. inr (new.0, same.0 new.1)) (λ none. absurd none) had, λ either. ⊎_elim (λ none. absurd none) (λ new. inl (new.0, same.1 new.1)) either)
had_left_pushed (p ∷ past) was t c P same = let rest = had_left_pushed past was t c P same in (
  λ had. ⊎_elim (λ here. inl (inl here)) (λ there. ⊎_elim (λ old. inl (inr old)) inr (rest.0 there)) had,
  λ either. ⊎_elim (λ old. ⊎_elim inl (λ there. inr (rest.1 (inl there))) old) (λ new. inr (rest.1 (inr new))) either,
)

-- a call that leaves alone what is past, and after which a crash may leave all that it might have left before
pub same_kept : (old new : MemoryDisk) → new.history.past.items ≡ old.history.past.items → Within (MayLeave old.parts) (MayLeave new.parts) → ForgetsNothing old new
same_kept old new same more t c le left = ⊎_elim (λ now. inl (more c now)) (λ had. inr (subst (λ past. HadLeft past t c) (sym same) had)) left

-- no step at all is a step of a part, where it is one of its bytes
pub still : (part : Part) (step : List ℕ → List ℕ → Type 0) → ((bytes : List ℕ) → step bytes bytes) → (c : Image) → OnPart part step c c
still Root step stays c = record { here = stays c.root; elsewhere = refl }
still Left step stays c = record { here = stays c.left; elsewhere = refl }
still Right step stays c = record { here = stays c.right; elsewhere = refl }

-- a write or a cut, done or not: a crash may leave all that it might have left before
pub step_kept : {T E : Type 0} (result : Result T E) (part : Part) (step : List ℕ → List ℕ → Type 0) (old new : Parts MemoryPart) → ((bytes : List ℕ) → step bytes bytes)
    → OnOk result (Exactly (OnPart part step) (MayLeave old) (MayLeave new))
    → OnErr result ((new ≡ old) ⊎ Exactly (OnPart part step) (MayLeave old) (MayLeave new)) → Within (MayLeave old) (MayLeave new)
step_kept (Ok done) part step old new stays exact failed c left = exact.each c c left (still part step stays c)
step_kept (Err e) part step old new stays exact (inl same) c left = subst (λ p. MayLeave p c) (sym same) left
step_kept (Err e) part step old new stays exact (inr torn) c left = torn.each c c left (still part step stays c)

-- a sync, done or not: a crash leaves nothing else than it might have left before
pub sync_within : {T E : Type 0} (result : Result T E) (old new : Parts MemoryPart) (P : Type 0) → OnOk result ((c : Image) → MayLeave new c ↔ (c ≡ image_of old)) → OnErr result ((new ≡ old) × P)
    → Within (MayLeave new) (MayLeave old)
sync_within (Ok done) old new P sure same c left = subst (MayLeave old) (sym ((sure c).0 left)) (leaves_image old)
sync_within (Err e) old new P sure same c left = subst (λ p. MayLeave p c) same.0 left
