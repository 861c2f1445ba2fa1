-- From a call on one part to the whole image.
use Rattle.std.proofs.Common.{◌≡◌, ◌⊎◌, inl, inr, ⊎_elim, ℕ, List, refl, sym, ◌∙◌, ap, subst}
use Rattle.std.specs.Prelude.{Result, OnOk, OnErr}
use Rattle.std.proofs.lemmas.Result.{on_ok_weaker, on_err_weaker}
use Rattle.sw_disk.specs.declared.part.Part.{Part}
use Rattle.sw_disk.specs.declared.part.Part.TheVariants.{Root, Left, Right}
use Rattle.sw_disk.specs.Image.{get, put}
use Rattle.sw_disk.specs.DiskRule.{OnPart}
use Rattle.sw_disk.specs.Doubts.{Exactly}
use Rattle.sw_disk.specs.Memory.{PartLeaves, MayLeave, image_of}
use Rattle.sw_disk.specs.declared.memory.part.MemoryPart.{MemoryPart}
use Rattle.sw_disk.specs.declared.part.Parts.{Parts}
use Rattle.sw_disk.proofs.Images.{put-get}

pub lifted : (part : Part) (step : List ℕ → List ℕ → Type 0) (old : Parts MemoryPart) (now : MemoryPart)
    → Exactly step (PartLeaves (get part old)) (PartLeaves now) → Exactly (OnPart part step) (MayLeave old) (MayLeave (put part now old))
lifted Root step old now exact = record {
  nothing_else = λ c m. let d = exact.nothing_else c.root m.root in (put Root d.0 c, record { root = d.1; left = m.left; right = m.right }, record { here = d.2; elsewhere = refl });
  each = λ c d m s. record {
    root = exact.each c.root d.root m.root s.here;
    left = subst (PartLeaves old.left) (ap (get Left) (sym s.elsewhere)) m.left;
    right = subst (PartLeaves old.right) (ap (get Right) (sym s.elsewhere)) m.right;
  };
}
lifted Left step old now exact = record {
  nothing_else = λ c m. let d = exact.nothing_else c.left m.left in (put Left d.0 c, record { root = m.root; left = d.1; right = m.right }, record { here = d.2; elsewhere = refl });
  each = λ c d m s. record {
    root = subst (PartLeaves old.root) (ap (get Root) (sym s.elsewhere)) m.root;
    left = exact.each c.left d.left m.left s.here;
    right = subst (PartLeaves old.right) (ap (get Right) (sym s.elsewhere)) m.right;
  };
}
lifted Right step old now exact = record {
  nothing_else = λ c m. let d = exact.nothing_else c.right m.right in (put Right d.0 c, record { root = m.root; left = m.left; right = d.1 }, record { here = d.2; elsewhere = refl });
  each = λ c d m s. record {
    root = subst (PartLeaves old.root) (ap (get Root) (sym s.elsewhere)) m.root;
    left = subst (PartLeaves old.left) (ap (get Left) (sym s.elsewhere)) m.left;
    right = exact.each c.right d.right m.right s.here;
  };
}

bytes_of : (part : Part) (old : Parts MemoryPart) → (get part old).bytes.items ≡ get part (image_of old)
bytes_of Root old = refl
bytes_of Left old = refl
bytes_of Right old = refl

-- a call on the part that was lent, by the bytes that it had
module _ {T E : Type 0} (result : Result T E) (part : Part) (step : List ℕ → List ℕ → List ℕ → Type 0) (old : Parts MemoryPart) (was now : MemoryPart) (is : was ≡ get part old) where
  there : Exactly (step was.bytes.items) (PartLeaves was) (PartLeaves now) → Exactly (OnPart part (step (get part (image_of old)))) (MayLeave old) (MayLeave (put part now old))
  there exact =
      subst (λ bytes. Exactly (OnPart part (step bytes)) (MayLeave old) (MayLeave (put part now old))) (bytes_of part old)
      (lifted part (step (get part old).bytes.items) old now (subst (λ p. Exactly (step p.bytes.items) (PartLeaves p) (PartLeaves now)) is exact))

  pub lifted_ok : OnOk result (Exactly (step was.bytes.items) (PartLeaves was) (PartLeaves now)) → OnOk result (Exactly (OnPart part (step (get part (image_of old)))) (MayLeave old) (MayLeave (put part now old)))
  lifted_ok = on_ok_weaker result there

  pub lifted_err : OnErr result ((now ≡ was) ⊎ Exactly (step was.bytes.items) (PartLeaves was) (PartLeaves now))
      → OnErr result ((put part now old ≡ old) ⊎ Exactly (OnPart part (step (get part (image_of old)))) (MayLeave old) (MayLeave (put part now old)))
  lifted_err = on_err_weaker result (λ either. ⊎_elim (λ same. inl (ap (λ p. put part p old) (same ∙ is) ∙ put-get part old)) (λ exact. inr (there exact)) either)
