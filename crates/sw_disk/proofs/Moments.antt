-- How a run of calls on a disk goes on, for the callers of a disk.
use Rattle.std.proofs.Common.{inl, inr, ⊎_elim, arith}
use Rattle.sw_disk.specs.Image.{Image}
use Rattle.sw_disk.specs.declared.disk.Disk.{Ghosts}
use Rattle.sw_disk.specs.Meanings.{LeavesOnly}

module _ {D : Type 0} (disk : Ghosts D) where
  -- one run after another
  pub both : (old mid new : D) (P : Image → Type 0) → LeavesOnly disk old mid P → LeavesOnly disk mid new P → LeavesOnly disk old new P
  both old mid new P first second = record {
    later = omega (arith, first.later, second.later);
    before = λ t c le left. ⊎_elim (first.before t c le) inr (second.before t c (omega (arith, le, first.later)) left);
  }

  -- what has P has Q
  pub weaker : (old new : D) (P Q : Image → Type 0) → ((c : Image) → P c → Q c) → LeavesOnly disk old new P → LeavesOnly disk old new Q
  weaker old new P Q more run = record { later = run.later; before = λ t c le left. ⊎_elim inl (λ p. inr (more c p)) (run.before t c le left) }

  -- where a crash at the start leaves what has P, each image since then has P
  pub all_since : (old new : D) (P : Image → Type 0) → ((c : Image) → disk.left_since old (disk.clock old) c → disk.may_leave old c) → ((c : Image) → disk.may_leave old c → P c)
      → LeavesOnly disk old new P → (c : Image) → disk.left_since new (disk.clock old) c → P c
  all_since old new P only_now here run c left = ⊎_elim (λ was. here c (only_now c was)) (λ p. p) (run.before (disk.clock old) c (omega arith) left)
