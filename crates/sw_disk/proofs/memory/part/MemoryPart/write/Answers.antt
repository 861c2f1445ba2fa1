use Rattle.std.proofs.Common.{◌≡◌, List, ℕ, inr, length, ap, refl, sym, subst, ◌∙◌, arith}
use Rattle.std.proofs.lemmas.Result.{on_ok_weaker, on_err_weaker}
use Rattle.sw_disk.specs.DiskRule.{Torn, written}
use Rattle.sw_disk.specs.Doubts.{Exactly, Leaves}
use Rattle.sw_disk.specs.Memory.{PartLeaves}
use Rattle.sw_disk.proofs.Doubts.{wrote, written_torn, same_torn_write}
use Rattle.sw_disk.proofs.memory.part.MemoryPart.write.Goals as goal
use Rattle.sw_disk.proofs.memory.part.MemoryPart.write.Goals.{In_ok-doubt}

-- what the part leaves, once the range is marked, where what reads then give is a torn write
marked : (c : In_ok-doubt) (change : List ℕ → List ℕ) (now : List ℕ) → now ≡ change c.doubt.new.self.bytes.items
    → Torn (length c.args.self.now.bytes.items) c.args.at (length c.args.bytes.now) c.args.self.now.bytes.items (change c.args.self.now.bytes.items)
    → Exactly (Torn (length c.args.self.now.bytes.items) c.args.at (length c.args.bytes.now)) (PartLeaves c.args.self.now) (Leaves c.doubt.new.self.touched c.doubt.new.self.doubts.items now)
marked c change now is torn =
    let old = c.args.self.now in
    let new = c.doubt.new.self in
    let n = length c.args.bytes.now in
    wrote old.touched new.touched old.doubts.items new.doubts.items old.bytes.items now c.in_ok-doubt.ensures.ok.0 old.short
    c.args.at n c.in_ok-doubt.ensures.ok.1 (omega (arith, c.requires, old.bytes.ok))
    (subst (Torn (length old.bytes.items) c.args.at n old.bytes.items) (sym (is ∙ ap (λ v. change v.items) c.doubt.ensures.bytes)) torn)

pub returns-then-fails-clause-failed : goal.returns-then-fails-clause-failed
returns-then-fails-clause-failed c = inr (marked (goal.at.returns-then-fails-clause-failed c).In_ok-doubt (λ l. l) _ refl (same_torn_write _ _ _))

pub returns-clause-exact : goal.returns-clause-exact
returns-clause-exact c =
    let old = c.args.self.now.bytes in
    on_ok_weaker c.overwrite.result (λ is.
    marked (goal.at.returns-clause-exact c).In_ok-doubt (written c.args.at c.args.bytes.now) _ is (written_torn c.args.at c.args.bytes.now old.items (omega (arith, c.requires, old.ok)))) c.overwrite.ensures.ok

pub returns-clause-failed : goal.returns-clause-failed
returns-clause-failed c =
    on_err_weaker c.overwrite.result (λ is. inr (marked (goal.at.returns-clause-failed c).In_ok-doubt (λ l. l) _ is (same_torn_write _ _ _))) c.overwrite.ensures.err
