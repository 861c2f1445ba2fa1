use Rattle.std.proofs.Common.{◌≡◌, ◌≤◌, inr, length, take, ap, ◌∙◌, arith}
use Rattle.std.proofs.lemmas.List.{take-take}
use Rattle.sw_disk.proofs.Doubts.{clipped}
use Rattle.sw_disk.proofs.memory.part.MemoryPart.cut.Goals as goal

pub returns-then-fails-clause-failed : goal.returns-then-fails-clause-failed
returns-then-fails-clause-failed c =
    let old = c.args.self.now in
    let new = c.touch.new.self in
    let fits : c.args.len ≤ length old.bytes.items = omega (arith, c.requires, old.bytes.ok) in
    let marks = c.truncate.ensures.items ∙ ap (take c.args.len) c.in_ok-touch.ensures.ok.1 in
    inr (clipped old.touched new.touched old.doubts.items c.truncate.new.self.items old.bytes.items new.bytes.items c.in_ok-touch.ensures.ok.0 old.short c.args.len marks fits (ap (λ v. take c.args.len v.items) c.touch.ensures.bytes))

pub returns-clause-exact : goal.returns-clause-exact
returns-clause-exact c =
    let old = c.args.self.now in
    let new = c.touch.new.self in
    let fits : c.args.len ≤ length old.bytes.items = omega (arith, c.requires, old.bytes.ok) in
    let marks = c.truncate.ensures.items ∙ ap (take c.args.len) c.in_ok-touch.ensures.ok.1 in
    let same : take c.args.len c.truncate-2.new.self.items ≡ take c.args.len old.bytes.items =
    ap (take c.args.len) c.truncate-2.ensures.items ∙ (take-take c.args.len c.args.len new.bytes.items (omega arith) ∙ ap (λ v. take c.args.len v.items) c.touch.ensures.bytes) in
    clipped old.touched new.touched old.doubts.items c.truncate.new.self.items old.bytes.items c.truncate-2.new.self.items c.in_ok-touch.ensures.ok.0 old.short c.args.len marks fits same
