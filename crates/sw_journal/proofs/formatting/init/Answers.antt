use Rattle.std.proofs.Common.{◌≡◌, arith, length, take, Option, None, refl, subst, sym, ◌∙◌}
use Rattle.std.specs.Prelude.{IsSome}
use Rattle.sw_disk.specs.Image.{get}
use Rattle.sw_disk.specs.DiskRule.{ForTold}
use Rattle.sw_journal.specs.Format.{Format, format_of}
use Rattle.sw_journal.specs.Quiet.{LeavesAlone}
use Rattle.sw_journal.proofs.FreshParts.{header_read, some_of, none_of}
use Rattle.sw_journal.proofs.formatting.init.Given.{Over}
use Rattle.sw_journal.proofs.formatting.init.Goals as goal
use Rattle.sw_journal.proofs.formatting.init.Goals.{Else-is_some}

pub returns-then-is_some-clause-already : goal.returns-then-is_some-clause-already
returns-then-is_some-clause-already g c is =
    header_read (g.D.Disk.seen c.args.disk.now) c.args.part c.in-Ok.count (length c.read_front.new.bytes) c.read_front.new.bytes (λ f. IsSome f) (omega (arith, c.read_front.auto.bytes)) c.in-Ok.ensures.front
    (some_of c.of.result (format_of (take c.in-Ok.count c.read_front.new.bytes)) c.of.ensures.format (sym c.is_some.ensures ∙ c.if-is_some.true))

-- what holds of no header holds of what was read
unformatted : (g : Over) (c : Else-is_some g) (P : Option Format → Type 0) → P None → ForTold (g.D.Disk.seen c.args.disk.now) (λ image. P (format_of (get c.args.part image)))
unformatted g c P holds =
    header_read (g.D.Disk.seen c.args.disk.now) c.args.part c.in-Ok.count (length c.read_front.new.bytes) c.read_front.new.bytes P (omega (arith, c.read_front.auto.bytes)) c.in-Ok.ensures.front
    (subst P (sym (none_of c.of.result (format_of (take c.in-Ok.count c.read_front.new.bytes)) c.of.ensures.format (sym c.is_some.ensures ∙ c.if-is_some.false))) holds)

pub returns-in-Ok-write_fresh-clause-was_not : goal.returns-in-Ok-write_fresh-clause-was_not
returns-in-Ok-write_fresh-clause-was_not g c = unformatted g (goal.at.returns-in-Ok-write_fresh-clause-was_not g c).Else-is_some (λ f. f ≡ None) refl

pub returns-in-Ok-write_fresh-clause-left_alone : goal.returns-in-Ok-write_fresh-clause-left_alone
returns-in-Ok-write_fresh-clause-left_alone g c =
    unformatted g (goal.at.returns-in-Ok-write_fresh-clause-left_alone g c).Else-is_some (λ f. IsSome f → LeavesAlone g.D.Disk c.args.disk.now c.write_fresh.new.disk) (λ there. absurd (cc))

pub returns-in-Err-write_fresh-clause-left_alone : goal.returns-in-Err-write_fresh-clause-left_alone
returns-in-Err-write_fresh-clause-left_alone g c =
    unformatted g (goal.at.returns-in-Err-write_fresh-clause-left_alone g c).Else-is_some (λ f. IsSome f → LeavesAlone g.D.Disk c.args.disk.now c.write_fresh.new.disk) (λ there. absurd (cc))
