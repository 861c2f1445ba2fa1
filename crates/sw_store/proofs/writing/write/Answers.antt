use Rattle.std.proofs.Common.{Err, sym, ◌∙◌, ap, subst, arith}
use Rattle.sw_data.specs.declared.storage.Kept.{Kept}
use Rattle.sw_disk.specs.DiskRule.{ForTold}
use Rattle.sw_journal.specs.declared.journal.AppendError.{AppendError}
use Rattle.sw_journal.specs.Journal.{Since}
use Rattle.sw_kept.specs.Keeping.{KeepsNow}
use Rattle.sw_kept.specs.Stored.{HasKept}
use Rattle.sw_store.proofs.Appends.{no_byte, same_kept, since_now, some_byte, some_spelled}
use Rattle.sw_store.proofs.writing.write.Goals as goal

pub returns-then-is_empty-clause-keeps : goal.returns-then-is_empty-clause-keeps
returns-then-is_empty-clause-keeps g c kept all is keeps =
    let payload = c.args.payload.now in
    subst (λ (k : Kept). KeepsNow c.args.twin.now k g.D.Disk c.args.disk.now) (sym (same_kept all payload is kept (no_byte payload c.is_empty.result c.is_empty.ensures c.if-is_empty.true))) keeps

pub returns-then-is_empty-clause-acknowledged : goal.returns-then-is_empty-clause-acknowledged
returns-then-is_empty-clause-acknowledged g c kept all is keeps =
    let payload = c.args.payload.now in
    let now = c.args.disk.now in
    subst (λ (k : Kept). ForTold (g.D.Disk.seen now) (λ image. Since g.D.Disk now now (HasKept k))) (sym (same_kept all payload is kept (no_byte payload c.is_empty.result c.is_empty.ensures c.if-is_empty.true)))
    (since_now g.D.Disk c.args.twin.now kept now (λ f going left. g.met.D.Disk.only_now now f going left) keeps)

pub unreachable-requires : goal.unreachable-requires
unreachable-requires g c =
    let arm = c.in-Err-Full in
    let full = (c.append.ensures.full arm.field-0-0 arm.field-0-1).0 (arm.is ∙ ap (λ (e : AppendError). Err e) arm.field-0-is) in
    let fits = c.requires.fits (some_byte c.args.payload.now c.is_empty.result c.is_empty.ensures c.if-is_empty.false) in
    omega (arith, full.0, full.1, full.2, fits)

pub returns-in-Ok-clause-keeps : goal.returns-in-Ok-clause-keeps
returns-in-Ok-clause-keeps g c kept all is keeps =
    let payload = c.args.payload.now in
    c.in-Ok.ensures.keeps kept all (some_spelled all payload is (some_byte payload c.is_empty.result c.is_empty.ensures c.if-is_empty.false)) keeps

pub returns-in-Ok-clause-acknowledged : goal.returns-in-Ok-clause-acknowledged
returns-in-Ok-clause-acknowledged g c kept all is keeps =
    let payload = c.args.payload.now in
    c.in-Ok.ensures.acknowledged kept all (some_spelled all payload is (some_byte payload c.is_empty.result c.is_empty.ensures c.if-is_empty.false)) keeps
