use Rattle.std.proofs.Common.{◌≡◌, ℕ, List, [], refl, sym, ap, subst, ◌∙◌}
use Rattle.sw_disk.specs.DiskRule.{ForTold}
use Rattle.sw_journal.specs.Content.{BadAt}
use Rattle.sw_journal.specs.Reopening.{OnBadJournal}
use Rattle.sw_journal.specs.declared.reopening.ReopenError.{ReopenError}
use Rattle.sw_kept.proofs.Contents.{records_make}
use Rattle.sw_kept.proofs.Opened.{bad_before}
use Rattle.sw_kept.specs.Stored.{Bad, bad_by, stored}
use Rattle.sw_rules.specs.Storage.{nothing}
use Rattle.sw_twin.specs.Current.{content_of}
use Rattle.sw_kept.proofs.opening.open.Goals as goal

pub returns-in-Ok-2-clause-made : goal.returns-in-Ok-2-clause-made
returns-in-Ok-2-clause-made g c =
    records_make nothing c.in-Ok-2.content c.deref.result.now ([], refl) (sym c.in_ok-content-in-Ok.ensures ∙ c.in-Ok-2.is)

pub returns-in-Ok-3-clause-bad : goal.returns-in-Ok-3-clause-bad
returns-in-Ok-3-clause-bad g c offset is =
    let same : c.in-Err-BadJournal.offset ≡ offset = cc in
    let told =
    subst (λ (e : ReopenError). ForTold (g.D.Disk.seen c.args.disk.now) (λ image. OnBadJournal e (λ offset before. content_of image ≡ BadAt offset before)))
    c.in-Err-BadJournal.field-0-is c.in-Err-BadJournal.ensures.bad in
    let there = subst (λ (before : List (ℕ × List ℕ)). ForTold (g.D.Disk.seen c.args.disk.now) (λ image. content_of image ≡ BadAt c.in-Err-BadJournal.offset before))
    (sym c.deref-in-Err-BadJournal.ensures.value) told in
    subst (λ (n : ℕ). ForTold (g.D.Disk.seen c.args.disk.now) (λ image. stored image ≡ Bad n)) same
    (bad_before g.D.Disk c.args.disk.now c.in-Err-BadJournal.offset c.in-Err-BadJournal.offset c.deref-in-Err-BadJournal.result.now
    (ap (bad_by c.in-Err-BadJournal.offset) (sym c.in_ok-content_by-in-Err-BadJournal.ensures ∙ c.in-Ok-3.is)) there)
