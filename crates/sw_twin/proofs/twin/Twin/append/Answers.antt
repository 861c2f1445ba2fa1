use Rattle.std.proofs.Common.{◌+◌, ◌<◌, sym, ◌∙◌, ap, subst}
use Rattle.std.specs.Prelude.{OnOk}
use Rattle.sw_disk.specs.DiskRule.{ForTold, OnPart, Stepped}
use Rattle.sw_disk.specs.Meanings.{Becomes, LeavesSteps}
use Rattle.sw_disk.proofs.Images.{ok_so}
use Rattle.sw_journal.specs.Journal as one
use Rattle.sw_journal.specs.Journal.{Since}
use Rattle.sw_twin.specs.Twin.{TwinState, StandsFor, HasMore, HasSameOrMore}
use Rattle.sw_twin.proofs.Adding.{added, acknowledged, any_moment, since_entry}
use Rattle.sw_twin.proofs.twin.Twin.append.Given.{Over}
use Rattle.sw_twin.proofs.twin.Twin.append.Goals as goal
use Rattle.sw_twin.proofs.twin.Twin.append.Goals.{After-append}

-- the twin by its fields
abbrev twin : (g : Over) → After-append g → TwinState
twin g c = record { journal = c.self.inside.journal; ones = c.self.inside.ones }

stands : (g : Over) (c : After-append g) → StandsFor (twin g c) g.D.Disk c.args.disk.now
stands g c = subst (λ (t : TwinState). StandsFor t g.D.Disk c.args.disk.now) (sym c.self.view_is) c.requires.stands

pub returns-clause-full : goal.returns-clause-full
returns-clause-full g c from needs =
    let gate = ap (λ (t : TwinState). t.journal.gate + 1) c.self.view_is in
    let exact = c.append.ensures.full from needs in (
      λ full. let is = exact.0 full in (is.0 ∙ gate, is.1, subst (λ (t : TwinState). t.journal.limit < from + needs) c.self.view_is is.2),
      λ is. exact.1 (is.0 ∙ sym gate, is.1, subst (λ (t : TwinState). t.journal.limit < from + needs) (sym c.self.view_is) is.2),
    )

pub returns-clause-added : goal.returns-clause-added
returns-clause-added g c =
    let disk = g.D.Disk in
    let start = c.args.disk.now in
    let end = c.append.new.disk in
    let payload = c.args.payload.now in
    let t = twin g c in
    subst (λ (t : TwinState). OnOk c.append.result (Becomes disk start end (HasMore t payload))) c.self.view_is
    (ok_so c.append.result (Becomes disk start end (OnPart t.journal.part (one.HasMore t.journal payload))) (Becomes disk start end (HasMore t payload)) (added t disk start end (stands g c) payload) c.append.ensures.added)

pub returns-clause-acknowledged : goal.returns-clause-acknowledged
returns-clause-acknowledged g c =
    let disk = g.D.Disk in
    let start = c.args.disk.now in
    let end = c.append.new.disk in
    let payload = c.args.payload.now in
    let t = twin g c in
    subst (λ (t : TwinState). OnOk c.append.result (ForTold (disk.seen start) (λ image. Since disk end end (HasMore t payload image)))) c.self.view_is
    (ok_so c.append.result (ForTold (disk.seen start) (λ image. Since disk end end (OnPart t.journal.part (one.HasMore t.journal payload) image)))
    (ForTold (disk.seen start) (λ image. Since disk end end (HasMore t payload image))) (acknowledged t disk start end (stands g c) payload) c.append.ensures.acknowledged)

pub returns-clause-any_moment : goal.returns-clause-any_moment
returns-clause-any_moment g c =
    subst (λ (t : TwinState). LeavesSteps g.D.Disk c.args.disk.now c.append.new.disk (λ image. HasSameOrMore t c.args.payload.now)) c.self.view_is
    (any_moment (twin g c) g.D.Disk c.args.disk.now c.append.new.disk (stands g c) c.args.payload.now c.append.ensures.any_moment)

pub returns-clause-since_entry : goal.returns-clause-since_entry
returns-clause-since_entry g c =
    let disk = g.D.Disk in
    let start = c.args.disk.now in
    let end = c.append.new.disk in
    subst (λ (t : TwinState). ForTold (disk.seen start) (λ image. Since disk start end (Stepped (HasSameOrMore t c.args.payload.now) (disk.may_leave start)))) c.self.view_is
    (since_entry (twin g c) disk start end (stands g c) c.args.payload.now c.append.ensures.since_entry)
