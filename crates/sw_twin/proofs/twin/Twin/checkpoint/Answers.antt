use Rattle.std.proofs.Common.{◌≡◌, refl, sym, ◌∙◌, ap, subst}
use Rattle.sw_disk.specs.declared.part.Part.{Part}
use Rattle.sw_disk.specs.declared.part.Part.TheVariants.{Root}
use Rattle.sw_disk.specs.Meanings.{Becomes}
use Rattle.sw_journal.specs.Journal.{JournalState}
use Rattle.sw_twin.specs.Going.{WentOver}
use Rattle.sw_twin.specs.Twin.{TwinState, StandsFor}
use Rattle.sw_twin.proofs.Checkpoints.{inside, since_entry, any_moment, has, stands_after, acknowledged}
use Rattle.sw_twin.proofs.twin.Twin.checkpoint.Given.{Over}
use Rattle.sw_twin.proofs.twin.Twin.checkpoint.Goals as goal
use Rattle.sw_twin.proofs.twin.Twin.checkpoint.Goals.{After-part_after-part, After-self-1}

-- the twin by its fields
abbrev twin : (g : Over) → After-part_after-part g → TwinState
twin g c = record { journal = c.self.inside.journal; ones = c.self.inside.ones }

stands : (g : Over) (c : After-part_after-part g) → StandsFor (twin g c) g.D.Disk c.args.disk.now
stands g c = subst (λ (t : TwinState). StandsFor t g.D.Disk c.args.disk.now) (sym c.self.view_is) c.requires.stands

pub go_over-requires-clause-inside : goal.go_over-requires-clause-inside
go_over-requires-clause-inside g c =
    let before = (goal.at.go_over-requires-clause-inside g c).After-part_after-part in
    inside (twin g before) g.D.Disk c.args.disk.now c.args.disk.now (stands g before) c.args.contents.now

pub returns-in-Err-clause-any_moment : goal.returns-in-Err-clause-any_moment
returns-in-Err-clause-any_moment g c =
    let before = (goal.at.returns-in-Err-clause-any_moment g c).After-part_after-part in
    any_moment (twin g before) g.D.Disk c.args.disk.now c.go_over.new.disk (stands g before) c.args.contents.now (g.met.D.Disk.bounded c.args.disk.now Root)
    c.saturating_add-ones.result c.saturating_add-ones.ensures c.part_after-part.result c.part_after-part.ensures c.in-Err.ensures.any_moment

pub returns-in-Ok-clause-any_moment : goal.returns-in-Ok-clause-any_moment
returns-in-Ok-clause-any_moment g c =
    let before = (goal.at.returns-in-Ok-clause-any_moment g c).After-part_after-part in
    any_moment (twin g before) g.D.Disk c.args.disk.now c.go_over.new.disk (stands g before) c.args.contents.now (g.met.D.Disk.bounded c.args.disk.now Root)
    c.saturating_add-ones.result c.saturating_add-ones.ensures c.part_after-part.result c.part_after-part.ensures c.in-Ok.ensures.any_moment

pub returns-in-Err-clause-since_entry : goal.returns-in-Err-clause-since_entry
returns-in-Err-clause-since_entry g c =
    let before = (goal.at.returns-in-Err-clause-since_entry g c).After-part_after-part in
    since_entry (twin g before) g.D.Disk c.args.disk.now c.go_over.new.disk (stands g before) c.args.contents.now (λ f going left. g.met.D.Disk.only_now c.args.disk.now f going left)
    (returns-in-Err-clause-any_moment g c)

pub returns-in-Ok-clause-since_entry : goal.returns-in-Ok-clause-since_entry
returns-in-Ok-clause-since_entry g c =
    let before = (goal.at.returns-in-Ok-clause-since_entry g c).After-part_after-part in
    since_entry (twin g before) g.D.Disk c.args.disk.now c.go_over.new.disk (stands g before) c.args.contents.now (λ f going left. g.met.D.Disk.only_now c.args.disk.now f going left)
    (returns-in-Ok-clause-any_moment g c)

-- the twin that goes over, by its fields
abbrev next : (g : Over) → After-self-1 g → TwinState
next g c = record { journal = c.move_to.new.self; ones = c.saturating_add-ones.result }

part_is : (g : Over) (c : After-self-1 g) → c.move_to.new.self.part ≡ c.part_after-part.result
part_is g c = ap (λ (j : JournalState). j.part) c.move_to.ensures.place

became : (g : Over) (c : After-self-1 g) → Becomes g.D.Disk c.args.disk.now c.go_over.new.disk (WentOver c.move_to.new.self.part c.args.contents.now c.self.inside.ones)
became g c = subst (λ (p : Part). Becomes g.D.Disk c.args.disk.now c.go_over.new.disk (WentOver p c.args.contents.now c.self.inside.ones)) (sym (part_is g c)) c.in-Ok.ensures.went

pub returns-in-Ok-clause-has : goal.returns-in-Ok-clause-has
returns-in-Ok-clause-has g c =
    let before = (goal.at.returns-in-Ok-clause-has g c).After-part_after-part in
    has (twin g before) g.D.Disk c.args.disk.now c.go_over.new.disk (stands g before) c.args.contents.now (g.met.D.Disk.bounded c.args.disk.now Root)
    c.saturating_add-ones.result c.saturating_add-ones.ensures (next g c) c.move_to.ensures.stands (part_is g c ∙ c.part_after-part.ensures) refl (became g c)

pub returns-in-Ok-clause-stands : goal.returns-in-Ok-clause-stands
returns-in-Ok-clause-stands g c =
    let before = (goal.at.returns-in-Ok-clause-stands g c).After-part_after-part in
    stands_after (twin g before) g.D.Disk c.args.disk.now c.go_over.new.disk (stands g before) c.args.contents.now (g.met.D.Disk.bounded c.args.disk.now Root)
    c.saturating_add-ones.result c.saturating_add-ones.ensures (next g c) c.move_to.ensures.stands (part_is g c ∙ c.part_after-part.ensures) refl (became g c)
    c.in-Ok.ensures.durable

pub returns-in-Ok-clause-acknowledged : goal.returns-in-Ok-clause-acknowledged
returns-in-Ok-clause-acknowledged g c =
    let before = (goal.at.returns-in-Ok-clause-acknowledged g c).After-part_after-part in
    acknowledged (twin g before) g.D.Disk c.args.disk.now c.go_over.new.disk (stands g before) c.args.contents.now (g.met.D.Disk.bounded c.args.disk.now Root)
    c.saturating_add-ones.result c.saturating_add-ones.ensures (next g c) c.move_to.ensures.stands (part_is g c ∙ c.part_after-part.ensures) refl (became g c)
    (λ f going left. g.met.D.Disk.only_now c.go_over.new.disk f going left) c.in-Ok.ensures.durable
