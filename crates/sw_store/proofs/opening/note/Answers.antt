use Rattle.std.proofs.Common.{◌≡◌, ◌<◌, ◌+◌, refl, [], ◌∷◌, Err, sym, ◌∙◌, ap, subst, arith}
use Rattle.sw_data.specs.declared.storage.Change.TheVariants as change
use Rattle.sw_data.specs.declared.storage.Kept.{Kept}
use Rattle.sw_journal.specs.declared.journal.AppendError.{AppendError}
use Rattle.sw_journal.specs.Format.{format_2, needed_length}
use Rattle.sw_kept.specs.Keeping.{KeepsNow}
use Rattle.sw_store.proofs.Reopening.{keeps_with_room, restarted_spelled}
use Rattle.sw_store.proofs.opening.note.Given.{Over}
use Rattle.sw_store.proofs.opening.note.Goals as goal
use Rattle.sw_store.proofs.opening.note.Goals.{After-append}
use Rattle.sw_twin.specs.Twin.{TwinState}

-- the room that was made changes nothing of what is kept
keeps_still : (g : Over) (c : After-append g) (kept : Kept) → KeepsNow c.args.twin.now kept g.D.Disk c.args.disk.now → KeepsNow c.reserve.new.self kept g.D.Disk c.args.disk.now
keeps_still g c kept keeps =
    let now = c.args.disk.now in
    subst (λ (t : TwinState). KeepsNow t kept g.D.Disk now) (sym c.reserve.ensures.same) (keeps_with_room g.D.Disk now c.args.twin.now c.reserve.new.self.journal.spare kept keeps)

pub returns-in-Ok-clause-keeps : goal.returns-in-Ok-clause-keeps
returns-in-Ok-clause-keeps g c kept keeps =
    c.in-Ok.ensures.keeps kept (change.Restarted ∷ []) restarted_spelled (keeps_still g (goal.at.returns-in-Ok-clause-keeps g c).After-append kept keeps)

pub returns-in-Ok-clause-any_moment : goal.returns-in-Ok-clause-any_moment
returns-in-Ok-clause-any_moment g c kept keeps =
    c.in-Ok.ensures.any_moment kept (change.Restarted ∷ []) restarted_spelled (keeps_still g (goal.at.returns-in-Ok-clause-any_moment g c).After-append kept keeps)

pub returns-in-Ok-clause-acknowledged : goal.returns-in-Ok-clause-acknowledged
returns-in-Ok-clause-acknowledged g c kept keeps =
    c.in-Ok.ensures.acknowledged kept (change.Restarted ∷ []) restarted_spelled (keeps_still g (goal.at.returns-in-Ok-clause-acknowledged g c).After-append kept keeps)

pub returns-in-Err-Full-clause-full : goal.returns-in-Err-Full-clause-full
returns-in-Err-Full-clause-full g c from needed is =
    let arm = c.in-Err-Full in
    let told = (c.append.ensures.full arm.length arm.needed).0 (arm.is ∙ ap (λ (e : AppendError). Err e) arm.field-0-is) in
    let before = c.reserve.ensures.same in
    let from_is : arm.length ≡ from = cc in
    let needs : arm.needed ≡ needed = cc in
    record {
      format = c.requires.format;
      offset = sym from_is ∙ told.0 ∙ ap (λ (t : TwinState). t.journal.gate + 1) before;
      needs = sym needs ∙ told.1;
      passes = omega (arith, told.2, ap (λ (t : TwinState). t.journal.limit) before, from_is, needs);
    }

pub returns-in-Err-DiskFault-clause-any_moment : goal.returns-in-Err-DiskFault-clause-any_moment
returns-in-Err-DiskFault-clause-any_moment g c kept keeps =
    c.append.ensures.any_moment kept (change.Restarted ∷ []) restarted_spelled (keeps_still g (goal.at.returns-in-Err-DiskFault-clause-any_moment g c).After-append kept keeps)

pub returns-in-Ok-clause-fits : goal.returns-in-Ok-clause-fits
returns-in-Ok-clause-fits g c =
    let before = c.reserve.new.self in
    let next = c.in-Ok.ensures.next in
    let within : before.journal.limit < before.journal.gate + 1 + needed_length format_2 1 → ⊥ = λ past. cc ((c.in-Ok.ensures.full (before.journal.gate + 1) (needed_length format_2 1)).1 (refl, refl, past)) in
    omega (arith, within, ap (λ (t : TwinState). t.journal.gate) next, ap (λ (t : TwinState). t.journal.limit) next)
