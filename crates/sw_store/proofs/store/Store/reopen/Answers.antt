use Rattle.std.proofs.Common.{ℕ, subst}
use Rattle.sw_store.proofs.Reopening.{has_opened, is_unopened, not_opened}
use Rattle.sw_store.proofs.store.Store.reopen.Goals as goal
use Rattle.sw_store.specs.Opened.{HasNoRoom}

pub returns-in-Ok-clause-opened : goal.returns-in-Ok-clause-opened
returns-in-Ok-clause-opened g c =
    let was = c.in-Ok.ensures in
    let on = c.resume.ensures in
    has_opened g.D.Disk c.args.disk.now c.open.new.disk c.resume.new.disk c.in-Ok.content was.quiet was.kept on.any_moment was.first_call (was.first (λ is. absurd cc))
    c.in-Ok.twin was.keeps.stands c.resume.result on.base on.noted on.keeps on.acknowledged on.told on.calls on.later on.count

pub returns-in-Ok-clause-unopened : goal.returns-in-Ok-clause-unopened
returns-in-Ok-clause-unopened g c =
    let was = c.in-Ok.ensures in
    is_unopened g.D.Disk c.args.disk.now c.open.new.disk c.resume.new.disk c.in-Ok.content was.quiet was.kept c.resume.ensures.any_moment was.first_call (was.first (λ is. absurd cc))

pub returns-in-Ok-clause-full : goal.returns-in-Ok-clause-full
returns-in-Ok-clause-full g c from needed is =
    subst (λ (limit : ℕ). HasNoRoom g.D.Disk c.resume.new.disk limit from needed) c.in-Ok.ensures.place.1 (c.resume.ensures.full from needed is)

pub returns-in-Err-clause-unopened : goal.returns-in-Err-clause-unopened
returns-in-Err-clause-unopened g c =
    let was = c.in-Err.ensures in
    not_opened g.D.Disk c.args.disk.now c.open.new.disk was.quiet (λ past. was.first (λ is. past (was.fault is)))
