use Rattle.std.proofs.Common.{inl, inr, Err, refl, sym, ◌∙◌, ap}
use Rattle.std.proofs.lemmas.Result.{err_from_is_err_and}
use Rattle.sw_store.proofs.Reopening.{no_room}
use Rattle.sw_store.proofs.opening.go_on.Goals as goal
use Rattle.sw_store.specs.declared.errors.OpenError.{OpenError}

pub returns-in_err-renew-clause-full : goal.returns-in_err-renew-clause-full
returns-in_err-renew-clause-full g c from needed is =
    let refused = err_from_is_err_and c.from_residual.result c.from_residual.ensures.1 in
    let told = ap (λ (why : OpenError). Err why) (sym refused.2) ∙ sym refused.1 ∙ is in
    no_room g.D.Disk c.args.disk.now c.renew.new.disk c.args.twin.now c.args.base.now c.args.twin.now.journal.limit from needed c.requires.keeps (c.in_err-renew.ensures.untouched from needed told) refl
    (inr (c.in_err-renew.ensures.full from needed told))

pub returns-clause-full : goal.returns-clause-full
returns-clause-full g c from needed is =
    no_room g.D.Disk c.renew.new.disk c.note.new.disk c.renew.new.twin c.args.base.now c.args.twin.now.journal.limit from needed c.in_ok-renew.ensures.keeps (c.note.ensures.untouched from needed is)
    c.renew.ensures.limit (inl (c.note.ensures.full from needed is))
