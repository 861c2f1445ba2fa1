use Rattle.std.proofs.Common.{◌∙◌, ap}
use Rattle.sw_prepare.proofs.Asking.{is_asked}
use Rattle.sw_data.specs.declared.events.Who.TheVariants as maker
use Rattle.sw_pages.specs.Acts as pages
use Rattle.sw_rules.specs.Told.{Told}
use Rattle.sw_work.specs.Plans.{told_then}
use Rattle.sw_work.specs.declared.plan.Asked.{Asked}
use Rattle.sw_prepare.proofs.asked.asked.Goals as goal

pub returns-clause-agrees : goal.returns-clause-agrees
returns-clause-agrees c state =
    let asked : Asked = record { answer = c.args.worked.answer; act = c.in_ok-act.act; then = c.in_ok-then.then } in
    is_asked (pages.outcome_of (maker.Lane c.args.lane c.args.at) c.args.worked state) asked state
    (ap (λ (told : Told). record { answer = c.args.worked.answer; told = told })
    (c.in_ok-then.ensures.told (pages.told_by c.args.worked.act state)
    ∙ ap (told_then c.in_ok-then.then) (c.in_ok-act.ensures.told state)))
