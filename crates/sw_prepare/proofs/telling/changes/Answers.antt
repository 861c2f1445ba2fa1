use Rattle.std.proofs.Common.{◌≡◌, ◌∙◌, sym, ap}
use Rattle.std.specs.Option.{option_copied}
use Rattle.sw_prepare.proofs.Changing.{held_tells, told}
use Rattle.sw_rules.specs.Step.{step}
use Rattle.sw_state.specs.Hosted.{state_of}
use Rattle.sw_work.specs.Plans.{Means}
use Rattle.sw_prepare.proofs.telling.changes.Goals as goal

pub returns-in-Some : goal.returns-in-Some
returns-in-Some c event enabled means =
    let host = c.args.host.now in
    let work = c.args.plan.now.work in
    told (step (state_of host) event) (Means work host) (λ all. c.in-Some.changes.now ≡ all) enabled means
    (λ outcome meant. held_tells work host outcome c.in-Some.changes.now (sym c.held.ensures ∙ ap option_copied c.in-Some.is) meant)
