use Rattle.std.proofs.Common.{◌+◌, ◌∙◌, sym, ap}
use Rattle.sw_rules.specs.Step.{changes_of}
use Rattle.sw_store.proofs.Happened.{too_long_before}
use Rattle.sw_store.proofs.staging.stage_plan.Goals as goal
use Rattle.sw_twin.specs.Twin.{TwinState}
use Rattle.sw_state.specs.Hosted.{state_of}

pub returns-in-Ok-clause-full : goal.returns-in-Ok-clause-full
returns-in-Ok-clause-full c refused from needed is =
    let p = c.place.ensures.full refused from needed is in
    let same = c.spell.ensures.twin in (
      p.0,
      sym c.spell.ensures.entries ∙ p.1,
      p.2 ∙ ap (λ (t : TwinState). t.journal.gate + 1) same,
      too_long_before (changes_of (state_of c.args.core.now) c.args.event) c.spell.new.group.payload c.args.group.now.payload c.args.twin.now c.spell.new.twin needed c.spell.ensures.payload same p.3,
    )
