-- The registration at the place is a mapped one of the key, or stays as it is.
use Rattle.std.proofs.Common.{◌∙◌, sym, refl, subst}
use Rattle.std.specs.Option.{option_map_or}
use Rattle.sw_cachestorage.proofs.ForgetPlaces.{quiet_here}
use Rattle.sw_cachestorage.specs.Forgetting.{forget_one}
use Rattle.sw_rules.specs.Noticing.{Did}
use Rattle.sw_rules.specs.Told.{quiet}
use Rattle.sw_state.specs.Hosted.{state_of}
use Rattle.sw_tables.proofs.Chain.{did_quietly}
use Rattle.sw_cachestorage.proofs.forgetting.forget_at.Goals as goal

pub forget_one-requires-clause-quiet : goal.forget_one-requires-clause-quiet
forget_one-requires-clause-quiet c =
    quiet_here c.args.key.now (state_of c.args.host.now) c.args.place c.in-Some.number c.requires.quiet (sym c.mapped_at.ensures.number ∙ c.in-Some.is)

pub returns-in-Some-clause-did : goal.returns-in-Some-clause-did
returns-in-Some-clause-did c =
    let before = state_of c.args.host.now in
    subst (λ o. Did (option_map_or (forget_one before) o (quiet before)) c.args.notices.now c.forget_one.new.notices (state_of c.forget_one.new.host)) (sym (sym c.mapped_at.ensures.number ∙ c.in-Some.is))
    c.forget_one.ensures.did

pub returns-in-None-clause-did : goal.returns-in-None-clause-did
returns-in-None-clause-did c =
    let before = state_of c.args.host.now in
    subst (λ o. Did (option_map_or (forget_one before) o (quiet before)) c.args.notices.now c.args.notices.now before) (sym (sym c.mapped_at.ensures.number ∙ c.in-None.is))
    (did_quietly (quiet before) c.args.notices.now before refl refl)
