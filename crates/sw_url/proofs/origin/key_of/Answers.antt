use Rattle.std.proofs.Common.{◌∙◌, ap, sym, subst}
use Rattle.url.specs.Parts.{IsValid}
use Rattle.sw_data.specs.Addresses.{origin_of}
use Rattle.sw_url.proofs.KeyLemmas.{key_origin_answer}
use Rattle.sw_url.proofs.origin.key_of.Goals as goal

pub returns-in-Some-clause-origin : goal.returns-in-Some-clause-origin
returns-in-Some-clause-origin c =
    key_origin_answer c.in-Ok.url c.as_str.result.now _ _ _ (subst IsValid c.url.view_is c.url.invariant.valid)
    c.in-Ok.ensures (sym c.in-Some.is ∙ c.in_ok-origin-in-Ok.ensures) c.in_ok-partitioned-in-Some.ensures
    ∙ ap origin_of c.as_str.ensures
