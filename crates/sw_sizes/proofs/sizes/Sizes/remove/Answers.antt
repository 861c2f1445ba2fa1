use Rattle.std.proofs.Common.{◌∙◌, sym}
use Rattle.sw_sizes.specs.Counted.{StandsAt, StandsNowhere}
use Rattle.sw_sizes.proofs.sizes.Sizes.remove.Goals as goal

pub take-requires : goal.take-requires
take-requires c =
    let stands : StandsAt c.args.key.now c.args.scope.now c.args.self.now c.in-Some.at = c.in-Some.ensures.stands in
    c.in_ok-gone-in-Some.ensures ∙ stands.bytes c.parts_at.result c.parts_at.ensures

pub returns-in-None : goal.returns-in-None
returns-in-None c =
    let nowhere : StandsNowhere c.args.key.now c.args.scope.now c.args.self.now = c.in-None.ensures.stands in
    sym nowhere.removal
