use Rattle.std.proofs.Common.{◌∙◌, sym}
use Rattle.sw_bucket.proofs.Least.{first_grown}
use Rattle.sw_bucket.proofs.uses.Uses.first_of.Goals as goal
use Rattle.sw_bucket.specs.Choosing.{first_to_go}
use Rattle.sw_bucket.specs.Eviction.{goes_before, may_go}
use Rattle.sw_bucket.specs.Noted.{last_noted}
use Rattle.sw_state.specs.Hosted.{state_of}

pub loop-key-preserved : goal.loop-key-preserved
loop-key-preserved c =
    let before = goes_before (last_noted c.args.self.now) in
    let may = may_go (state_of c.args.core.now) in
    c.in_ok-first.ensures
    ∙ ((λ i. first_to_go before may (c.loop-key.invariant i) (c.key-item.is i))
    ∙ sym (first_grown before may c.args.keys.now c.loop-key.key-index c.key-item.result c.loop-key-test.true))
