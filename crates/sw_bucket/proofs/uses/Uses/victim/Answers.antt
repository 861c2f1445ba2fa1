use Rattle.std.proofs.Common.{◌∙◌, ℕ, List, filter, ap}
use Rattle.std.proofs.lemmas.Result.{IfOk-weaker}
use Rattle.sw_bucket.proofs.Chosen.{victim_is}
use Rattle.sw_bucket.proofs.uses.Uses.victim.Goals as goal
use Rattle.sw_bucket.specs.Eviction.{first_of, goes_before, may_go}
use Rattle.sw_bucket.specs.Noted.{last_noted}
use Rattle.sw_state.specs.Hosted.{state_of}

pub returns : goal.returns
returns c = λ base history is.
    IfOk-weaker c.copied.result _ _
    (λ key copied.
    victim_is base history c.args.self.now (state_of c.args.core.now) c.in_ok-keys.keys.items key is c.in_ok-keys.ensures
    (copied
    ∙ (c.in_ok-first.ensures
    ∙ ap (λ (all : List (List ℕ)). first_of (goes_before (last_noted c.args.self.now)) (filter (may_go (state_of c.args.core.now)) all)) c.as_slice.ensures.value)))
    c.copied.ensures
