use Rattle.std.proofs.Common.{◌≡◌, true, [], is_none, sym, subst}
use Rattle.sw_finish.proofs.Settling.{added_goes}
use Rattle.sw_ledgers.specs.Tasks.{has_task}
use Rattle.sw_rules.specs.State.{State}
use Rattle.sw_state.specs.Hosted.{state_of}
use Rattle.sw_finish.proofs.acts.do_added.Goals as goal

pub settle_added-requires : goal.settle_added-requires
settle_added-requires c =
    subst (λ (s : State). has_task (λ row. is_none row.settled) c.args.task s.tasks ≡ true) (sym (c.act_on_caches.ensures.state [])) c.requires.unsettled

pub returns : goal.returns
returns c outcome notices added =
    added_goes (state_of c.args.host.now) (state_of c.act_on_caches.new.host) (state_of c.settle_added.new.host) c.args.step c.args.task outcome notices
    (c.act_on_caches.ensures.state []) added c.settle_added.ensures.state
