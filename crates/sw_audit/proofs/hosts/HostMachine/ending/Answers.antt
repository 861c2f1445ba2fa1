-- The lanes are those of the recording.
use Rattle.std.proofs.Common.{subst, sym}
use Rattle.sw_audit.specs.contracts.hosts.Host.{the_view}
use Rattle.sw_audit.specs.Following.{Following, HasFollowed}
use Rattle.sw_audit.specs.Continuing.{IsEnd}
use Rattle.sw_rules.specs.State.{State}
use Rattle.sw_audit.proofs.hosts.HostMachine.ending.Goals as goal

pub returns : goal.returns
returns c = λ recording before state stands.
    let own : HasFollowed (the_view c.self.inside) recording before state = subst (λ (host : Following). HasFollowed host recording before state) (sym c.self.view_is) stands in
    subst (λ (s : State). IsEnd recording before s c.ending.result) own.is_in (c.ending.ensures recording before own.ours)
