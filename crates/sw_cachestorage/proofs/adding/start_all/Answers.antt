-- The addAll of a lane is added.
use Rattle.std.proofs.Common.{◌≡◌, ap, subst}
use Rattle.sw_cachestorage.proofs.Starting.{joined_lane}
use Rattle.sw_cachestorage.specs.Adding.{added_by}
use Rattle.sw_rules.specs.Told.{quiet}
use Rattle.sw_state.specs.contracts.tables.HostTables.{the_view}
use Rattle.sw_state.specs.Hosted.{Hosted, state_of}
use Rattle.sw_cachestorage.proofs.adding.start_all.Goals as goal

pub invariant_of-host : goal.invariant_of-host
invariant_of-host c =
    let inside : Hosted = the_view c.host.inside in
    joined_lane inside c.args.new c.add.new.tasks c.add.new.draws (c.add.ensures (state_of inside)) c.requires.maker c.host.invariant

pub returns-clause-told : goal.returns-clause-told
returns-clause-told c =
    let inside : Hosted = the_view c.host.inside in
    subst (λ (h : Hosted). added_by c.args.new (state_of h) ≡ quiet (state_of (record inside { tasks = c.add.new.tasks; draws = c.add.new.draws }))) c.host.view_is
    (c.add.ensures (state_of inside))

pub returns-clause-others : goal.returns-clause-others
returns-clause-others c = ap (λ (h : Hosted). record h { tasks = c.add.new.tasks; draws = c.add.new.draws }) c.host.view_is
