use Rattle.std.proofs.Common.{◌≡◌, subst}
use Rattle.sw_finish.proofs.Preload.{preload_set}
use Rattle.sw_state.specs.contracts.tables.HostTables.{the_view}
use Rattle.sw_rules.specs.Preloading.{set_preload}
use Rattle.sw_state.specs.Hosted.{Hosted, state_of}
use Rattle.sw_finish.proofs.acts.set_preload.Goals as goal

pub returns-clause-state : goal.returns-clause-state
returns-clause-state c =
    let inside : Hosted = the_view c.host.inside in
    subst (λ (h : Hosted). state_of (record inside { preloads = c.set_put.new.self }) ≡ (set_preload (state_of h) c.args.row.registration c.args.row.on c.args.row.value).state) c.host.view_is
    (preload_set inside c.set_put.new.self c.args.row.registration c.args.row.on c.args.row.value c.set_put.ensures.flag c.set_put.ensures.value)
