use Rattle.std.proofs.Common.{◌≡◌, refl, subst}
use Rattle.std.specs.Prelude.{IfOk}
use Rattle.sw_ledgers.specs.Preloaded.{PreloadRow}
use Rattle.sw_rules.specs.Preloading.{set_preload}
use Rattle.sw_state.specs.contracts.tables.HostTables.{the_view}
use Rattle.sw_state.specs.Hosted.{Hosted, rest_of, state_of}
use Rattle.sw_prepare.proofs.telling.preload_changes.Goals as goal

pub returns : goal.returns
returns c =
    let host = the_view c.host.inside in
    subst (λ (row : PreloadRow). IfOk c.preload_changes.result (λ changes. changes.items ≡ (set_preload (state_of c.args.host.now) row.registration row.on row.value).changes))
    (λ i. record { registration = c.registration.ensures i; on = c.is_on.ensures i; value = c.value.ensures i })
    (subst (λ (h : Hosted). IfOk c.preload_changes.result (λ changes. changes.items ≡ (set_preload (state_of h) c.registration.result c.is_on.result c.value.result.now).changes)) c.host.view_is
    (c.preload_changes.ensures host.workers host.clients (rest_of host) c.host.invariant.linked.slots refl refl))
