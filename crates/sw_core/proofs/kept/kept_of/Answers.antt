use Rattle.std.proofs.Common.{◌≡◌, refl, subst}
use Rattle.std.specs.Prelude.{IfOk}
use Rattle.sw_rules.specs.Durable.{durable}
use Rattle.sw_state.specs.contracts.tables.HostTables.{the_view}
use Rattle.sw_state.specs.Hosted.{Hosted, rest_of, state_of}
use Rattle.sw_core.proofs.kept.kept_of.Goals as goal

pub returns : goal.returns
returns c =
    let host = the_view c.host.inside in
    record {
      kept =
          subst (λ (h : Hosted). IfOk c.kept.result (λ kept. kept ≡ durable (state_of h))) c.host.view_is
          (c.kept.ensures host.clients (rest_of host) refl refl refl);
    }
