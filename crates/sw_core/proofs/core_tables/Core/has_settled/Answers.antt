use Rattle.std.proofs.Common.{◌≡◌, subst}
use Rattle.std.specs.Prelude.{is_some}
use Rattle.sw_data.specs.declared.events.Who.TheVariants as maker
use Rattle.sw_rules.specs.Clients.{await}
use Rattle.sw_state.specs.Hosted.{Hosted, state_of}
use Rattle.sw_core.proofs.core_tables.Core.has_settled.Goals as goal

pub returns : goal.returns
returns c at = subst (λ (h : Hosted). c.has_settled.result ≡ is_some (await (state_of h) (maker.Lane c.args.lane at) c.args.of)) c.self.view_is (c.has_settled.ensures at)
