use Rattle.std.proofs.Common.{◌≡◌, subst}
use Rattle.std.specs.Prelude.{is_some}
use Rattle.sw_rules.specs.Clients.{begin}
use Rattle.sw_state.specs.Hosted.{Hosted, state_of}
use Rattle.sw_core.proofs.core_tables.Core.may_begin.Goals as goal

pub returns : goal.returns
returns c event = subst (λ (h : Hosted). c.may_begin.result ≡ is_some (begin (state_of h) c.args.client event)) c.self.view_is (c.may_begin.ensures event)
