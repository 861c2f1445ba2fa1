use Rattle.std.proofs.Common.{◌∙◌, ap}
use Rattle.sw_next.proofs.Counting.{mapped_shown}
use Rattle.sw_state.specs.contracts.tables.HostTables.{the_view}
use Rattle.sw_rules.specs.History.{mapped_registrations}
use Rattle.sw_state.specs.Hosted.{Hosted, state_of}
use Rattle.sw_next.proofs.counts.mapped_count.Goals as goal

pub returns : goal.returns
returns c =
    c.mapped_rows.ensures
    ∙ (mapped_shown (the_view c.host.inside) ∙ ap (λ (h : Hosted). mapped_registrations (state_of h)) c.host.view_is)
