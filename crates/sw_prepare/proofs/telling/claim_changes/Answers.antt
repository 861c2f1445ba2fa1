use Rattle.std.proofs.Common.{◌≡◌, ℕ, Bool, true, Some, option_map, subst}
use Rattle.std.specs.Prelude.{IfOk}
use Rattle.sw_pages.specs.Acts.{told_by}
use Rattle.sw_pages.specs.declared.worked.PageAct.TheVariants as page
use Rattle.sw_rules.specs.Rows.{is_active}
use Rattle.sw_state.specs.contracts.tables.HostTables.{the_view}
use Rattle.sw_state.specs.Hosted.{Hosted, rest_of, state_of}
use Rattle.sw_worker.specs.Table.{worker_at}
use Rattle.sw_prepare.proofs.telling.claim_changes.Goals as goal

pub returns : goal.returns
returns c =
    subst (λ (h : Hosted). option_map {U = ℕ × Bool} (λ row. (row.registration, is_active row.state)) (worker_at c.args.worker h.workers.rows) ≡ Some (c.args.registration, true)
    → IfOk c.claim_changes.result (λ changes. changes.items ≡ (told_by (page.Claim c.args.registration c.args.worker) (state_of h)).changes)) c.host.view_is
    (c.claim_changes.ensures (rest_of (the_view c.host.inside)) c.args.registration)
    c.requires.claimant
