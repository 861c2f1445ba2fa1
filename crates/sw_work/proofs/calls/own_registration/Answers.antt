-- The registration of a worker, where it is mapped.
use Rattle.std.proofs.Common.{◌≡◌, ◌∙◌, None, option_map, option_copied, ap, sym, subst}
use Rattle.sw_rules.specs.Calls as calls
use Rattle.sw_state.specs.contracts.tables.HostTables.{the_view}
use Rattle.sw_state.specs.Hosted.{Hosted, shown_of, state_of}
use Rattle.sw_tables.specs.Lent.{shown_worker}
use Rattle.sw_work.proofs.Calling.{none_shown, own_shown}
use Rattle.sw_work.proofs.calls.own_registration.Goals as goal

pub returns-in-Some : goal.returns-in-Some
returns-in-Some c =
    let host = the_view c.host.inside in
    subst (λ (h : Hosted). option_map (shown_of h) (option_copied c.where_mapped.result) ≡ calls.own_registration (state_of h) (shown_worker c.args.row.now)) c.host.view_is
    (ap (option_map (shown_of host)) c.where_mapped.ensures ∙ sym (own_shown host c.args.row.now c.in-Some.of.now (sym c.in-Some.ensures)))

pub returns-in-None : goal.returns-in-None
returns-in-None c =
    sym
    (subst (λ (h : Hosted). calls.own_registration (state_of h) (shown_worker c.args.row.now) ≡ None) c.host.view_is
    (none_shown (the_view c.host.inside) c.args.row.now (sym c.in-None.ensures)))
