use Rattle.std.proofs.Common.{◌≡◌, ◌∙◌, length, sym, subst, ap}
use Rattle.sw_finish.proofs.FirstPreload.{at_others, same_but}
use Rattle.sw_state.specs.contracts.tables.HostTables.{the_view}
use Rattle.sw_state.specs.Hosted.{Hosted, state_of}
use Rattle.sw_finish.proofs.hosting.first_preload.Goals as goal

pub returns-clause-state : goal.returns-clause-state
returns-clause-state c =
    let inside : Hosted = the_view c.host.inside in
    let registration : c.args.row.registration ≡ length inside.registrations.rows =
    ap (λ row. row.registration) c.requires.first ∙ sym (ap (λ (h : Hosted). length h.registrations.rows) c.host.view_is) in
    subst (λ (h : Hosted). state_of (record inside { preloads = c.set_put.new.self }) ≡ state_of h) c.host.view_is
    (same_but inside c.set_put.new.self c.host.invariant.linked.slots.registration_places
    (λ n other. at_others n c.args.row.registration (length inside.registrations.rows) _ c.args.row.on _ (c.set_put.ensures.flag n) registration other)
    (λ n other. at_others n c.args.row.registration (length inside.registrations.rows) _ c.args.row.value _ (c.set_put.ensures.value n) registration other))
