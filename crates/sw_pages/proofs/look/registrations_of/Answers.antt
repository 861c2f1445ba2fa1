use Rattle.std.proofs.Common.{◌≡◌, ◌∙◌, filter, map, ap, subst, sym}
use Rattle.sw_pages.proofs.Listed.{listed_here}
use Rattle.sw_pages.specs.Acts.{outcome_of}
use Rattle.sw_pages.specs.Listed.{is_listed}
use Rattle.sw_pages.specs.declared.worked.Worked.{Worked}
use Rattle.sw_state.specs.Hosted.{Hosted, state_of}
use Rattle.sw_pages.proofs.look.registrations_of.Goals as goal

pub returns-clause-gives : goal.returns-clause-gives
returns-clause-gives c who =
    let found = subst (λ (h : Hosted). c.from_vec.result ≡ map (λ row. row.number) (filter (is_listed h.scopes c.in-Some.row.now.key) h.registrations.rows)) c.host.view_is
    (c.from_vec.ensures ∙ c.in_ok-found.ensures) in
    listed_here c.args.host.now c.args.client c.in-Some.row.now c.from_vec.result c.in-Some.ensures found
    ∙ sym (ap (λ (worked : Worked). outcome_of who worked (state_of c.args.host.now)) c.answered-2.ensures)
