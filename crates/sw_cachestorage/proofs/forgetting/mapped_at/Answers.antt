-- The registration at the place is a mapped one of the key, or not.
use Rattle.std.proofs.Common.{◌∙◌, Bool, Some, None, sym, ap, subst, if◌then◌else◌}
use Rattle.sw_cachestorage.proofs.ForgetPlaces.{read_at, shown_at, there_at}
use Rattle.sw_state.specs.Hosted.{Hosted}
use Rattle.sw_tables.specs.Linked.{ArePlaces}
use Rattle.sw_cachestorage.proofs.forgetting.mapped_at.Goals as goal

pub returns-then-is_mapped_of-clause-there : goal.returns-then-is_mapped_of-clause-there
returns-then-is_mapped_of-clause-there c =
    let rows = c.args.host.now.registrations.rows in
    let read = c.in_ok-row.ensures.lookup in
    there_at rows c.args.place c.in_ok-row.row.now
    (subst (λ (h : Hosted). ArePlaces (λ row. row.number) h.registrations.rows) c.host.view_is c.host.invariant.linked.slots.registration_places)
    (read_at c.rows.result.now rows c.args.place c.in_ok-row.row.now (c.rows.ensures ∙ ap (λ (h : Hosted). h.registrations.rows) c.host.view_is) read.3.0 read.1)

pub returns-else-is_mapped_of-clause-number : goal.returns-else-is_mapped_of-clause-number
returns-else-is_mapped_of-clause-number c =
    let rows = c.args.host.now.registrations.rows in
    let read = c.in_ok-row.ensures.lookup in
    sym (shown_at c.args.host.now c.args.key.now c.args.place (Some c.in_ok-row.row.now)
    (read_at c.rows.result.now rows c.args.place c.in_ok-row.row.now (c.rows.ensures ∙ ap (λ (h : Hosted). h.registrations.rows) c.host.view_is) read.3.0 read.1)
    ∙ ap (λ (b : Bool). if b then Some c.in_ok-row.row.now.number else None) (sym c.is_mapped_of.ensures ∙ c.if-is_mapped_of.false))
