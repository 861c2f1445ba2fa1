-- The moves lead to the map behind the history, since that leaves the state of the host.
use Rattle.std.proofs.Common.{◌∙◌, List, IfOk, ap, subst, sym, take}
use Rattle.sw_data.specs.declared.histories.Entry.{Entry}
use Rattle.sw_pool.proofs.KnownLemmas.{known, lent_here}
use Rattle.sw_pool.proofs.yard.YardMapped.moves_since.Goals as goal
use Rattle.sw_pool.specs.Yards.{YardState, origin_of}
use Rattle.sw_rules.specs.History.{Legal, after}
use Rattle.sw_view.specs.Mapped.{mapped_after}
use Rattle.sw_view.specs.Moves.{AreMoves}
use Rattle.sw_state.specs.Hosted.{Hosted, rest_of}

pub returns : goal.returns
returns g c =
    let inside = c.self.inside in
    let base = inside.base.value in
    let host = inside.progress.store.core in
    let it =
    known g.D.Disk inside.disk (origin_of inside.passes inside.recording.value base inside.start.value) inside.progress inside.end c.self.invariant.stands
    (sym c.is_known.ensures ∙ c.if-not-is_known.false) in
    subst (λ (yard : YardState g.row.D.Denot). IfOk c.moves_since.result (λ moves. AreMoves (mapped_after yard.origin.base (take c.args.from yard.progress.history.items)) moves.items (mapped_after yard.origin.base yard.progress.history.items)))
    c.self.view_is
    (subst (λ (entries : List Entry). IfOk c.moves_since.result (λ moves. AreMoves (mapped_after base (take c.args.from entries)) moves.items (mapped_after base entries))) c.history.ensures
    (c.moves_since.ensures base host.workers host.clients (rest_of host)
    (subst (Legal base) (sym c.history.ensures) it.0)
    (ap (after base) c.history.ensures ∙ it.1
    ∙ lent_here host c.map.result.now c.registrations.result.now
    (c.map.ensures ∙ ap (λ (own : Hosted). own.scopes) c.core-core.ensures) (c.registrations.ensures ∙ ap (λ (own : Hosted). own.registrations) c.core-core.ensures))))
