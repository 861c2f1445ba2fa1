-- The moves lead from the map after the front to the map after the history.
use Rattle.std.proofs.Common.{ℕ, ◌<◌, List, take, map, subst, sym, arith}
use Rattle.std.proofs.lemmas.Bool.Decides.{nat_tests}
use Rattle.sw_data.specs.declared.histories.Entry.{Entry}
use Rattle.sw_view.specs.Mapped.{mapped_after}
use Rattle.sw_view.specs.Moves.{AreMoves}
use Rattle.sw_view.specs.Moving.{mapped_in, moves_told, row_move}
use Rattle.sw_view.proofs.Agreeing.{made_lead}
use Rattle.sw_view.proofs.Leading.{leads_from_front, leads_from_nothing}
use Rattle.sw_view.proofs.moving.moves_since.Goals as goal

pub returns-then-from-eq0 : goal.returns-then-from-eq0
returns-then-from-eq0 c = λ base of_workers of_clients rest legal is.
    let history = c.args.history.now in
    let moves = map (row_move (mapped_in c.args.scopes.now c.args.registrations.now.rows)) c.args.registrations.now.rows in
    made_lead (λ v. v.items) (mapped_after base (take c.args.from history)) (mapped_after base history) moves c.all_moves.result
    (subst (λ (from : ℕ). AreMoves (mapped_after base (take from history)) moves (mapped_after base history)) (sym c.if-from-eq0.true)
    (leads_from_nothing base c.args.scopes.now of_workers c.args.registrations.now of_clients rest history legal is))
    c.all_moves.ensures

pub returns : goal.returns
returns c = λ base of_workers of_clients rest legal is.
    let history = c.args.history.now in
    let some : 0 < c.args.from = grind (arith, nat_tests, c.if-from-eq0.false) in
    made_lead (λ v. v.items) (mapped_after base (take c.args.from history)) (mapped_after base history)
    (moves_told (mapped_in c.args.scopes.now c.args.registrations.now.rows) c.args.registrations.now.rows c.split_at.result.1.now) c.moves_of.result
    (subst (λ (entries : List Entry). AreMoves (mapped_after base (take c.args.from history)) (moves_told (mapped_in c.args.scopes.now c.args.registrations.now.rows) c.args.registrations.now.rows entries) (mapped_after base history))
    (sym c.split_at.ensures.back)
    (leads_from_front base c.args.scopes.now of_workers c.args.registrations.now of_clients rest history c.args.from some legal is))
    c.moves_of.ensures
