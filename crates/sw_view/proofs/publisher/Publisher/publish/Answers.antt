use Rattle.std.proofs.Common.{◌≡◌, ◌++◌, sym, ◌∙◌, ap}
use Rattle.sw_view.specs.Mapped.{mapped_after}
use Rattle.sw_view.specs.Moves.{after_moves}
use Rattle.sw_view.specs.Views.{Published}
use Rattle.sw_view.proofs.publisher.Publisher.publish.Goals as goal

pub publish_all-writer-requires-clause-moves : goal.publish_all-writer-requires-clause-moves
publish_all-writer-requires-clause-moves g c key scope =
    let idle = c.self.invariant.1 c.if-self.false c.in-Some.writer (sym c.take.ensures.value ∙ c.in-Some.is) in
    let base : c.in-Some.writer.desk.shown.value.base.value ≡ c.args.self.now.base = idle.base_is ∙ ap (λ (v : Published). v.base) c.self.view_is in
    let log : c.self.inside.front.seen.log ≡ c.args.self.now.entries = ap (λ (v : Published). v.entries) c.self.view_is in
    (λ i. after_moves (mapped_after (base i) (log i)) c.args.moves.items key scope)
    ∙ (c.requires key scope ∙ (λ i. mapped_after (sym base i) (sym log i ++ c.args.entries.now) key scope))
