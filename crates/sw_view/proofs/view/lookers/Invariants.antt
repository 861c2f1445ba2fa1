use Rattle.std.proofs.Common.{◌≡◌, length, drop, All}
use Rattle.left_right.specs.Sides.{view}
use Rattle.sw_view.specs.Views.{Published}
use Rattle.sw_view.proofs.view.lookers.Given as goal

abbrev pub invariant-loop : goal.invariant-loop
invariant-loop l = record {
  kept : l.writer.desk.shown ≡ l.initial.writer.desk.shown;
  waiting : drop l.writer.behind l.writer.log.items ≡ drop l.initial.writer.behind l.initial.writer.log.items;
  tied : view l.writer.desk.place ≡ view l.initial.writer.desk.place;
  all : All (λ (looker : Published). looker ≡ record { base = l.base; book = l.front.seen.book; entries = l.front.seen.log }) l.all.items;
  count : length l.all.items ≡ l.counter;
}
