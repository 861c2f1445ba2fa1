use Rattle.std.proofs.Common.{◌≡◌, ◌≤◌, length, take}
use Rattle.sw_pool.proofs.LookLemmas.{last_of}
use Rattle.sw_pool.proofs.looking.look_up_all.Given as goal
use Rattle.sw_pool.specs.Looks.{AreAnswers}

abbrev pub invariant-loop-place : goal.invariant-loop-place
invariant-loop-place g l = record {
  base : l.looker.base ≡ l.initial.looker.base;
  book : l.looker.book ≡ l.initial.looker.book;
  answers : AreAnswers l.initial.looker.base l.looker.entries 0 (take l.place-index l.asked) l.looks.items;
  last : last_of 0 l.looks.items ≤ length l.looker.entries;
}
