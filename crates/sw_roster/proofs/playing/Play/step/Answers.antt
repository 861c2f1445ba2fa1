-- No more entries are made; or every line was taken; or the next one is taken.
use Rattle.std.proofs.Common.{◌∙◌, List, ◌∷◌, refl, subst, sym}
use Rattle.sw_readers.specs.declared.inputs.RosterLine.{RosterLine}
use Rattle.sw_roster.proofs.Played.{done_now, left_apart, none_more, rests_now, spent_so}
use Rattle.sw_roster.proofs.playing.Play.step.Goals as goal
use Rattle.sw_roster.specs.Playing.{IsPlayed}

pub returns-then-not-branch-clause-goes_on : goal.returns-then-not-branch-clause-goes_on
returns-then-not-branch-clause-goes_on c = λ fetches all so_far.
    let left = c.args.self.now.left.items in
    spent_so c.settle.result fetches all left c.settle.new.self (rw c.if-not-branch.true at c.in_ok-settle.was) (c.settle.ensures.settled fetches all left so_far)

pub take-requires-clause-rests : goal.take-requires-clause-rests
take-requires-clause-rests c =
    let left = c.args.self.now.left.items in
    let begun = c.requires.played in
    (rests_now c.settle.result begun.0 begun.1 left c.settle.new.self (rw c.if-not-branch.false at c.in_ok-settle.was) (c.settle.ensures.settled begun.0 begun.1 left begun.2)).1

pub take-requires-clause-few : goal.take-requires-clause-few
take-requires-clause-few c =
    let left = c.args.self.now.left.items in
    let begun = c.requires.played in
    (rests_now c.settle.result begun.0 begun.1 left c.settle.new.self (rw c.if-not-branch.false at c.in_ok-settle.was) (c.settle.ensures.settled begun.0 begun.1 left begun.2)).0.few

pub returns-in-None-clause-goes_on : goal.returns-in-None-clause-goes_on
returns-in-None-clause-goes_on c = λ fetches all so_far.
    let left = c.args.self.now.left.items in
    let played = rests_now c.settle.result fetches all left c.settle.new.self (rw c.if-not-branch.false at c.in_ok-settle.was) (c.settle.ensures.settled fetches all left so_far) in
    let none = none_more c.settle.new.self.left.items c.pop_front.new.self.items c.in-None.ensures.items c.in-None.ensures.rest in
    done_now fetches all c.settle.new.self
    (subst (λ (rest : List RosterLine). IsPlayed fetches all rest c.settle.new.self) ((λ i. (sym c.in_ok-settle.ensures.left i).items) ∙ none) played.0) played.1

pub returns-in-Some-clause-goes_on : goal.returns-in-Some-clause-goes_on
returns-in-Some-clause-goes_on c = λ fetches all so_far.
    let left = c.args.self.now.left.items in
    let played = rests_now c.settle.result fetches all left c.settle.new.self (rw c.if-not-branch.false at c.in_ok-settle.was) (c.settle.ensures.settled fetches all left so_far) in
    c.take.ensures.goes_on fetches all
    (left_apart fetches all (c.in-Some.line ∷ c.pop_front.new.self.items) c.settle.new.self (record c.settle.new.self { left = c.pop_front.new.self }) refl
    (subst (λ (rest : List RosterLine). IsPlayed fetches all rest c.settle.new.self) ((λ i. (sym c.in_ok-settle.ensures.left i).items) ∙ c.in-Some.ensures.items) played.0))
