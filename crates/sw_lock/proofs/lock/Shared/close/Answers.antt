use Rattle.std.proofs.Common.{◌≤◌, All, length}
use Rattle.std.proofs.lemmas.List.Elements.{All-weaker}
use Rattle.sw_lock.specs.declared.pass.Pass.{Pass}
use Rattle.sw_lock.specs.declared.view.Note.{Note}
use Rattle.sw_lock.specs.Entries.{ThenOthers}
use Rattle.sw_lock.specs.Turns.{Knows}
use Rattle.sw_lock.specs.Passes.{number, seen, known}
use Rattle.sw_lock.proofs.Gathering.{gathered_all}
use Rattle.sw_lock.proofs.lock.Shared.close.Given.{Over}
use Rattle.sw_lock.proofs.lock.Shared.close.Goals.{After-finish}
use Rattle.sw_lock.proofs.lock.Shared.close.Goals as goal

module _ (g : Over) (c : After-finish g) where
  -- what a pass knows is true of the value at the end
  abbrev IsTrue : Pass g.row.T.Denot g.row.T-Entry.Denot g.row.T-Given.Denot g.row.T-Out.Denot g.T.Logged → Type 0
  IsTrue p = Knows g.T.Logged.maker (number p) (seen p) (known p) (g.T.Logged.log c.finish.result)

  all_true : All IsTrue c.args.passes.items
  all_true =
      gathered_all (λ (n : Note g.row.T-Entry.Denot). Knows g.T.Logged.maker n.number n.seen n.known (g.T.Logged.log c.finish.result)) c.in-Some.last c.pop.new.self.items c.args.passes.items c.gather-seat.result
      c.gather-seat.ensures.gathered c.in-Some.ensures.items c.finish.ensures.own c.finish.ensures.joined

pub returns-clause-seen : goal.returns-clause-seen
returns-clause-seen g c =
    let at = (goal.at.returns-clause-seen g c).After-finish in
    All-weaker (IsTrue g at) (λ p. ThenOthers g.T.Logged.maker (number p) (seen p) (g.T.Logged.log c.finish.result)) (λ p k. k.others) c.args.passes.items (all_true g at)

pub returns-clause-known : goal.returns-clause-known
returns-clause-known g c =
    let at = (goal.at.returns-clause-known g c).After-finish in
    All-weaker (IsTrue g at) (λ p. known p ≤ length (g.T.Logged.log c.finish.result)) (λ p k. k.most) c.args.passes.items (all_true g at)
