-- No task is ready; or one is left, and no more entries are made.
use Rattle.std.proofs.Common.{◌∙◌, [], ap, arith, sym}
use Rattle.sw_lane.specs.Picked.{task_left}
use Rattle.sw_roster.proofs.Free.{first_ready, none_ready}
use Rattle.sw_roster.proofs.Played.{spent_by_task}
use Rattle.sw_roster.proofs.playing.Play.settle.Goals as goal
use Rattle.sw_rules.specs.State.{State}

pub returns-in_default-clause-settled : goal.returns-in_default-clause-settled
returns-in_default-clause-settled c = λ fetches all left so_far. (
  c.tasks.invariant.played fetches all left so_far,
  none_ready c.tasks.self.roster.state (ap (λ (s : State). task_left s []) (sym c.core.ensures.state) ∙ sym c.next_task.ensures ∙ c.in_default.is),
)

pub returns-then-self-clause-settled : goal.returns-then-self-clause-settled
returns-then-self-clause-settled c = λ fetches all left so_far.
    spent_by_task fetches all left c.tasks.self (c.tasks.invariant.played fetches all left so_far) c.in-Some.task
    (first_ready c.tasks.self.roster.state c.in-Some.task (ap (λ (s : State). task_left s []) (sym c.core.ensures.state) ∙ sym c.in-Some.ensures)) (omega (arith, c.if-self.true))
