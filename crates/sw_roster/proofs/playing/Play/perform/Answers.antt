-- The event of the first ready task happens.
use Rattle.std.proofs.Common.{◌≡◌, ◌∙◌, [], ap, subst, sym, true}
use Rattle.std.proofs.lemmas.Result.{on_ok_weaker}
use Rattle.std.specs.List.{list_any}
use Rattle.sw_data.specs.declared.recordings.Recording.{Recording}
use Rattle.sw_lane.specs.Picked.{is_task}
use Rattle.sw_roster.proofs.Free.{first_ready, is_ready}
use Rattle.sw_roster.proofs.Played.{task_played}
use Rattle.sw_roster.proofs.playing.Play.perform.Goals as goal
use Rattle.sw_rules.specs.State.{State}
use Rattle.sw_rules.specs.Tasks.{event_of, ready_tasks}

pub task_event-requires-clause-ready : goal.task_event-requires-clause-ready
task_event-requires-clause-ready c =
    subst (λ (s : State). list_any (is_task c.args.task) (ready_tasks s) ≡ true) (sym c.core.ensures.state) (is_ready c.args.self.now.roster.state c.args.task c.requires.first)

pub returns-clause-played : goal.returns-clause-played
returns-clause-played c = λ fetches all left so_far.
    let play = c.args.self.now in
    let any : Recording = record { fetches = fetches; lanes = [] } in
    let gives = ap (λ (s : State). event_of any s c.args.task) (sym c.core.ensures.state) ∙ c.in_ok-event.ensures.event any (sym so_far.net) in
    on_ok_weaker c.happen.result
    (λ one. task_played fetches all left play c.happen.new.self so_far c.in_ok-event.event c.args.task one (first_ready play.roster.state c.args.task c.requires.first) gives)
    c.happen.ensures
