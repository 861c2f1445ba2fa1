-- What an addAll comes to: up to its fetches, and behind them.
use Rattle.std.specs.Prelude.{◌≡◌, Option, Some, None}
use Rattle.sw_cachestorage.specs.declared.adding.AddAllStep.{AddAllStep}
use Rattle.sw_cachestorage.specs.declared.adding.NewAddAll.{NewAddAll}
use Rattle.sw_data.specs.declared.events.Who.{Who}
use Rattle.sw_ledgers.specs.Drawn as draws
use Rattle.sw_ledgers.specs.Drawn.{FitsDraws, addresses_of}
use Rattle.sw_ledgers.specs.Promised.{meaning}
use Rattle.sw_ledgers.specs.Tasks as tasks
use Rattle.sw_ledgers.specs.Tasks.{FitsTask}
use Rattle.sw_rules.specs.Caching.{add_task}
use Rattle.sw_rules.specs.Jobs.{promise}
use Rattle.sw_rules.specs.State.{State}
use Rattle.sw_rules.specs.Told.{Told, Outcome, followed, quiet}
use Rattle.sw_state.specs.Hosted.{Hosted, state_of}

-- own: an addAll that was worked out goes on to its fetches
abbrev pub added_by : NewAddAll → State → Told
added_by new state = add_task state new.row.maker new.row.key new.row.name new.row.requests

-- own: it does so where it is not refused before
abbrev pub started_by : Option NewAddAll → State → Told
started_by None state = quiet state
started_by (Some new) state = added_by new state

-- own: what an addAll comes to, up to its fetches
abbrev pub begun : Who → AddAllStep → State → Outcome
begun who step state = record {
  answer = step.answer;
  told = followed (started_by step.start state) (λ after. promise after who (meaning step.awaited));
}

-- own: an addAll comes to this
abbrev pub IsBegun : Who → (State → Outcome) → Hosted → AddAllStep → Type 0
IsBegun who action host step = action (state_of host) ≡ begun who step (state_of host)

-- own: the addAll is the next one, it has not settled, and there is room for it and for its fetches
pub record FitsTables (new : NewAddAll) (of_tasks : tasks.Table) (of_draws : draws.Table) : Type 0 where
  pub task : FitsTask new.row of_tasks
  pub draws : FitsDraws new.draws of_draws
  pub addresses : addresses_of new.row.requests ≡ new.draws
  pub settled : new.row.settled ≡ None

abbrev pub FitsNew : NewAddAll → Hosted → Type 0
FitsNew new host = FitsTables new host.tasks host.draws

abbrev pub FitsStart : Option NewAddAll → Hosted → Type 0
FitsStart None host = Unit {0}
FitsStart (Some new) host = FitsNew new host
