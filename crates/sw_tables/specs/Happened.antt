-- What an event does to the tables that it is lent.
use Rattle.std.specs.Prelude.{◌≡◌, ℕ, List, length, filter, Option, Some, None}
use Rattle.std.specs.Option.{option_map_or}
use Rattle.sw_data.specs.declared.answers.Answer.{Answer}
use Rattle.sw_client.specs.Table as clients
use Rattle.sw_data.specs.declared.rows.JobRow.{JobRow}
use Rattle.sw_data.specs.declared.rows.WorkerRow.{WorkerRow}
use Rattle.sw_reg.specs.Table as registrations
use Rattle.sw_rules.specs.Noticing.{Did, NoticeList}
use Rattle.sw_rules.specs.Rows.{is_unsettled_of}
use Rattle.sw_rules.specs.State.{State, AddAll}
use Rattle.sw_rules.specs.Told.{Outcome, Told}
use Rattle.sw_scope.specs.Scopes.{Scopes}
use Rattle.sw_tables.specs.Lent.{Rest, lent}
use Rattle.sw_worker.specs.Table as workers
use Rattle.sw_worker.specs.Table.{worker_at}

-- own: an event isn't enabled, and changes nothing; or it gives this answer, tells its notices and leaves this state
abbrev pub Happened : Option Outcome → Option Answer → NoticeList → NoticeList → State → State → Type 0
Happened None reply before after old new = (reply ≡ None) × (after ≡ before) × (new ≡ old)
Happened (Some outcome) reply before after old new = (reply ≡ Some outcome.answer) × Did outcome.told before after new

-- own: how many addAlls of the handler of a worker its row counts as not settled
abbrev pub unsettled_of : ℕ → List WorkerRow → ℕ
unsettled_of number rows =
    option_map_or (λ row. option_map_or (λ handler. handler.unsettled) row.handler 0) (worker_at number rows) 0

-- own: what is counted as not settled stays
abbrev pub KeepCounts : workers.Table → workers.Table → Type 0
KeepCounts old new = (number : ℕ) → unsettled_of number new.rows ≡ unsettled_of number old.rows

-- own: each worker's row counts the addAlls of its handler that have not settled
abbrev pub CountsTasks : workers.Table → List AddAll → Type 0
CountsTasks of_workers tasks =
    (number : ℕ) → unsettled_of number of_workers.rows ≡ length (filter (is_unsettled_of number) tasks)

-- own: the same with these jobs
abbrev pub with_jobs : List JobRow → Rest → Rest
with_jobs jobs rest = record rest { jobs = jobs }

-- own: jobs go on by this part, which tells its notices, whatever the tables hold
abbrev pub JobsDid : (State → Told) → NoticeList → NoticeList → List JobRow → List JobRow → Type 0
JobsDid part before after old_jobs new_jobs =
    (scopes : Scopes) (of_workers : workers.Table) (of_registrations : registrations.Table) (of_clients : clients.Table) (rest : Rest)
    → Did (part (lent scopes of_workers of_registrations of_clients (with_jobs old_jobs rest))) before after
    (lent scopes of_workers of_registrations of_clients (with_jobs new_jobs rest))

-- own: jobs become this, and nothing is told
abbrev pub JobsBecome : (State → State) → List JobRow → List JobRow → Type 0
JobsBecome part old_jobs new_jobs =
    (scopes : Scopes) (of_workers : workers.Table) (of_registrations : registrations.Table) (of_clients : clients.Table) (rest : Rest)
    → lent scopes of_workers of_registrations of_clients (with_jobs new_jobs rest)
    ≡ part (lent scopes of_workers of_registrations of_clients (with_jobs old_jobs rest))
