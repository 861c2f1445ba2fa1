-- What a part of an algorithm does to the tables that it is lent, whatever the others hold.
use Rattle.std.specs.Prelude.{◌≡◌, true, false, Bool, is_none, ℕ, ◌&&◌, ◌||◌, ◌==◌}
use Rattle.sw_client.specs.Table as clients
use Rattle.sw_data.specs.declared.rows.RegistrationRow.{RegistrationRow}
use Rattle.sw_data.specs.declared.rows.WorkerRow.{WorkerRow}
use Rattle.sw_data.specs.declared.workers.WorkerState.{WorkerState}
use Rattle.sw_data.specs.declared.workers.WorkerState.TheVariants as worker_state
use Rattle.sw_reg.specs.Edits.{with_owed, with_waiting}
use Rattle.sw_reg.specs.Table as registrations
use Rattle.sw_rules.specs.Noticing.{Did, NoticeList}
use Rattle.sw_rules.specs.State.{State}
use Rattle.sw_rules.specs.Told.{Told}
use Rattle.sw_scope.specs.Scopes.{Scopes}
use Rattle.sw_tables.specs.Lent.{Rest, lent}
use Rattle.sw_tables.specs.Linked.{Linked}
use Rattle.sw_worker.specs.Table as workers

-- own: workers and registrations go on by this part, which tells its notices
abbrev pub SlotsDid : (State → Told) → NoticeList → NoticeList → workers.Table → registrations.Table → workers.Table → registrations.Table → Type 0
SlotsDid part before after old_workers old_registrations new_workers new_registrations =
    (scopes : Scopes) (of_clients : clients.Table) (rest : Rest)
    → Did (part (lent scopes old_workers old_registrations of_clients rest)) before after
    (lent scopes new_workers new_registrations of_clients rest)

-- own: workers and registrations become this, and nothing is told
abbrev pub SlotsBecome : (State → State) → workers.Table → registrations.Table → workers.Table → registrations.Table → Type 0
SlotsBecome part old_workers old_registrations new_workers new_registrations =
    (scopes : Scopes) (of_clients : clients.Table) (rest : Rest)
    → lent scopes new_workers new_registrations of_clients rest
    ≡ part (lent scopes old_workers old_registrations of_clients rest)

-- own: what was linked stays so
abbrev pub StayLinked : workers.Table → registrations.Table → workers.Table → registrations.Table → Type 0
StayLinked old_workers old_registrations new_workers new_registrations =
    (scopes : Scopes) (of_clients : clients.Table)
    → Linked scopes old_workers old_registrations of_clients → Linked scopes new_workers new_registrations of_clients

-- ---- tests of a worker of a registration

abbrev pub is_parsed : WorkerState → Bool
is_parsed worker_state.Parsed = true
is_parsed _ = false

abbrev pub is_installing : WorkerState → Bool
is_installing worker_state.Installing = true
is_installing _ = false

abbrev pub is_activating : WorkerState → Bool
is_activating worker_state.Activating = true
is_activating _ = false

-- own: a worker of this registration is in such a state
abbrev pub is_of_in : (WorkerState → Bool) → ℕ → WorkerRow → Bool
is_of_in test registration row = row.registration == registration && test row.state

-- own: a worker of this registration in such a state, no handler of which runs
abbrev pub rests_in : (WorkerState → Bool) → ℕ → WorkerRow → Bool
rests_in test registration row = row.registration == registration && test row.state && is_none row.handler

-- own: a worker was not installed yet
abbrev pub is_young : WorkerState → Bool
is_young state = is_parsed state || is_installing state

-- own: a worker of this registration that may become redundant before it is installed
abbrev pub may_be_discarded : ℕ → WorkerRow → Bool
may_be_discarded registration row = rests_in is_young registration row

-- ---- a worker that waits

-- a registration's installing worker becomes the waiting one, and a Try Activate is owed (Service Workers, Appendix A, "Install"); that the registration is numbered is own
abbrev pub waits : ℕ → RegistrationRow → RegistrationRow
waits number row = with_owed true (with_waiting number row)
