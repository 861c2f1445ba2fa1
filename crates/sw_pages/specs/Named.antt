-- What a client names: a registration by its scope, and a worker by a slot of it.
use Rattle.std.specs.Prelude.{◌≡◌}
use Rattle.sw_data.specs.declared.answers.Answer.{Answer}
use Rattle.sw_data.specs.declared.recordings.ClientScope.{ClientScope}
use Rattle.sw_data.specs.declared.rows.RegistrationRow.{RegistrationRow}
use Rattle.sw_data.specs.declared.rows.WorkerRow.{WorkerRow}
use Rattle.sw_data.specs.declared.workers.Slot.{Slot}
use Rattle.sw_rules.specs.Clients.{with_named, with_slot}
use Rattle.sw_rules.specs.State.{Registration, Worker}
use Rattle.sw_rules.specs.Told.{Outcome, answered}
use Rattle.sw_state.specs.Hosted.{Hosted, shown_of, state_of}
use Rattle.sw_tables.specs.Lent.{shown_worker}

-- own: an action on the registration that a client names is one on this row
abbrev pub NamesRow : ClientScope → RegistrationRow → Hosted → Type 0
NamesRow of row host = (act : Registration → Outcome) → with_named (state_of host) of act ≡ act (shown_of host row)

-- own: it comes to this answer, whatever the action is
abbrev pub NamesNone : ClientScope → Answer → Hosted → Type 0
NamesNone of reply host =
    (act : Registration → Outcome) → with_named (state_of host) of act ≡ answered (state_of host) reply

-- own: an action on the worker in a slot of the registration that a client names is one on this row
abbrev pub FindsRow : ClientScope → Slot → WorkerRow → Hosted → Type 0
FindsRow of place row host =
    (act : Worker → Outcome) → with_slot (state_of host) of place act ≡ act (shown_worker row)

-- own: it comes to this answer, whatever the action is
abbrev pub FindsNone : ClientScope → Slot → Answer → Hosted → Type 0
FindsNone of place reply host =
    (act : Worker → Outcome) → with_slot (state_of host) of place act ≡ answered (state_of host) reply
