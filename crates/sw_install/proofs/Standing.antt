-- What stays of the tables' rows while parts of an algorithm go on.
use Rattle.std.proofs.Common.{◌≡◌, ◌∙◌, ℕ, true, false, ◌==◌, ◌&&◌, List, [], ◌∷◌, map, Option, Some, None, option_map, find, is_some, is_none, refl, sym, ap, arith}
use Rattle.std.specs.Option.{option_map_or}
use Rattle.std.specs.Prelude.{codes}
use Rattle.std.proofs.lemmas.Bool.Decides.{nat_tests}
use Rattle.sw_data.specs.declared.rows.JobRow.{JobRow}
use Rattle.sw_data.specs.declared.rows.RegistrationRow.{RegistrationRow}
use Rattle.sw_data.specs.declared.rows.WorkerRow.{WorkerRow}
use Rattle.sw_data.specs.declared.workers.Slot.{Slot}
use Rattle.sw_reg.specs.Table as registrations
use Rattle.sw_reg.specs.Table.{slot_of}
use Rattle.sw_rules.specs.Rows.{changed, in_slot, is_job, is_registration}
use Rattle.sw_rules.specs.State.{Registration}
use Rattle.sw_scope.specs.Scopes.{Scopes}
use Rattle.sw_tables.proofs.Rows.{find_map}
use Rattle.sw_tables.specs.Lent.{Rest, shown_registration}
use Rattle.sw_tables.specs.Linked.{HasSlots}
use Rattle.sw_worker.specs.Table as workers
use Rattle.sw_worker.specs.Table.{has_worker, worker_at}

-- a slot that no worker's state names is empty, whatever else becomes of the registrations
pub stays_empty : (of_workers : workers.Table) (old new : registrations.Table) → HasSlots of_workers old → HasSlots of_workers new
    → (place : Slot) (registration : ℕ) → slot_of place registration old.rows ≡ None → slot_of place registration new.rows ≡ None
stays_empty of_workers old new before after place registration empty = by (slot_of place registration new.rows) refl
  where
    by : (o : Option ℕ) → slot_of place registration new.rows ≡ o → slot_of place registration new.rows ≡ None
    by None is = is
    by (Some number) is = row (worker_at number of_workers.rows) refl (after.filled place registration number is)
      where
        row : (o : Option WorkerRow) → worker_at number of_workers.rows ≡ o
            → has_worker (λ row. row.registration == registration && in_slot place row.state) number of_workers.rows ≡ true
            → slot_of place registration new.rows ≡ None
        row None there has = absurd cc
        row (Some r) there has =
            let own : r.registration ≡ registration = grind (arith, nat_tests, there, has) in
            let stands : in_slot place r.state ≡ true = grind (arith, nat_tests, there, has) in
            let filled = (before.rows number r there).slots place stands in
            absurd cc

is_some_map : {X Y : Type 0} (f : X → Y) (o : Option X) → is_some (option_map f o) ≡ is_some o
is_some_map f None = refl
is_some_map f (Some x) = refl

-- a registration that is there, by the rows of the state
there_shown : (scopes : Scopes) (rest : Rest) (number : ℕ) (rows : List RegistrationRow)
    → is_some (find (is_registration number) (map (shown_registration scopes rest) rows)) ≡ registrations.is_there number rows
there_shown scopes rest number rows =
    ap is_some (find_map (is_registration number) (shown_registration scopes rest) rows)
    ∙ is_some_map (shown_registration scopes rest) (find (λ row. is_registration number (shown_registration scopes rest row)) rows)

pub there_stays : (scopes : Scopes) (rest : Rest) (number : ℕ) (old new : List RegistrationRow)
    → map (shown_registration scopes rest) new ≡ map (shown_registration scopes rest) old
    → registrations.is_there number old ≡ true → registrations.is_there number new ≡ true
there_stays scopes rest number old new same there =
    sym (there_shown scopes rest number new)
    ∙ (ap (λ (rows : List Registration). is_some (find (is_registration number) rows)) same ∙ (there_shown scopes rest number old ∙ there))

-- the job of a number joined none, and its row changes without its leader
pub queued_stays : (f : JobRow → JobRow) (job : ℕ) → ((row : JobRow) → (f row).job.number ≡ row.job.number) → ((row : JobRow) → (f row).leader ≡ row.leader)
    → (rows : List JobRow) → option_map_or (λ (row : JobRow). is_none row.leader) (find (is_job job) (changed (is_job job) f rows)) false
    ≡ option_map_or (λ (row : JobRow). is_none row.leader) (find (is_job job) rows) false
queued_stays f job number leader [] = refl
queued_stays f job number leader (row ∷ rows) = grind (arith, nat_tests, number row, leader row, queued_stays f job number leader rows)

-- own: some other rows
abbrev pub no_rest : Rest
no_rest = record {
  jobs = [];
  preload = λ number. false;
  preload_value = λ number. codes "true";
  promises = [];
  tasks = [];
  caches = [];
  draws = [];
}
