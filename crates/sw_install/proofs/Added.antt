-- A parsed worker more.
use Rattle.std.proofs.Common.{◌≡◌, ◌∙◌, ℕ, Bool, true, false, true≢false, ◌==◌, ◌&&◌, [], ◌∷◌, ◌++◌, Option, Some, None, is_some, refl, sym, ap, subst, arith}
use Rattle.std.proofs.lemmas.List.Folds.{find-append}
use Rattle.sw_client.specs.Table as clients
use Rattle.sw_client.specs.declared.OpenClient.{OpenClient}
use Rattle.sw_data.specs.declared.rows.WorkerRow.{WorkerRow}
use Rattle.sw_data.specs.declared.workers.Slot.{Slot}
use Rattle.sw_data.specs.declared.workers.Slot.TheVariants as slot
use Rattle.sw_data.specs.declared.workers.WorkerState.TheVariants as worker_state
use Rattle.sw_install.specs.Fetches.{IsNewWorker}
use Rattle.sw_reg.specs.Table as registrations
use Rattle.sw_rules.specs.Rows.{in_slot}
use Rattle.sw_scope.specs.Scopes.{Scopes}
use Rattle.sw_tables.proofs.Rows.{places_more}
use Rattle.sw_tables.specs.Linked.{HasSlots, IsNoted, Linked, StandsRight}
use Rattle.sw_worker.specs.Table as workers
use Rattle.sw_worker.specs.Table.{has_worker, is_activated, is_worker, worker_at}

in_no_slot : (place : Slot) → in_slot place worker_state.Parsed ≡ false
in_no_slot slot.Installing = refl
in_no_slot slot.Waiting = refl
in_no_slot slot.Active = refl

module _ (new : WorkerRow) (spare : ℕ) (old : workers.Table) (of : registrations.Table) (is : IsNewWorker new old of) where
  more : workers.Table
  more = record old { rows = old.rows ++ new ∷ []; spare_rows = spare }

  kept : (number : ℕ) (row : WorkerRow) → worker_at number old.rows ≡ Some row → worker_at number (old.rows ++ new ∷ []) ≡ Some row
  kept number row there = grind (arith, find-append (is_worker number) old.rows (new ∷ []), there)

  kept_has : (test : WorkerRow → Bool) (number : ℕ) → has_worker test number old.rows ≡ true → has_worker test number (old.rows ++ new ∷ []) ≡ true
  kept_has test number has = by (worker_at number old.rows) refl
    where
      by : (o : Option WorkerRow) → worker_at number old.rows ≡ o → has_worker test number (old.rows ++ new ∷ []) ≡ true
      by None there = absurd cc
      by (Some row) there = let now = kept number row there in cc

  new_stands : (number : ℕ) → StandsRight of number new
  new_stands number = record {
    owner = is.owner;
    slots = λ place stands. absurd (true≢false (sym stands ∙ (ap (in_slot place) is.state ∙ in_no_slot place)));
    handler = λ runs. absurd (true≢false (sym runs ∙ ap is_some is.handler));
  }

  stands : HasSlots old of → (number : ℕ) (row : WorkerRow) → worker_at number (old.rows ++ new ∷ []) ≡ Some row → StandsRight of number row
  stands has number row there = by (worker_at number old.rows) refl
    where
      by : (o : Option WorkerRow) → worker_at number old.rows ≡ o → StandsRight of number row
      by None gone =
          let same : new ≡ row = grind (arith, find-append (is_worker number) old.rows (new ∷ []), gone, there) in
          subst (StandsRight of number) same (new_stands number)
      by (Some r) here =
          let now = kept number r here in
          let same : r ≡ row = cc in
          subst (StandsRight of number) same (has.rows number r here)

  noted : (row : OpenClient) → IsNoted old row → IsNoted more row
  unfolding more
  noted row was = by row.client.controller refl
    where
      by : (o : Option ℕ) → row.client.controller ≡ o → IsNoted more row
      by None none = record { registration = cc (was.registration, none); controller = was.controller }
      by (Some number) here = at (worker_at number old.rows) refl
        where
          at : (o : Option WorkerRow) → worker_at number old.rows ≡ o → IsNoted more row
          at None gone =
              let registration : row.registration ≡ None = was.registration ∙ cc (here, gone) in
              absurd cc
          at (Some r) there =
              let now = kept number r there in
              record { registration = was.registration ∙ cc (here, there, now); controller = was.controller }

  pub added_linked : (scopes : Scopes) (of_clients : clients.Table) → Linked scopes old of of_clients → Linked scopes (record old { rows = old.rows ++ new ∷ []; spare_rows = spare }) of of_clients
  unfolding more
  added_linked scopes of_clients linked = record {
    slots = record {
      worker_places = places_more (λ (row : WorkerRow). row.number) old.rows new linked.slots.worker_places is.fits.number;
      registration_places = linked.slots.registration_places;
      rows = stands linked.slots;
      filled = λ place registration number filled.
          kept_has (λ row. row.registration == registration && in_slot place row.state) number (linked.slots.filled place registration number filled);
      events = λ k d below. kept_has is_activated _ (linked.slots.events k d below);
    };
    mapped = linked.mapped;
    noted = λ k d below. noted _ (linked.noted k d below);
    known = linked.known;
  }
