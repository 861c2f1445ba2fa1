-- What is kept of the rows is the durable part of the state that they show.
use Rattle.std.proofs.Common.{◌≡◌, ◌∙◌, ℕ, Bool, false, ◌&&◌, List, [], ◌∷◌, map, Option, Some, None, option_map, option_and_then, length, is_some, refl, sym, ap, arith}
use Rattle.std.specs.Prelude.{find}
use Rattle.std.specs.List.{filter_map, range_with_len}
use Rattle.std.specs.Option.{option_map_or}
use Rattle.std.proofs.lemmas.List.{length-map}
use Rattle.sw_client.specs.Table as clients
use Rattle.sw_data.specs.declared.rows.RegistrationRow.{RegistrationRow}
use Rattle.sw_data.specs.declared.rows.WorkerRow.{WorkerRow}
use Rattle.sw_data.specs.declared.storage.KeptCache.{KeptCache}
use Rattle.sw_data.specs.declared.storage.KeptRegistration.{KeptRegistration}
use Rattle.sw_data.specs.declared.workers.Slot.{Slot}
use Rattle.sw_data.specs.declared.workers.Slot.TheVariants as slot
use Rattle.sw_ledgers.specs.Preloaded.{PreloadRow, preload_of, preload_value_of}
use Rattle.sw_reg.specs.Table as registrations
use Rattle.sw_reg.specs.Table.{registration_at, slot_of}
use Rattle.sw_core.specs.Keeping.{is_kept, is_kept_at, kept_numbered, kept_of, kept_registration, number_at, numbered}
use Rattle.sw_rules.specs.Durable.{durable, durable_registration, kept_at}
use Rattle.sw_rules.specs.Installing.{kept_worker}
use Rattle.sw_rules.specs.Rows as rules
use Rattle.sw_rules.specs.Rows.{is_number, slot_worker}
use Rattle.sw_rules.specs.State.{State, Registration}
use Rattle.sw_rules.specs.Told as told
use Rattle.sw_scope.specs.Scopes.{Scopes}
use Rattle.sw_tables.proofs.Lookups.{slot_number, slot_shown}
use Rattle.sw_tables.proofs.Rows.{find_map, found_at, map_on}
use Rattle.sw_tables.specs.Lent.{Rest, lent, shown_registration, shown_worker}
use Rattle.sw_tables.specs.Linked.{HasSlots}
use Rattle.sw_worker.specs.Table as workers
use Rattle.sw_worker.specs.Table.{is_activated}

filter_mapped : {X Y Z : Type 0} (h : X → Option Z) (f : Y → Option Z) (g : X → Y) → ((x : X) → h x ≡ f (g x)) → (xs : List X) → filter_map h xs ≡ filter_map f (map g xs)
filter_mapped h f g same [] = refl
filter_mapped h f g same (x ∷ xs) = cc (same x, filter_mapped h f g same xs)

-- two tests that agree on the members find the same
find_by_tests : {X : Type 0} (p q : X → Bool) (xs : List X) → map p xs ≡ map q xs → find p xs ≡ find q xs
find_by_tests p q [] same = refl
find_by_tests p q (x ∷ xs) same =
    let first : p x ≡ q x = cc in
    let others : map p xs ≡ map q xs = cc in
    grind (arith, first, find_by_tests p q xs others)

some_mapped : {X Y : Type 0} (f : X → Y) (o : Option X) → is_some (option_map f o) ≡ is_some o
some_mapped f None = refl
some_mapped f (Some x) = refl

kept_shown : (o : Option WorkerRow) → option_map kept_worker (option_map shown_worker o) ≡ kept_of o
kept_shown None = refl
kept_shown (Some row) = refl

activated_shown : (o : Option WorkerRow) → option_map_or rules.is_activated (option_map shown_worker o) false ≡ option_map_or is_activated o false
activated_shown None = refl
activated_shown (Some row) = refl

module _ (scopes : Scopes) (of_workers : workers.Table) (of_registrations : registrations.Table) (of_clients : clients.Table) (rest : Rest) (of_preloads : List PreloadRow) (has : HasSlots of_workers of_registrations)
    (preload : rest.preload ≡ preload_of of_preloads) (preload_value : rest.preload_value ≡ preload_value_of of_preloads) where
  abbrev state : State
  state = lent scopes of_workers of_registrations of_clients rest

  abbrev shown : RegistrationRow → Registration
  shown = shown_registration scopes rest

  module _ (y : RegistrationRow) (there : registration_at y.number of_registrations.rows ≡ Some y) where
    in_place : (place : Slot) → slot_of place y.number of_registrations.rows ≡ registrations.in_slot place y
    in_place place = ap (λ (o : Option RegistrationRow). option_and_then (registrations.in_slot place) o) there

    worker_shown : (place : Slot) → slot_worker state place y.number ≡ option_map shown_worker (numbered of_workers.rows (registrations.in_slot place y))
    worker_shown place =
        slot_shown of_workers of_registrations has place y.number scopes of_clients rest
        ∙ ap (λ (o : Option ℕ). option_map shown_worker (numbered of_workers.rows o)) (in_place place)

    worker_there : (place : Slot) → is_some (slot_worker state place y.number) ≡ is_some (registrations.in_slot place y)
    worker_there place =
        ap is_some (slot_shown of_workers of_registrations has place y.number scopes of_clients rest)
        ∙ (some_mapped shown_worker (numbered of_workers.rows (slot_of place y.number of_registrations.rows))
        ∙ (sym (some_mapped (λ (row : WorkerRow). row.number) (numbered of_workers.rows (slot_of place y.number of_registrations.rows)))
        ∙ (ap is_some (slot_number of_workers of_registrations has place y.number) ∙ ap is_some (in_place place))))

    kept_row : told.is_kept state (shown y) ≡ is_kept scopes y
    kept_row = let waiting = worker_there slot.Waiting in let active = worker_there slot.Active in cc (waiting, active)

    durable_row : durable_registration state (shown y) ≡ kept_registration of_workers.rows of_preloads y
    durable_row =
        let waiting : option_map kept_worker (slot_worker state slot.Waiting y.number) ≡ kept_of (numbered of_workers.rows y.waiting) =
        ap (option_map kept_worker) (worker_shown slot.Waiting) ∙ kept_shown (numbered of_workers.rows y.waiting) in
        let active : option_map kept_worker (slot_worker state slot.Active y.number) ≡ kept_of (numbered of_workers.rows y.active) =
        ap (option_map kept_worker) (worker_shown slot.Active) ∙ kept_shown (numbered of_workers.rows y.active) in
        let activated : option_map_or rules.is_activated (slot_worker state slot.Active y.number) false ≡ option_map_or is_activated (numbered of_workers.rows y.active) false =
        ap (λ o. option_map_or rules.is_activated o false) (worker_shown slot.Active) ∙ activated_shown (numbered of_workers.rows y.active) in
        let flag : rest.preload y.number ≡ preload_of of_preloads y.number = ap (λ (f : ℕ → Bool). f y.number) preload in
        let text : rest.preload_value y.number ≡ preload_value_of of_preloads y.number = ap (λ (f : ℕ → List ℕ). f y.number) preload_value in
        cc (waiting, active, activated, flag, text)

  at_place : (place : ℕ) → kept_at state place ≡ option_map shown (find (is_kept_at scopes place) of_registrations.rows)
  at_place place =
      find_map (λ row. told.is_kept state row && is_number row.first place) shown of_registrations.rows
      ∙ ap (option_map shown)
      (find_by_tests (λ row. told.is_kept state (shown row) && is_number row.first place) (is_kept_at scopes place) of_registrations.rows
      (map_on (λ (row : RegistrationRow). row.number) (λ row. told.is_kept state (shown row) && is_number row.first place) (is_kept_at scopes place) of_registrations.rows has.registration_places
      (λ y there. ap (λ (b : Bool). b && is_number y.first place) (kept_row y there))))

  each_place : (place : ℕ) → option_map (durable_registration state) (kept_at state place) ≡ kept_numbered of_workers.rows of_preloads of_registrations.rows (number_at scopes of_registrations.rows place)
  each_place place = ap (option_map (durable_registration state)) (at_place place) ∙ by (find (is_kept_at scopes place) of_registrations.rows) refl
    where
      by : (o : Option RegistrationRow) → find (is_kept_at scopes place) of_registrations.rows ≡ o
          → option_map (durable_registration state) (option_map shown o) ≡ kept_numbered of_workers.rows of_preloads of_registrations.rows (option_map (λ row. row.number) o)
      by None is = refl
      by (Some y) is =
          let there = found_at (λ (row : RegistrationRow). row.number) (is_kept_at scopes place) of_registrations.rows y has.registration_places is in
          ap Some (durable_row y there) ∙ sym (ap (option_map (kept_registration of_workers.rows of_preloads)) there)

  pub durable_rows : (rows : List KeptRegistration) (caches : List KeptCache)
      → rows ≡ filter_map (kept_numbered of_workers.rows of_preloads of_registrations.rows) (map (number_at scopes of_registrations.rows) (range_with_len 0 (length of_registrations.rows)))
      → rest.caches ≡ caches → record { registrations = rows; caches = caches } ≡ durable state
  unfolding durable
  durable_rows rows caches are same =
      let long = length-map of_registrations.rows shown in
      let all : filter_map (λ place. option_map (durable_registration state) (kept_at state place)) (range_with_len 0 (length of_registrations.rows)) ≡ rows =
      filter_mapped (λ place. option_map (durable_registration state) (kept_at state place)) (kept_numbered of_workers.rows of_preloads of_registrations.rows) (number_at scopes of_registrations.rows) each_place
      (range_with_len 0 (length of_registrations.rows)) ∙ sym are in
      cc (all, long, same)
