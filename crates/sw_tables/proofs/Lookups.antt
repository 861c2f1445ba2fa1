-- What is found in the tables is what is found in the state of their rows.
use Rattle.std.proofs.Common.{◌≡◌, ◌∙◌, ◌==◌, ◌&&◌, ℕ, zero, suc, length, take, Bool, true, false, List, [], map, Option, Some, None, option_map, option_and_then, bytes_eq, refl, sym, ap, arith}
use Rattle.std.specs.Prelude.{find}
use Rattle.std.specs.Cmp.Lexicographic.{bytes_decides}
use Rattle.std.specs.Option.{option_map_or, option_or}
use Rattle.std.proofs.lemmas.Bool.{and_parts}
use Rattle.std.proofs.lemmas.Bool.Decides.{nat_tests}
use Rattle.sw_client.specs.Table as clients
use Rattle.sw_data.specs.declared.rows.RegistrationRow.{RegistrationRow}
use Rattle.sw_data.specs.declared.rows.WorkerRow.{WorkerRow}
use Rattle.sw_data.specs.declared.workers.Slot.{Slot}
use Rattle.sw_data.specs.declared.workers.Slot.TheVariants as slot
use Rattle.sw_reg.specs.Table as registrations
use Rattle.sw_reg.specs.Table.{newest_of, registration_at, slot_of}
use Rattle.sw_rules.specs.Rows as rules
use Rattle.sw_rules.specs.Rows.{in_slot}
use Rattle.sw_scope.specs.Laws.{MatchIsTheLongestFront}
use Rattle.sw_scope.specs.Scopes.{Scopes, longest_at, longest_front, maps}
use Rattle.sw_tables.proofs.Rows.{any_at, any_map, find_map, found_number, no_row, only}
use Rattle.sw_tables.specs.Lent.{Rest, lent, shown_registration, shown_worker}
use Rattle.sw_tables.specs.Linked.{ArePlaces, HasScopes, HasSlots}
use Rattle.sw_worker.specs.Table as workers
use Rattle.sw_worker.specs.Table.{worker_at}

-- ---- workers

abbrev number : WorkerRow → ℕ
number row = row.number

-- a worker's row is the state's
pub worker_shown : (n : ℕ) (rows : List WorkerRow) → find (rules.is_worker n) (map shown_worker rows) ≡ option_map shown_worker (worker_at n rows)
worker_shown n rows = find_map (rules.is_worker n) shown_worker rows

abbrev stands : Slot → ℕ → WorkerRow → Bool
stands place registration row = row.registration == registration && in_slot place row.state

-- the newest worker is the first of the three slots
newest_slots : (registration : ℕ) (rows : List RegistrationRow) → newest_of registration rows
    ≡ option_or (slot_of slot.Installing registration rows) (option_or (slot_of slot.Waiting registration rows) (slot_of slot.Active registration rows))
newest_slots registration rows = by (registration_at registration rows)
  where
    by : (o : Option RegistrationRow) → option_and_then (λ row. option_or row.installing (option_or row.waiting row.active)) o
        ≡ option_or (option_and_then (registrations.in_slot slot.Installing) o) (option_or (option_and_then (registrations.in_slot slot.Waiting) o) (option_and_then (registrations.in_slot slot.Active) o))
    by None = refl
    by (Some x) = refl

module _ (of_workers : workers.Table) (of : registrations.Table) (right : HasSlots of_workers of) where
  -- the worker whose state names a slot is the one whose number stands in it
  in_its_slot : (place : Slot) (registration : ℕ) (y : WorkerRow) → worker_at y.number of_workers.rows ≡ Some y → stands place registration y ≡ true
      → slot_of place registration of.rows ≡ Some y.number
  in_its_slot place registration y is passes =
      let parts = and_parts (y.registration == registration) (in_slot place y.state) passes in
      let own : y.registration ≡ registration = grind (arith, nat_tests, parts.0) in
      let there = (right.rows y.number y is).slots place parts.1 in
      ap (λ (n : ℕ). slot_of place n of.rows) (sym own) ∙ there

  slot_found : (place : Slot) (registration : ℕ) → find (stands place registration) of_workers.rows
      ≡ option_and_then (λ n. worker_at n of_workers.rows) (slot_of place registration of.rows)
  slot_found place registration = by (slot_of place registration of.rows) refl
    where
      filled : (n : ℕ) (o : Option WorkerRow) → slot_of place registration of.rows ≡ Some n → worker_at n of_workers.rows ≡ o → find (stands place registration) of_workers.rows ≡ o
      filled n None is found = let has = right.filled place registration n is in absurd (grind (arith, has, found))
      filled n (Some x) is found =
          let has = right.filled place registration n is in
          let passes : stands place registration x ≡ true = grind (arith, has, found) in
          only number (stands place registration) of_workers.rows n x right.worker_places found passes
          (λ y there test. let own = in_its_slot place registration y there test in cc (own, is))

      empty : slot_of place registration of.rows ≡ None → (y : WorkerRow) → worker_at y.number of_workers.rows ≡ Some y → (b : Bool) → stands place registration y ≡ b → b ≡ false
      empty none y there true test = let own = in_its_slot place registration y there test in absurd cc
      empty none y there false test = refl

      by : (o : Option ℕ) → slot_of place registration of.rows ≡ o → find (stands place registration) of_workers.rows ≡ option_and_then (λ n. worker_at n of_workers.rows) o
      by None is =
          no_row number (stands place registration) of_workers.rows right.worker_places
          (λ y there. empty is y there (stands place registration y) refl)
      by (Some n) is = filled n (worker_at n of_workers.rows) is refl

  -- the worker in a slot is the state's
  pub slot_shown : (place : Slot) (registration : ℕ) (scopes : Scopes) (of_clients : clients.Table) (rest : Rest)
      → rules.slot_worker (lent scopes of_workers of of_clients rest) place registration
      ≡ option_map shown_worker (option_and_then (λ n. worker_at n of_workers.rows) (slot_of place registration of.rows))
  slot_shown place registration scopes of_clients rest =
      find_map (λ row. row.registration == registration && in_slot place row.state) shown_worker of_workers.rows
      ∙ ap (option_map shown_worker) (slot_found place registration)

  pub slot_number : (place : Slot) (registration : ℕ) → option_map number (option_and_then (λ n. worker_at n of_workers.rows) (slot_of place registration of.rows))
      ≡ slot_of place registration of.rows
  slot_number place registration = by (slot_of place registration of.rows) refl
    where
      there : (n : ℕ) (o : Option WorkerRow) → slot_of place registration of.rows ≡ Some n → worker_at n of_workers.rows ≡ o → option_map number o ≡ Some n
      there n None is found = let has = right.filled place registration n is in absurd (grind (arith, has, found))
      there n (Some x) is found = ap Some (found_number number n of_workers.rows x found)

      by : (o : Option ℕ) → slot_of place registration of.rows ≡ o → option_map number (option_and_then (λ n. worker_at n of_workers.rows) o) ≡ o
      by None is = refl
      by (Some n) is = there n (worker_at n of_workers.rows) is refl

  -- the first of two numbers, where its worker is there
  first_worker : (a b : Option ℕ) → option_map number (option_and_then (λ n. worker_at n of_workers.rows) a) ≡ a
      → option_map shown_worker (option_and_then (λ n. worker_at n of_workers.rows) (option_or a b))
      ≡ option_or (option_map shown_worker (option_and_then (λ n. worker_at n of_workers.rows) a))
      (option_map shown_worker (option_and_then (λ n. worker_at n of_workers.rows) b))
  first_worker None b is = refl
  first_worker (Some n) b is = by (worker_at n of_workers.rows) refl
    where
      by : (o : Option WorkerRow) → worker_at n of_workers.rows ≡ o → option_map shown_worker o ≡ option_or (option_map shown_worker o) (option_map shown_worker (option_and_then (λ n. worker_at n of_workers.rows) b))
      by None none = absurd (grind (arith, is, none))
      by (Some x) found = refl

  -- the newest worker is the state's
  pub newest_shown : (registration : ℕ) (scopes : Scopes) (of_clients : clients.Table) (rest : Rest)
      → rules.newest_worker (lent scopes of_workers of of_clients rest) registration
      ≡ option_map shown_worker (option_and_then (λ n. worker_at n of_workers.rows) (newest_of registration of.rows))
  newest_shown registration scopes of_clients rest =
      let shown = λ (place : Slot). slot_shown place registration scopes of_clients rest in
      let first = first_worker (slot_of slot.Installing registration of.rows)
      (option_or (slot_of slot.Waiting registration of.rows) (slot_of slot.Active registration of.rows))
      (slot_number slot.Installing registration) in
      let second = first_worker (slot_of slot.Waiting registration of.rows) (slot_of slot.Active registration of.rows)
      (slot_number slot.Waiting registration) in
      let slots = newest_slots registration of.rows in
      cc (shown slot.Installing, shown slot.Waiting, shown slot.Active, first, second, slots)

-- ---- registrations

abbrev number_of : RegistrationRow → ℕ
number_of row = row.number

abbrev pub is_of : List ℕ → List ℕ → RegistrationRow → Bool
is_of key scope row = bytes_eq row.key key && bytes_eq row.scope scope

abbrev pub mapped_in : Scopes → RegistrationRow → Bool
mapped_in scopes row = rules.is_number (maps scopes row.key row.scope) row.number

-- the map has this row under this key and scope
abbrev passes_in : Scopes → List ℕ → List ℕ → RegistrationRow → Bool
passes_in scopes key scope row = mapped_in scopes row && bytes_eq row.key key && bytes_eq row.scope scope

pub number_is : (o : Option ℕ) (n : ℕ) → rules.is_number o n ≡ true → o ≡ Some n
number_is None n is = absurd cc
number_is (Some m) n is = ap Some (grind (arith, nat_tests, is))

-- the same numbers of each text give the same longest front
same_longest : (found other : List ℕ → Option ℕ) → ((text : List ℕ) → found text ≡ other text) → (address : List ℕ) (n : ℕ) → longest_at found address n ≡ longest_at other address n
same_longest found other same address zero = same []
same_longest found other same address (suc n) =
    let first = same (take (suc n) address) in
    let later = same_longest found other same address n in
    grind (arith, first, later)

module _ (scopes : Scopes) (of : registrations.Table) (are : ArePlaces number_of of.rows) where
  -- a registration is mapped where its row is
  pub mapping_shown : (n : ℕ) (of_workers : workers.Table) (of_clients : clients.Table) (rest : Rest)
      → rules.is_mapped (lent scopes of_workers of of_clients rest) n ≡ option_map_or (mapped_in scopes) (registration_at n of.rows) false
  mapping_shown n of_workers of_clients rest =
      any_map (λ row. row.number == n && row.mapped) (shown_registration scopes rest) of.rows
      ∙ any_at number_of (mapped_in scopes) n of.rows are

  module _ (has : HasScopes scopes of) where
    -- what passes is what the map has
    mapped_as : (key scope : List ℕ) (y : RegistrationRow) → passes_in scopes key scope y ≡ true → maps scopes key scope ≡ Some y.number
    mapped_as key scope y passes =
        let parts = and_parts (mapped_in scopes y && bytes_eq y.key key) (bytes_eq y.scope scope) passes in
        let firsts = and_parts (mapped_in scopes y) (bytes_eq y.key key) parts.0 in
        let own : y.key ≡ key = (bytes_decides y.key key).0 firsts.1 in
        let text : y.scope ≡ scope = (bytes_decides y.scope scope).0 parts.1 in
        let there = number_is (maps scopes y.key y.scope) y.number firsts.0 in
        cc (own, text, there)

    mapped_found : (key scope : List ℕ) → find (passes_in scopes key scope) of.rows
        ≡ option_and_then (λ n. registration_at n of.rows) (maps scopes key scope)
    mapped_found key scope = by (maps scopes key scope) refl
      where
        test : RegistrationRow → Bool
        test = passes_in scopes key scope

        passing : (n : ℕ) (x : RegistrationRow) → maps scopes key scope ≡ Some n → x.number ≡ n → is_of key scope x ≡ true → test x ≡ true
        passing n x is own of_it =
            let texts = and_parts (bytes_eq x.key key) (bytes_eq x.scope scope) of_it in
            let same_key : x.key ≡ key = (bytes_decides x.key key).0 texts.0 in
            let same_scope : x.scope ≡ scope = (bytes_decides x.scope scope).0 texts.1 in
            let there : maps scopes x.key x.scope ≡ Some n = cc (same_key, same_scope, is) in
            grind (arith, nat_tests, there, own, of_it)

        held : (n : ℕ) (o : Option RegistrationRow) → maps scopes key scope ≡ Some n → registration_at n of.rows ≡ o → find test of.rows ≡ o
        held n None is found = let there = has key scope n is in absurd (grind (arith, there, found))
        held n (Some x) is found =
            let there = has key scope n is in
            let of_it : is_of key scope x ≡ true = grind (arith, there, found) in
            only number_of test of.rows n x are found (passing n x is (found_number number_of n of.rows x found) of_it)
            (λ y at_it passes. let own = mapped_as key scope y passes in cc (own, is))

        none_passes : maps scopes key scope ≡ None → (y : RegistrationRow) (b : Bool) → test y ≡ b → b ≡ false
        none_passes is y true passes = let own = mapped_as key scope y passes in absurd cc
        none_passes is y false passes = refl

        by : (o : Option ℕ) → maps scopes key scope ≡ o → find test of.rows ≡ option_and_then (λ n. registration_at n of.rows) o
        by None is = no_row number_of test of.rows are (λ y there. none_passes is y (test y) refl)
        by (Some n) is = held n (registration_at n of.rows) is refl

    -- the mapped registration is the state's
    pub mapped_shown : (key scope : List ℕ) (of_workers : workers.Table) (of_clients : clients.Table) (rest : Rest)
        → rules.mapped_registration (lent scopes of_workers of of_clients rest) key scope
        ≡ option_map (shown_registration scopes rest) (option_and_then (λ n. registration_at n of.rows) (maps scopes key scope))
    mapped_shown key scope of_workers of_clients rest =
        find_map (rules.is_mapped_to key scope) (shown_registration scopes rest) of.rows
        ∙ ap (option_map (shown_registration scopes rest)) (mapped_found key scope)

    -- and its number is what the map has
    pub mapped_number : (key scope : List ℕ) → option_map number_of (option_and_then (λ n. registration_at n of.rows) (maps scopes key scope)) ≡ maps scopes key scope
    mapped_number key scope = by (maps scopes key scope) refl
      where
        there : (n : ℕ) (o : Option RegistrationRow) → maps scopes key scope ≡ Some n → registration_at n of.rows ≡ o → option_map number_of o ≡ Some n
        there n None is found = let held = has key scope n is in absurd (grind (arith, held, found))
        there n (Some x) is found = ap Some (found_number number_of n of.rows x found)

        by : (o : Option ℕ) → maps scopes key scope ≡ o → option_map number_of (option_and_then (λ n. registration_at n of.rows) o) ≡ o
        by None is = refl
        by (Some n) is = there n (registration_at n of.rows) is refl

    -- the number of the state's mapped registration is what the map has
    mapped_known : (key scope : List ℕ) (of_workers : workers.Table) (of_clients : clients.Table) (rest : Rest)
        → option_map (λ row. row.number) (rules.mapped_registration (lent scopes of_workers of of_clients rest) key scope) ≡ maps scopes key scope
    mapped_known key scope of_workers of_clients rest =
        ap (option_map (λ row. row.number)) (mapped_shown key scope of_workers of_clients rest)
        ∙ shown_number (option_and_then (λ n. registration_at n of.rows) (maps scopes key scope)) rest
        ∙ mapped_number key scope
      where
        shown_number : (o : Option RegistrationRow) (rest : Rest) → option_map (λ row. row.number) (option_map (shown_registration scopes rest) o) ≡ option_map number_of o
        shown_number None rest = refl
        shown_number (Some x) rest = refl

    -- the registration that an address matches is that of its longest front in the map
    pub matched_shown : MatchIsTheLongestFront → (key address : List ℕ) (of_workers : workers.Table) (of_clients : clients.Table) (rest : Rest)
        → rules.matched_registration_number (lent scopes of_workers of of_clients rest) key address ≡ longest_front (maps scopes key) address
    matched_shown law key address of_workers of_clients rest =
        let state = lent scopes of_workers of of_clients rest in
        law state key address
        ∙ same_longest (λ scope. option_map (λ row. row.number) (rules.mapped_registration state key scope)) (maps scopes key)
        (λ scope. mapped_known key scope of_workers of_clients rest) address (length address)
