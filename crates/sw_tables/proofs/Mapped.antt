-- The map and the rows of registrations: what a registration that leaves the map, is made, or gets another field does to them.
use Rattle.std.proofs.Common.{◌≡◌, ◌∙◌, ◌<◌, ◌≤◌, ◌==◌, ◌&&◌, ℕ, Bool, true, false, List, [], ◌∷◌, ◌++◌, map, Option, Some, None, option_map, option_and_then, bytes_eq, codes, length, length-append, is_some, refl, sym, ap, subst, arith, if◌then◌else◌}
use Rattle.std.proofs.lemmas.Bool.{and_parts}
use Rattle.std.proofs.lemmas.Bool.Decides.{nat_tests}
use Rattle.std.proofs.lemmas.List.{length-map, map-append}
use Rattle.std.proofs.lemmas.List.Folds.{find-append}
use Rattle.std.specs.Cmp.Lexicographic.{bytes_decides}
use Rattle.std.specs.List.{range_with_len}
use Rattle.std.specs.Option.{option_map_or, option_or}
use Rattle.sw_client.specs.Table as clients
use Rattle.sw_data.specs.declared.rows.Job.{Job}
use Rattle.sw_data.specs.declared.rows.RegistrationRow.{RegistrationRow}
use Rattle.sw_data.specs.declared.workers.Mode.{Mode}
use Rattle.sw_data.specs.declared.workers.Slot.{Slot}
use Rattle.sw_data.specs.declared.workers.Slot.TheVariants as slot
use Rattle.sw_reg.specs.Edits.{new_registration, with_mode, with_owed}
use Rattle.sw_reg.specs.Table as registrations
use Rattle.sw_reg.specs.Table.{has_registration, is_there, registration_at, slot_of}
use Rattle.sw_rules.specs.Matching.{Scope}
use Rattle.sw_rules.specs.Registrations as rules
use Rattle.sw_rules.specs.Rows.{changed, is_number, is_registration}
use Rattle.sw_rules.specs.State.{Registration}
use Rattle.sw_scope.specs.Scopes.{Scopes, maps, with_row, without_scope}
use Rattle.sw_tables.proofs.Lookups.{is_of, mapped_in, number_is}
use Rattle.sw_tables.proofs.Rows.{find_same, found_number, map_on, no_row, places_more, within}
use Rattle.sw_tables.specs.Lent.{Rest, shown_registration}
use Rattle.sw_tables.specs.Linked.{ArePlaces, HasScopes, HasSlots, Linked}
use Rattle.sw_worker.specs.Table as workers

abbrev number : RegistrationRow → ℕ
number row = row.number

same_bytes : (x : List ℕ) → bytes_eq x x ≡ true
same_bytes x = (bytes_decides x x).1 refl

-- the row as the state has it, mapped or not
abbrev mapped_as : Rest → RegistrationRow → Bool → Registration
mapped_as rest row mapped = record (shown_registration [] rest row) { mapped = mapped }

-- ---- a registration that leaves the map

-- what the map has once the scope of a row is out, where it had it for that row
abbrev pub Forgets : Scopes → Scopes → RegistrationRow → Type 0
Forgets old new x =
    (key scope : List ℕ) → maps new key scope
    ≡ (if is_number (maps old x.key x.scope) x.number then without_scope old x.key x.scope key scope else maps old key scope)

forgotten_here : (old new : Scopes) (x : RegistrationRow) → Forgets old new x → mapped_in new x ≡ false
forgotten_here old new x forgets =
    let law = forgets x.key x.scope in
    by (is_number (maps old x.key x.scope) x.number) refl law
  where
    by : (b : Bool) → is_number (maps old x.key x.scope) x.number ≡ b → maps new x.key x.scope ≡ (if b then without_scope old x.key x.scope x.key x.scope else maps old x.key x.scope) → mapped_in new x ≡ false
    by true is law = let k = same_bytes x.key in let s = same_bytes x.scope in grind (arith, k, s, law)
    by false is law = cc (is, law)

forgotten_else : (old new : Scopes) (x y : RegistrationRow) → Forgets old new x → (y.number == x.number) ≡ false → mapped_in new y ≡ mapped_in old y
forgotten_else old new x y forgets other =
    by (is_number (maps old x.key x.scope) x.number) (bytes_eq x.key y.key && bytes_eq x.scope y.scope) refl refl (forgets y.key y.scope)
  where
    by : (b same : Bool) → is_number (maps old x.key x.scope) x.number ≡ b → bytes_eq x.key y.key && bytes_eq x.scope y.scope ≡ same
        → maps new y.key y.scope ≡ (if b then (if same then None else maps old y.key y.scope) else maps old y.key y.scope) → mapped_in new y ≡ mapped_in old y
    by true true is same law =
        let had = number_is (maps old x.key x.scope) x.number is in
        let texts = and_parts (bytes_eq x.key y.key) (bytes_eq x.scope y.scope) same in
        let key : x.key ≡ y.key = (bytes_decides x.key y.key).0 texts.0 in
        let scope : x.scope ≡ y.scope = (bytes_decides x.scope y.scope).0 texts.1 in
        let has : maps old y.key y.scope ≡ Some x.number = cc (key, scope, had) in
        grind (arith, nat_tests, has, law, other)
    by true false is same law = ap (λ (o : Option ℕ). is_number o y.number) law
    by false same is texts law = ap (λ (o : Option ℕ). is_number o y.number) law

module _ (old new : Scopes) (n : ℕ) (rows : List RegistrationRow) (x : RegistrationRow) (are : ArePlaces number rows) (is : registration_at n rows ≡ Some x) (forgets : Forgets old new x) where
  forgotten : (y : RegistrationRow) → registration_at y.number rows ≡ Some y → mapped_in new y ≡ (if y.number == n then false else mapped_in old y)
  forgotten y there = by (y.number == n) refl
    where
      own : x.number ≡ n
      own = found_number number n rows x is

      by : (b : Bool) → (y.number == n) ≡ b → mapped_in new y ≡ (if b then false else mapped_in old y)
      by true same =
          let at_n : y.number ≡ n = grind (arith, nat_tests, same) in
          let one : x ≡ y = grind (arith, at_n, there, is) in
          subst (λ (z : RegistrationRow). mapped_in new z ≡ false) one (forgotten_here old new x forgets)
      by false other = forgotten_else old new x y forgets (grind (arith, nat_tests, own, other))

  pub unmapped_rows : (rest : Rest) → map (shown_registration new rest) rows ≡ changed (is_registration n) (λ row. record row { mapped = false }) (map (shown_registration old rest) rows)
  unmapped_rows rest =
      map_on number (shown_registration new rest)
      (λ y. if y.number == n then record (shown_registration old rest y) { mapped = false } else shown_registration old rest y) rows are
      (λ y there. ap (mapped_as rest y) (forgotten y there) ∙ by y (y.number == n))
      ∙ fused rows
    where
      by : (y : RegistrationRow) (b : Bool) → mapped_as rest y (if b then false else mapped_in old y) ≡ (if b then record (shown_registration old rest y) { mapped = false } else shown_registration old rest y)
      by y true = refl
      by y false = refl

      fused : (ys : List RegistrationRow) → map (λ y. if y.number == n then record (shown_registration old rest y) { mapped = false } else shown_registration old rest y) ys
          ≡ changed (is_registration n) (λ row. record row { mapped = false }) (map (shown_registration old rest) ys)
      fused [] = refl
      fused (y ∷ ys) = ap (λ (zs : List Registration). (if y.number == n then record (shown_registration old rest y) { mapped = false } else shown_registration old rest y) ∷ zs) (fused ys)

-- nothing is mapped that wasn't
forgets_only : (old new : Scopes) (x : RegistrationRow) → Forgets old new x → (key scope : List ℕ) (n : ℕ) → maps new key scope ≡ Some n → maps old key scope ≡ Some n
forgets_only old new x forgets key scope n is =
    by (is_number (maps old x.key x.scope) x.number) (bytes_eq x.key key && bytes_eq x.scope scope) (forgets key scope)
  where
    by : (b same : Bool) → maps new key scope ≡ (if b then (if same then None else maps old key scope) else maps old key scope) → maps old key scope ≡ Some n
    by true true law = absurd cc
    by true false law = sym law ∙ is
    by false same law = sym law ∙ is

pub unmapped_scopes : (old new : Scopes) (x : RegistrationRow) (of : registrations.Table) → Forgets old new x → HasScopes old of → HasScopes new of
unmapped_scopes old new x of forgets has key scope n is = has key scope n (forgets_only old new x forgets key scope n is)

-- ---- a registration that is made and mapped

module _ (old new : Scopes) (scope : Scope) (row : RegistrationRow) (of made : registrations.Table)
    (are : ArePlaces number of.rows) (put : (key text : List ℕ) → maps new key text ≡ with_row old scope key text)
    (rows : made.rows ≡ of.rows ++ row ∷ []) (place : row.number ≡ length of.rows)
    (fresh : row ≡ new_registration row.number row.key row.scope row.mode)
    (key_is : scope.key ≡ row.key) (scope_is : scope.scope ≡ row.scope) (number_is_its : scope.number ≡ row.number)
    (unmapped : maps old row.key row.scope ≡ None) where
  others : (y : RegistrationRow) → registration_at y.number of.rows ≡ Some y → mapped_in new y ≡ mapped_in old y
  others y there = by (bytes_eq scope.key y.key && bytes_eq scope.scope y.scope) refl (put y.key y.scope)
    where
      by : (b : Bool) → bytes_eq scope.key y.key && bytes_eq scope.scope y.scope ≡ b → maps new y.key y.scope ≡ (if b then Some scope.number else maps old y.key y.scope) → mapped_in new y ≡ mapped_in old y
      by true same law =
          let texts = and_parts (bytes_eq scope.key y.key) (bytes_eq scope.scope y.scope) same in
          let own_key : scope.key ≡ y.key = (bytes_decides scope.key y.key).0 texts.0 in
          let own_scope : scope.scope ≡ y.scope = (bytes_decides scope.scope y.scope).0 texts.1 in
          let none : maps old y.key y.scope ≡ None = cc (own_key, own_scope, key_is, scope_is, unmapped) in
          let below = within number y.number of.rows y are there in
          grind (arith, nat_tests, none, law, below, place, number_is_its)
      by false other law = ap (λ (o : Option ℕ). is_number o y.number) law

  own_mapped : mapped_in new row ≡ true
  own_mapped =
      let law = put row.key row.scope in
      let k : bytes_eq scope.key row.key ≡ true = subst (λ (x : List ℕ). bytes_eq x row.key ≡ true) (sym key_is) (same_bytes row.key) in
      let s : bytes_eq scope.scope row.scope ≡ true = subst (λ (x : List ℕ). bytes_eq x row.scope ≡ true) (sym scope_is) (same_bytes row.scope) in
      grind (arith, nat_tests, law, k, s, number_is_its)

  own_shown : (rest : Rest) (job : Job) → rest.preload (length of.rows) ≡ false → rest.preload_value (length of.rows) ≡ codes "true"
      → job.key ≡ row.key → job.scope ≡ row.scope → job.mode ≡ row.mode → shown_registration new rest row ≡ rules.new_registration (length of.rows) job
  own_shown rest job preload value key text mode =
      let plain = ap (λ (x : RegistrationRow). mapped_as rest x (mapped_in new row)) fresh in
      let first : row.first ≡ None = ap (λ (x : RegistrationRow). x.first) fresh in
      let owed : row.owed ≡ false = ap (λ (x : RegistrationRow). x.owed) fresh in
      cc (first, owed, own_mapped, place, preload, value, key, text, mode)

  pub made_rows : (rest : Rest) (job : Job) → rest.preload (length of.rows) ≡ false → rest.preload_value (length of.rows) ≡ codes "true"
      → job.key ≡ row.key → job.scope ≡ row.scope → job.mode ≡ row.mode
      → map (shown_registration new rest) made.rows ≡ map (shown_registration old rest) of.rows ++ rules.new_registration (length (map (shown_registration old rest) of.rows)) job ∷ []
  made_rows rest job preload value key text mode =
      let before = map_on number (shown_registration new rest) (shown_registration old rest) of.rows are (λ y there. ap (mapped_as rest y) (others y there)) in
      let last = own_shown rest job preload value key text mode in
      let long = length-map of.rows (shown_registration old rest) in
      let apart = map-append (shown_registration new rest) of.rows (row ∷ []) in
      cc (rows, before, last, long, apart)

  -- ---- the links

  at_new : (n : ℕ) → registration_at n made.rows ≡ option_or (registration_at n of.rows) (registration_at n (row ∷ []))
  at_new n = ap (registration_at n) rows ∙ find-append (λ r. r.number == n) of.rows (row ∷ [])

  none_yet : registration_at row.number of.rows ≡ None
  none_yet = no_row number (λ r. r.number == row.number) of.rows are
      (λ y there. let below = within number y.number of.rows y are there in grind (arith, nat_tests, below, place))

  stays : (test : RegistrationRow → Bool) (n : ℕ) → has_registration test n of.rows ≡ true → has_registration test n made.rows ≡ true
  stays test n has = by (registration_at n of.rows) refl
    where
      by : (o : Option RegistrationRow) → registration_at n of.rows ≡ o → has_registration test n made.rows ≡ true
      by None is = absurd (grind (arith, has, is))
      by (Some x) is = let now = at_new n in grind (arith, has, is, now)

  slots_same : (at : Slot) (n : ℕ) → slot_of at n made.rows ≡ slot_of at n of.rows
  slots_same at n = ap (option_and_then (registrations.in_slot at)) (at_new n) ∙ by (registration_at n of.rows) (row.number == n) refl
    where
      empty : registrations.in_slot at row ≡ None
      empty = ap (registrations.in_slot at) fresh ∙ none at
        where
          none : (at : Slot) → registrations.in_slot at (new_registration row.number row.key row.scope row.mode) ≡ None
          none slot.Installing = refl
          none slot.Waiting = refl
          none slot.Active = refl

      by : (o : Option RegistrationRow) (b : Bool) → (row.number == n) ≡ b → option_and_then (registrations.in_slot at) (option_or o (registration_at n (row ∷ []))) ≡ option_and_then (registrations.in_slot at) o
      by (Some x) b is = refl
      by None true is = grind (arith, is, empty)
      by None false is = grind (arith, is)

  made_slots : (of_workers : workers.Table) → HasSlots of_workers of → HasSlots of_workers made
  made_slots of_workers right = record {
    worker_places = right.worker_places;
    registration_places = subst (λ (rs : List RegistrationRow). ArePlaces number rs) (sym rows) (places_more number of.rows row are place);
    rows = λ n w there.
        let was = right.rows n w there in
        record {
          owner = by w.registration was.owner;
          slots = λ at standing. slots_same at w.registration ∙ was.slots at standing;
          handler = was.handler;
        };
    filled = λ at n m is. right.filled at n m (sym (slots_same at n) ∙ is);
    events = right.events;
  }
    where
      by : (n : ℕ) → is_there n of.rows ≡ true → is_there n made.rows ≡ true
      by n there = let now = at_new n in grind (arith, there, now)

  made_scopes : HasScopes old of → HasScopes new made
  made_scopes has key text n is = by (bytes_eq scope.key key && bytes_eq scope.scope text) refl (put key text)
    where
      by : (b : Bool) → bytes_eq scope.key key && bytes_eq scope.scope text ≡ b → maps new key text ≡ (if b then Some scope.number else maps old key text) → has_registration (is_of key text) n made.rows ≡ true
      by true same law =
          let own : row.number ≡ n = grind (arith, law, is, number_is_its) in
          let now = at_new row.number in
          let here : registration_at row.number made.rows ≡ Some row = grind (arith, nat_tests, now, none_yet) in
          let passes : is_of key text row ≡ true = cc (same, key_is, scope_is) in
          subst (λ (m : ℕ). has_registration (is_of key text) m made.rows ≡ true) own (grind (arith, here, passes))
      by false other law = stays (is_of key text) n (has key text n (sym law ∙ is))

  pub made_linked : (of_workers : workers.Table) (of_clients : clients.Table) → length of.rows < of_clients.known → Linked old of_workers of of_clients → Linked new of_workers made of_clients
  made_linked of_workers of_clients known linked = record {
    slots = made_slots of_workers linked.slots;
    mapped = made_scopes linked.mapped;
    noted = linked.noted;
    known = subst (λ (rs : List RegistrationRow). length rs ≤ of_clients.known) (sym rows) (let long = length-append of.rows (row ∷ []) in omega (arith, known, long));
  }

-- ---- a registration that gets another field

-- a change of rows that touches neither number, key, scope nor slots
pub record Harmless (g : RegistrationRow → RegistrationRow) : Type 0 where
  pub number_same : (x : RegistrationRow) → (g x).number ≡ x.number
  pub key_same : (x : RegistrationRow) → (g x).key ≡ x.key
  pub scope_same : (x : RegistrationRow) → (g x).scope ≡ x.scope
  pub slots_same : (at : Slot) (x : RegistrationRow) → registrations.in_slot at (g x) ≡ registrations.in_slot at x

module _ (n : ℕ) (f : RegistrationRow → RegistrationRow) (keeps : Harmless f) where
  abbrev at_n : RegistrationRow → RegistrationRow
  at_n x = if x.number == n then f x else x

  at_n_number : (x : RegistrationRow) → (at_n x).number ≡ x.number
  at_n_number x = by (x.number == n)
    where
      by : (b : Bool) → (if b then f x else x).number ≡ x.number
      by true = keeps.number_same x
      by false = refl

  at_n_text : (key scope : List ℕ) (x : RegistrationRow) → is_of key scope (at_n x) ≡ is_of key scope x
  at_n_text key scope x = by (x.number == n)
    where
      by : (b : Bool) → is_of key scope (if b then f x else x) ≡ is_of key scope x
      by true = let k = keeps.key_same x in let s = keeps.scope_same x in cc (k, s)
      by false = refl

  at_n_slots : (at : Slot) (x : RegistrationRow) → registrations.in_slot at (at_n x) ≡ registrations.in_slot at x
  at_n_slots at x = by (x.number == n)
    where
      by : (b : Bool) → registrations.in_slot at (if b then f x else x) ≡ registrations.in_slot at x
      by true = keeps.slots_same at x
      by false = refl

  found_now : (k : ℕ) (rows : List RegistrationRow) → registration_at k (map at_n rows) ≡ option_map at_n (registration_at k rows)
  found_now k rows = find_same (registrations.is_registration k) at_n (λ x. ap (λ (m : ℕ). m == k) (at_n_number x)) rows

  slot_now : (at : Slot) (k : ℕ) (rows : List RegistrationRow) → slot_of at k (map at_n rows) ≡ slot_of at k rows
  slot_now at k rows = ap (option_and_then (registrations.in_slot at)) (found_now k rows) ∙ by (registration_at k rows)
    where
      by : (o : Option RegistrationRow) → option_and_then (registrations.in_slot at) (option_map at_n o) ≡ option_and_then (registrations.in_slot at) o
      by None = refl
      by (Some x) = at_n_slots at x

  there_now : (k : ℕ) (rows : List RegistrationRow) → is_there k (map at_n rows) ≡ is_there k rows
  there_now k rows = ap is_some (found_now k rows) ∙ by (registration_at k rows)
    where
      by : (o : Option RegistrationRow) → is_some (option_map at_n o) ≡ is_some o
      by None = refl
      by (Some x) = refl

  text_now : (key scope : List ℕ) (k : ℕ) (rows : List RegistrationRow) → has_registration (is_of key scope) k (map at_n rows) ≡ has_registration (is_of key scope) k rows
  text_now key scope k rows = ap (λ (o : Option RegistrationRow). option_map_or (is_of key scope) o false) (found_now k rows) ∙ by (registration_at k rows)
    where
      by : (o : Option RegistrationRow) → option_map_or (is_of key scope) (option_map at_n o) false ≡ option_map_or (is_of key scope) o false
      by None = refl
      by (Some x) = at_n_text key scope x

  numbers_now : (rows : List RegistrationRow) → map number (map at_n rows) ≡ map number rows
  numbers_now [] = refl
  numbers_now (x ∷ xs) = let first = at_n_number x in let rest = numbers_now xs in cc (first, rest)

  -- what was linked stays so
  pub harmless_linked : (scopes : Scopes) (of_workers : workers.Table) (old : registrations.Table) (of_clients : clients.Table)
      → Linked scopes of_workers old of_clients → Linked scopes of_workers (record old { rows = changed (registrations.is_registration n) f old.rows }) of_clients
  harmless_linked scopes of_workers old of_clients linked = record {
    slots = record {
      worker_places = linked.slots.worker_places;
      registration_places = numbers_now old.rows ∙ linked.slots.registration_places ∙ ap (range_with_len 0) (sym (length-map old.rows at_n));
      rows = λ k w there.
          let was = linked.slots.rows k w there in
          record {
            owner = there_now w.registration old.rows ∙ was.owner;
            slots = λ at standing. slot_now at w.registration old.rows ∙ was.slots at standing;
            handler = was.handler;
          };
      filled = λ at k m is. linked.slots.filled at k m (sym (slot_now at k old.rows) ∙ is);
      events = linked.slots.events;
    };
    mapped = λ key scope k is. text_now key scope k old.rows ∙ linked.mapped key scope k is;
    noted = linked.noted;
    known = subst (λ (m : ℕ). m ≤ of_clients.known) (sym (length-map old.rows at_n)) linked.known;
  }

pub mode_harmless : (mode : Mode) → Harmless (with_mode mode)
mode_harmless mode = record {
  number_same = λ x. refl;
  key_same = λ x. refl;
  scope_same = λ x. refl;
  slots_same = by;
}
  where
    by : (at : Slot) (x : RegistrationRow) → registrations.in_slot at (with_mode mode x) ≡ registrations.in_slot at x
    by slot.Installing x = refl
    by slot.Waiting x = refl
    by slot.Active x = refl

pub owed_harmless : (owed : Bool) → Harmless (with_owed owed)
owed_harmless owed = record {
  number_same = λ x. refl;
  key_same = λ x. refl;
  scope_same = λ x. refl;
  slots_same = by;
}
  where
    by : (at : Slot) (x : RegistrationRow) → registrations.in_slot at (with_owed owed x) ≡ registrations.in_slot at x
    by slot.Installing x = refl
    by slot.Waiting x = refl
    by slot.Active x = refl
