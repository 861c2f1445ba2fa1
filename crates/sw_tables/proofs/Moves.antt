-- Workers of one registration go on, and its slots with them: the tables stay linked.
use Rattle.std.proofs.Common.{◌≡◌, ◌∙◌, ◌&&◌, ℕ, Bool, true, false, ◌==◌, List, [], ◌∷◌, All, map, Option, Some, None, option_map, option_and_then, length, refl, sym, ap, subst, arith, if◌then◌else◌}
use Rattle.std.specs.Prelude.{bytes_eq, is_some, slice_index_or}
use Rattle.std.specs.List.{list_any, range_with_len}
use Rattle.std.specs.Option.{option_map_or}
use Rattle.std.proofs.lemmas.Bool.{and_parts}
use Rattle.std.proofs.lemmas.Bool.Decides.{nat_tests}
use Rattle.std.proofs.lemmas.List.Folds.{list_any_at}
use Rattle.sw_client.specs.declared.OpenClient.{OpenClient}
use Rattle.sw_data.specs.declared.rows.RegistrationRow.{RegistrationRow}
use Rattle.sw_data.specs.declared.rows.WorkerRow.{WorkerRow}
use Rattle.sw_data.specs.declared.workers.Slot.{Slot}
use Rattle.sw_reg.specs.Table as registrations
use Rattle.sw_reg.specs.Table.{has_registration, is_registration, registration_at, slot_of}
use Rattle.sw_rules.specs.Rows.{changed, in_slot}
use Rattle.sw_tables.proofs.Rows.{at_changed, at_others, find_same}
use Rattle.sw_tables.specs.Linked.{ArePlaces, HasSlots, IsNoted, StandsRight, registration_of, runs_handler}
use Rattle.sw_tables.specs.Parts.{StayLinked}
use Rattle.sw_worker.specs.Table as workers
use Rattle.sw_worker.specs.Table.{has_worker, is_activated, is_on, is_worker, worker_at}

-- ---- rows that are there

pub there : {X : Type 0} (test : X → Bool) (o : Option X) → option_map_or test o false ≡ true → (x : X) × (o ≡ Some x) × (test x ≡ true)
there test None is = absurd cc
there test (Some x) is = (x, refl, is)

pub passing : {X : Type 0} (test : X → Bool) (o : Option X) (x : X) → o ≡ Some x → test x ≡ true → option_map_or test o false ≡ true
passing test o x is passes = cc (is, passes)

length_map : {X Y : Type 0} (f : X → Y) (xs : List X) → length (map f xs) ≡ length xs
length_map f [] = refl
length_map f (x ∷ xs) = grind (arith, length_map f xs)

map_seen : {X Y : Type 0} (g : X → Y) (f : X → X) → ((x : X) → g (f x) ≡ g x) → (xs : List X) → map g (map f xs) ≡ map g xs
map_seen g f same [] = refl
map_seen g f same (x ∷ xs) = cc (same x, map_seen g f same xs)

pub are_places : {X : Type 0} (number : X → ℕ) (f : X → X) → ((x : X) → number (f x) ≡ number x) → (xs : List X) → ArePlaces number xs → ArePlaces number (map f xs)
are_places number f keeps xs are = map_seen number f keeps xs ∙ (are ∙ ap (range_with_len 0) (sym (length_map f xs)))

-- ---- registrations that keep their names

-- own: registrations keep their names, and one has these slots
pub record Goes (registration : ℕ) (slots : Slot → Option ℕ) (from to : registrations.Table) : Type 0 where
  pub places : ArePlaces (λ row. row.number) from.rows → ArePlaces (λ row. row.number) to.rows
  pub count : length to.rows ≡ length from.rows
  pub there : (q : ℕ) → registrations.is_there q to.rows ≡ registrations.is_there q from.rows
  pub names : (key scope : List ℕ) (q : ℕ)
      → has_registration (λ row. bytes_eq row.key key && bytes_eq row.scope scope) q to.rows
      ≡ has_registration (λ row. bytes_eq row.key key && bytes_eq row.scope scope) q from.rows
  pub others : (place : Slot) (q : ℕ) → (q == registration) ≡ false → slot_of place q to.rows ≡ slot_of place q from.rows
  pub become : (place : Slot) → slot_of place registration to.rows ≡ slots place

pub goes_same : (registration : ℕ) (of : registrations.Table) → Goes registration (λ place. slot_of place registration of.rows) of of
goes_same registration of = record {
  places = λ are. are;
  count = refl;
  there = λ q. refl;
  names = λ key scope q. refl;
  others = λ place q other. refl;
  become = λ place. refl;
}

-- own: the slots of a registration after an edit of its row
abbrev pub slots_after : (RegistrationRow → RegistrationRow) → ℕ → registrations.Table → Slot → Option ℕ
slots_after edit registration from place =
    option_and_then (λ row. registrations.in_slot place (edit row)) (registration_at registration from.rows)

-- own: an edit of a registration's row keeps its name
pub record KeepsName (edit : RegistrationRow → RegistrationRow) : Type 0 where
  pub number : (row : RegistrationRow) → (edit row).number ≡ row.number
  pub key : (row : RegistrationRow) → (edit row).key ≡ row.key
  pub scope : (row : RegistrationRow) → (edit row).scope ≡ row.scope

module _ (registration : ℕ) (edit : RegistrationRow → RegistrationRow) (keeps : KeepsName edit) where
  abbrev one : RegistrationRow → RegistrationRow
  one row = if is_registration registration row then edit row else row

  one_number : (row : RegistrationRow) → (one row).number ≡ row.number
  one_number row = by (is_registration registration row)
    where
      by : (b : Bool) → (if b then edit row else row).number ≡ row.number
      by true = keeps.number row
      by false = refl

  at_one : (q : ℕ) (rows : List RegistrationRow) → registration_at q (map one rows) ≡ option_map one (registration_at q rows)
  at_one q rows = find_same (is_registration q) one (λ row. ap (λ n. n == q) (one_number row)) rows

  named_same : (key scope : List ℕ) (b : Bool) (row : RegistrationRow) → (let new = if b then edit row else row in bytes_eq new.key key && bytes_eq new.scope scope) ≡ (bytes_eq row.key key && bytes_eq row.scope scope)
  named_same key scope true row = cc (keeps.key row, keeps.scope row)
  named_same key scope false row = refl

  seen_same : (test : RegistrationRow → Bool) → ((row : RegistrationRow) → test (one row) ≡ test row) → (o : Option RegistrationRow) → option_map_or test (option_map one o) false ≡ option_map_or test o false
  seen_same test same None = refl
  seen_same test same (Some row) = same row

  there_same : (o : Option RegistrationRow) → is_some (option_map one o) ≡ is_some o
  there_same None = refl
  there_same (Some row) = refl

  slots_edited : (place : Slot) (rows : List RegistrationRow) → slot_of place registration (map one rows) ≡ option_and_then (λ row. registrations.in_slot place (edit row)) (registration_at registration rows)
  slots_edited place rows =
      ap (λ o. option_and_then (registrations.in_slot place) o)
      (at_changed (λ row. row.number) edit keeps.number registration rows) ∙ by (registration_at registration rows)
    where
      by : (o : Option RegistrationRow) → option_and_then (registrations.in_slot place) (option_map edit o) ≡ option_and_then (λ row. registrations.in_slot place (edit row)) o
      by None = refl
      by (Some row) = refl

  -- one registration is edited
  pub goes_edited : (from to : registrations.Table) → to.rows ≡ changed (is_registration registration) edit from.rows
      → Goes registration (slots_after edit registration from) from to
  goes_edited from to is = record {
    places = λ are. rw is (are_places (λ row. row.number) one one_number from.rows are);
    count = ap length is ∙ length_map one from.rows;
    there = λ q. ap (registrations.is_there q) is ∙ (ap is_some (at_one q from.rows) ∙ there_same (registration_at q from.rows));
    names = λ key scope q.
        let test = λ (row : RegistrationRow). bytes_eq row.key key && bytes_eq row.scope scope in
        ap (has_registration test q) is
        ∙ (ap (λ o. option_map_or test o false) (at_one q from.rows)
        ∙ seen_same test (λ row. named_same key scope (is_registration registration row) row) (registration_at q from.rows));
    others = λ place q other.
        ap (slot_of place q) is
        ∙ ap (λ o. option_and_then (registrations.in_slot place) o)
        (at_others (λ row. row.number) edit keeps.number q registration other from.rows);
    become = λ place. ap (slot_of place registration) is ∙ slots_edited place from.rows;
  }

-- ---- what stays linked

pub stay_linked : (old new : workers.Table) (from to : registrations.Table) (registration : ℕ) (slots : Slot → Option ℕ) → Goes registration slots from to → ((n : ℕ) → registration_of new.rows n ≡ registration_of old.rows n)
    → (HasSlots old from → HasSlots new to) → StayLinked old from new to
stay_linked old new from to registration slots goes same moved scopes of_clients linked = record {
  slots = moved linked.slots;
  mapped = λ key scope q is. goes.names key scope q ∙ linked.mapped key scope q is;
  noted = λ k d below. noted_still (slice_index_or of_clients.rows k d) (linked.noted k d below);
  known = omega (arith, goes.count, linked.known);
}
  where
    noted_still : (row : OpenClient) → IsNoted old row → IsNoted new row
    noted_still row noted = record {
      registration = noted.registration ∙ by row.client.controller;
      controller = noted.controller;
    }
      where
        by : (o : Option ℕ) → option_and_then (registration_of old.rows) o ≡ option_and_then (registration_of new.rows) o
        by None = refl
        by (Some n) = sym (same n)

-- ---- workers of one registration go on

-- own: the workers of a registration go on by this edit, and its slots become these
pub record Move (registration : ℕ) (edit : WorkerRow → WorkerRow) (slots : Slot → Option ℕ) (old new : workers.Table) (from to : registrations.Table) : Type 0 where
  pub goes : Goes registration slots from to
  pub rows : new.rows ≡ map edit old.rows
  pub number : (row : WorkerRow) → (edit row).number ≡ row.number
  pub owner : (row : WorkerRow) → (edit row).registration ≡ row.registration
  pub apart : (n : ℕ) (row : WorkerRow) → worker_at n old.rows ≡ Some row → (row.registration == registration) ≡ false → edit row ≡ row
  pub handler : (n : ℕ) (row : WorkerRow) → worker_at n old.rows ≡ Some row → (row.registration == registration) ≡ true → is_some (edit row).handler ≡ true → runs_handler (edit row).state ≡ true
  pub stands : (place : Slot) (n : ℕ) (row : WorkerRow) → worker_at n old.rows ≡ Some row → (row.registration == registration) ≡ true → in_slot place (edit row).state ≡ true → slots place ≡ Some n
  pub filled : (place : Slot) (n : ℕ) → slots place ≡ Some n → has_worker (λ row. row.registration == registration && in_slot place (edit row).state) n old.rows ≡ true
  pub events : All (λ event. has_worker is_activated event.worker new.rows ≡ true) new.events

pub same_number : (a b : ℕ) → (a == b) ≡ true → a ≡ b
same_number a b is = grind (arith, nat_tests, is)

module _ (registration : ℕ) (edit : WorkerRow → WorkerRow) (slots : Slot → Option ℕ) (old new : workers.Table) (from to : registrations.Table) (move : Move registration edit slots old new from to) where
  at_new : (n : ℕ) → worker_at n new.rows ≡ option_map edit (worker_at n old.rows)
  at_new n = ap (worker_at n) move.rows ∙ find_same (is_worker n) edit (λ row. ap (λ m. m == n) (move.number row)) old.rows

  owner_kept : (n : ℕ) → registration_of new.rows n ≡ registration_of old.rows n
  owner_kept n = ap (λ o. option_map (λ row. row.registration) o) (at_new n) ∙ by (worker_at n old.rows)
    where
      by : (o : Option WorkerRow) → option_map (λ row. row.registration) (option_map edit o) ≡ option_map (λ row. row.registration) o
      by None = refl
      by (Some row) = ap (λ m. Some m) (move.owner row)

  stands_right : (n : ℕ) (row : WorkerRow) → worker_at n old.rows ≡ Some row → StandsRight from n row → StandsRight to n (edit row)
  stands_right n row is right = by (row.registration == registration) refl
    where
      owner : registrations.is_there (edit row).registration to.rows ≡ true
      owner = ap (λ q. registrations.is_there q to.rows) (move.owner row) ∙ (move.goes.there row.registration ∙ right.owner)

      by : (b : Bool) → (row.registration == registration) ≡ b → StandsRight to n (edit row)
      by true here = record {
        owner = owner;
        slots = λ place in_place.
            ap (λ q. slot_of place q to.rows) (move.owner row ∙ same_number row.registration registration here)
            ∙ (move.goes.become place ∙ move.stands place n row is here in_place);
        handler = move.handler n row is here;
      }
      by false other =
          let same = move.apart n row is other in
          record {
            owner = owner;
            slots = λ place in_place.
                ap (λ q. slot_of place q to.rows) (move.owner row)
                ∙ (move.goes.others place row.registration other
                ∙ right.slots place (ap (λ (w : WorkerRow). in_slot place w.state) (sym same) ∙ in_place));
            handler = λ runs. ap (λ (w : WorkerRow). runs_handler w.state) same
                ∙ right.handler (ap (λ (w : WorkerRow). is_some w.handler) (sym same) ∙ runs);
          }

  rows_right : HasSlots old from → (n : ℕ) (row : WorkerRow) → worker_at n new.rows ≡ Some row → StandsRight to n row
  rows_right has n row is = by (worker_at n old.rows) refl
    where
      by : (o : Option WorkerRow) → worker_at n old.rows ≡ o → StandsRight to n row
      by None none = absurd (cc (is, none, at_new n))
      by (Some before) found =
          let same : edit before ≡ row = cc (is, found, at_new n) in
          subst (StandsRight to n) same (stands_right n before found (has.rows n before found))

  abbrev stands_in : ℕ → Slot → WorkerRow → Bool
  stands_in q place row = row.registration == q && in_slot place row.state

  filled_still : HasSlots old from → (place : Slot) (q n : ℕ) → slot_of place q to.rows ≡ Some n → has_worker (stands_in q place) n new.rows ≡ true
  filled_still has place q n is = by (q == registration) refl
    where
      from_old : (test : WorkerRow → Bool) → ((row : WorkerRow) → worker_at n old.rows ≡ Some row → test row ≡ true → stands_in q place (edit row) ≡ true) → has_worker test n old.rows ≡ true → has_worker (stands_in q place) n new.rows ≡ true
      from_old test goes_on was =
          let found = there test (worker_at n old.rows) was in
          passing (stands_in q place) (worker_at n new.rows) (edit found.0)
          (at_new n ∙ ap (option_map edit) found.1) (goes_on found.0 found.1 found.2)

      by : (b : Bool) → (q == registration) ≡ b → has_worker (stands_in q place) n new.rows ≡ true
      by true here =
          let same = same_number q registration here in
          from_old (λ row. row.registration == registration && in_slot place (edit row).state)
          (λ row found passes. cc (passes, same, move.owner row))
          (move.filled place n (sym (move.goes.become place) ∙ (ap (λ r. slot_of place r to.rows) (sym same) ∙ is)))
      by false other =
          from_old (stands_in q place)
          (λ row found passes.
          let parts = and_parts (row.registration == q) (in_slot place row.state) passes in
          cc (passes, move.apart n row found (cc (same_number row.registration q parts.0, other))))
          (has.filled place q n (sym (move.goes.others place q other) ∙ is))

  pub moved : HasSlots old from → HasSlots new to
  moved has = record {
    worker_places = rw move.rows (are_places (λ row. row.number) edit move.number old.rows has.worker_places);
    registration_places = move.goes.places has.registration_places;
    rows = rows_right has;
    filled = filled_still has;
    events = move.events;
  }

  pub moved_linked : StayLinked old from new to
  moved_linked = stay_linked old new from to registration slots move.goes owner_kept moved

-- the events of a table whose activated workers stay so
pub events_stay : (edit : WorkerRow → WorkerRow) (old new : workers.Table) → ((n : ℕ) → worker_at n new.rows ≡ option_map edit (worker_at n old.rows))
    → ((n : ℕ) (row : WorkerRow) → worker_at n old.rows ≡ Some row → list_any (is_on n) old.events ≡ true → is_activated row ≡ true → is_activated (edit row) ≡ true) → new.events ≡ old.events
    → All (λ event. has_worker is_activated event.worker old.rows ≡ true) old.events → All (λ event. has_worker is_activated event.worker new.rows ≡ true) new.events
events_stay edit old new at stay same were =
    subst (All (λ event. has_worker is_activated event.worker new.rows ≡ true)) (sym same)
    (λ k d below. let n = (slice_index_or old.events k d).worker in one n (list_any_at (is_on n) old.events k d below (grind (arith, nat_tests))) (were k d below))
  where
    one : (n : ℕ) → list_any (is_on n) old.events ≡ true → has_worker is_activated n old.rows ≡ true → has_worker is_activated n new.rows ≡ true
    one n on was =
        let found = there is_activated (worker_at n old.rows) was in
        passing is_activated (worker_at n new.rows) (edit found.0) (at n ∙ ap (option_map edit) found.1) (stay n found.0 found.1 on found.2)
