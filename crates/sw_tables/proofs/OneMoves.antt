-- One worker goes on, and the slots of its registration with it.
use Rattle.std.proofs.Common.{◌≡◌, ◌∙◌, ◌&&◌, ℕ, Bool, true, false, ◌==◌, map, Option, Some, None, option_map, refl, sym, ap, subst, true≢false, arith, if◌then◌else◌}
use Rattle.std.specs.Prelude.{is_some}
use Rattle.std.specs.List.{list_any}
use Rattle.std.specs.Option.{option_map_or}
use Rattle.std.proofs.lemmas.Bool.{and_parts}
use Rattle.std.proofs.lemmas.Bool.Decides.{nat_tests}
use Rattle.sw_data.specs.declared.rows.HandlerRow.{HandlerRow}
use Rattle.sw_data.specs.declared.rows.WorkerRow.{WorkerRow}
use Rattle.sw_data.specs.declared.workers.Slot.{Slot}
use Rattle.sw_data.specs.declared.workers.WorkerState.{WorkerState}
use Rattle.sw_reg.specs.Table as registrations
use Rattle.sw_reg.specs.Table.{slot_of}
use Rattle.sw_rules.specs.Rows.{changed, in_slot}
use Rattle.sw_tables.proofs.Moves.{Goes, Move, events_stay, goes_same, moved, moved_linked, passing, same_number, there}
use Rattle.sw_tables.proofs.Rows.{at_changed, find_same, found_number}
use Rattle.sw_tables.specs.Linked.{HasSlots, StandsRight, runs_handler}
use Rattle.sw_tables.specs.Parts.{StayLinked, is_of_in, rests_in}
use Rattle.sw_worker.specs.Edits.{call_counted, ended, skipping, with_handler}
use Rattle.sw_worker.specs.Table as workers
use Rattle.sw_worker.specs.Table.{has_worker, is_activated, is_on, is_worker, worker_at}

-- ---- one worker goes on

pub same_some : {X : Type 0} (o : Option X) (x y : X) → o ≡ Some x → o ≡ Some y → x ≡ y
same_some o x y a b = cc (a, b)

-- own: one worker of a registration goes on by this edit, and the registration's slots become these
pub record OneMove (registration worker : ℕ) (row : WorkerRow) (edit : WorkerRow → WorkerRow) (slots : Slot → Option ℕ) (old new : workers.Table) (from to : registrations.Table) : Type 0 where
  pub goes : Goes registration slots from to
  pub of : row.registration ≡ registration
  pub here : worker_at worker old.rows ≡ Some row
  pub is : new ≡ record old { rows = changed (is_worker worker) edit old.rows }
  pub number : (x : WorkerRow) → (edit x).number ≡ x.number
  pub owner : (x : WorkerRow) → (edit x).registration ≡ x.registration
  pub handler : is_some (edit row).handler ≡ true → runs_handler (edit row).state ≡ true
  pub activated : list_any (is_on worker) old.events ≡ true → is_activated row ≡ true → is_activated (edit row) ≡ true
  -- it stands in a slot; one that it enters was empty, one that it leaves becomes so, and the others stay
  pub stands : (place : Slot) → in_slot place (edit row).state ≡ true → slots place ≡ Some worker
  pub enters : (place : Slot) → in_slot place (edit row).state ≡ true → in_slot place row.state ≡ false → slot_of place registration from.rows ≡ None
  pub leaves : (place : Slot) → in_slot place (edit row).state ≡ false → in_slot place row.state ≡ true → slots place ≡ None
  pub stays : (place : Slot) → in_slot place (edit row).state ≡ false → in_slot place row.state ≡ false → slots place ≡ slot_of place registration from.rows

-- the worker in a slot stands there
pub stands_there : (old : workers.Table) (from : registrations.Table) (place : Slot) (registration worker : ℕ) (row : WorkerRow) → HasSlots old from → worker_at worker old.rows ≡ Some row
    → slot_of place registration from.rows ≡ Some worker → (in_slot place row.state ≡ true) × (row.registration ≡ registration)
stands_there old from place registration worker row has here is =
    let found = there (λ x. x.registration == registration && in_slot place x.state) (worker_at worker old.rows) (has.filled place registration worker is) in
    let parts = and_parts (found.0.registration == registration) (in_slot place found.0.state) found.2 in
    let same = same_some (worker_at worker old.rows) row found.0 here found.1 in (
      ap (λ (x : WorkerRow). in_slot place x.state) same ∙ parts.1,
      ap (λ (x : WorkerRow). x.registration) same ∙ same_number found.0.registration registration parts.0,
    )

module _ (registration worker : ℕ) (row : WorkerRow) (edit : WorkerRow → WorkerRow) (slots : Slot → Option ℕ) (old new : workers.Table) (from to : registrations.Table) (move : OneMove registration worker row edit slots old new from to) (has : HasSlots old from) where
  abbrev at_one_worker : WorkerRow → WorkerRow
  at_one_worker x = if is_worker worker x then edit x else x

  -- what holds of the row that is edited holds of it, and of the others as they are
  each : (P : WorkerRow → WorkerRow → Type 0) (n : ℕ) (x : WorkerRow) → worker_at n old.rows ≡ Some x → ((n ≡ worker) → P row (edit row)) → ((n == worker) ≡ false → P x x) → P x (at_one_worker x)
  each P n x is here other = by (is_worker worker x) refl
    where
      number_is : x.number ≡ n
      number_is = found_number (λ r. r.number) n old.rows x is

      by : (b : Bool) → is_worker worker x ≡ b → P x (if b then edit x else x)
      by true own =
          let same : n ≡ worker = sym number_is ∙ same_number x.number worker own in
          subst (λ y. P y (edit y)) (same_some (worker_at worker old.rows) row x move.here (ap (λ m. worker_at m old.rows) (sym same) ∙ is)) (here same)
      by false not_own = other (ap (λ m. m == worker) (sym number_is) ∙ not_own)

  -- the slots in which another worker stands stay
  others : (place : Slot) (n : ℕ) → (n == worker) ≡ false → slot_of place registration from.rows ≡ Some n → slots place ≡ Some n
  others place n other is = by (in_slot place row.state) (in_slot place (edit row).state) refl refl
    where
      by : (b a : Bool) → in_slot place row.state ≡ b → in_slot place (edit row).state ≡ a → slots place ≡ Some n
      by true a was will =
          let own : slot_of place registration from.rows ≡ Some worker = ap (λ q. slot_of place q from.rows) (sym move.of) ∙ (has.rows worker row move.here).slots place was in
          absurd (grind (arith, nat_tests, own, is, other))
      by false true was will = absurd (cc (move.enters place will was, is))
      by false false was will = move.stays place will was ∙ is

  abbrev stands_now : Slot → WorkerRow → Bool
  stands_now place x = x.registration == registration && in_slot place (at_one_worker x).state

  filled_now : (place : Slot) (n : ℕ) → slots place ≡ Some n → has_worker (stands_now place) n old.rows ≡ true
  filled_now place n is = by (in_slot place (edit row).state) (in_slot place row.state) refl refl
    where
      by : (a b : Bool) → in_slot place (edit row).state ≡ a → in_slot place row.state ≡ b → has_worker (stands_now place) n old.rows ≡ true
      by true b will was =
          let own : n ≡ worker = grind (arith, is, move.stands place will) in
          let at : worker_at n old.rows ≡ Some row = ap (λ m. worker_at m old.rows) own ∙ move.here in
          passing (stands_now place) (worker_at n old.rows) row at
          (each (λ y z. (y.registration == registration && in_slot place z.state) ≡ true) n row at
          (λ same. grind (arith, nat_tests, move.of, will)) (λ other. absurd (grind (arith, nat_tests, own, other))))
      by false true will was = absurd (cc (move.leaves place will was, is))
      by false false will was =
          let before : slot_of place registration from.rows ≡ Some n = sym (move.stays place will was) ∙ is in
          let found = there (λ x. x.registration == registration && in_slot place x.state) (worker_at n old.rows) (has.filled place registration n before) in
          passing (stands_now place) (worker_at n old.rows) found.0 found.1
          (each (λ y z. (y.registration == registration && in_slot place y.state) ≡ true → (y.registration == registration && in_slot place z.state) ≡ true) n found.0 found.1
          (λ same passes. absurd (true≢false (sym (and_parts (row.registration == registration) (in_slot place row.state) passes).1 ∙ was))) (λ other passes. passes) found.2)

  part_kept : (part : WorkerRow → ℕ) → ((y : WorkerRow) → part (edit y) ≡ part y) → (x : WorkerRow) → part (at_one_worker x) ≡ part x
  part_kept part same x = by (is_worker worker x)
    where
      by : (b : Bool) → part (if b then edit x else x) ≡ part x
      by true = same x
      by false = refl

  rows_now : new.rows ≡ map at_one_worker old.rows
  rows_now = ap (λ (t : workers.Table). t.rows) move.is

  one_moves : Move registration at_one_worker slots old new from to
  one_moves = record {
    goes = move.goes;
    rows = rows_now;
    number = part_kept (λ r. r.number) move.number;
    owner = part_kept (λ r. r.registration) move.owner;
    apart = λ n x is differs. each (λ y z. (y.registration == registration) ≡ false → z ≡ y) n x is
        (λ same differ. absurd (grind (arith, nat_tests, move.of, differ))) (λ other differ. refl) differs;
    handler = λ n x is here. each (λ y z. is_some z.handler ≡ true → runs_handler z.state ≡ true) n x is
        (λ same. move.handler) (λ other. (has.rows n x is).handler);
    stands = λ place n x is here. each (λ y z. in_slot place z.state ≡ true → slots place ≡ Some n) n x is
        (λ same in_place. move.stands place in_place ∙ ap (λ m. Some m) (sym same))
        (λ other in_place. others place n other (ap (λ q. slot_of place q from.rows) (sym (same_number x.registration registration here)) ∙ (has.rows n x is).slots place in_place));
    filled = filled_now;
    events = events_stay at_one_worker old new
        (λ n. ap (worker_at n) rows_now ∙ find_same (is_worker n) at_one_worker (λ x. ap (λ m. m == n) (part_kept (λ r. r.number) move.number x)) old.rows)
        (λ n x is. each (λ y z. list_any (is_on n) old.events ≡ true → is_activated y ≡ true → is_activated z ≡ true) n x is (λ same on. move.activated (ap (λ m. list_any (is_on m) old.events) (sym same) ∙ on)) (λ other on was. was))
        (ap (λ (t : workers.Table). t.events) move.is) has.events;
  }

  pub one_moved : HasSlots new to
  one_moved = moved registration at_one_worker slots old new from to one_moves has

  pub one_linked : StayLinked old from new to
  one_linked = moved_linked registration at_one_worker slots old new from to one_moves

-- ---- a worker that stays where it is

-- own: an edit of a worker's row changes neither its state nor its registration, and starts no handler
pub record StaysPut (edit : WorkerRow → WorkerRow) : Type 0 where
  pub number : (row : WorkerRow) → (edit row).number ≡ row.number
  pub owner : (row : WorkerRow) → (edit row).registration ≡ row.registration
  pub state : (row : WorkerRow) → (edit row).state ≡ row.state
  pub handler : (row : WorkerRow) → is_some (edit row).handler ≡ true → is_some row.handler ≡ true

put_move : (worker : ℕ) (edit : WorkerRow → WorkerRow) (old new : workers.Table) (of : registrations.Table) → StaysPut edit → HasSlots old of → (row : WorkerRow) → worker_at worker old.rows ≡ Some row
    → new ≡ record old { rows = changed (is_worker worker) edit old.rows } → OneMove row.registration worker row edit (λ place. slot_of place row.registration of.rows) old new of of
put_move worker edit old new of put has row here is = record {
  goes = goes_same row.registration of;
  of = refl;
  here = here;
  is = is;
  number = put.number;
  owner = put.owner;
  handler = λ runs. ap (λ s. runs_handler s) (put.state row) ∙ right.handler (put.handler row runs);
  activated = λ on was. cc (put.state row, was);
  stands = λ place in_place. right.slots place (ap (λ s. in_slot place s) (sym (put.state row)) ∙ in_place);
  enters = λ place will was. absurd (cc (put.state row, will, was));
  leaves = λ place will was. absurd (cc (put.state row, will, was));
  stays = λ place will was. refl;
}
  where
    right : StandsRight of worker row
    right = has.rows worker row here

module _ (test : WorkerRow → Bool) (worker : ℕ) (edit : WorkerRow → WorkerRow) (old new : workers.Table) (of : registrations.Table) (put : StaysPut edit) (has : HasSlots old of) (here : has_worker test worker old.rows ≡ true)
    (is : new ≡ record old { rows = changed (is_worker worker) edit old.rows }) where
  pub put_slots : HasSlots new of
  put_slots =
      let found = there test (worker_at worker old.rows) here in
      one_moved _ worker found.0 edit _ old new of of (put_move worker edit old new of put has found.0 found.1 is) has

  pub put_linked : StayLinked old of new of
  put_linked =
      let found = there test (worker_at worker old.rows) here in
      one_linked _ worker found.0 edit _ old new of of (put_move worker edit old new of put has found.0 found.1 is) has

pub ended_puts : StaysPut ended
ended_puts = record { number = λ row. refl; owner = λ row. refl; state = λ row. refl; handler = λ row runs. absurd cc }

-- the handler that runs goes on
handler_there : (on : HandlerRow → HandlerRow) (handler : Option HandlerRow) → is_some (option_map on handler) ≡ true → is_some handler ≡ true
handler_there on None is = is
handler_there on (Some handler) is = refl

pub call_puts : (fault task : Bool) → StaysPut (with_handler (call_counted fault task))
call_puts fault task = record {
  number = λ row. refl;
  owner = λ row. refl;
  state = λ row. refl;
  handler = λ row runs. handler_there (call_counted fault task) row.handler runs;
}

-- a worker rests once its handler has ended
pub ended_rests : (test : WorkerState → Bool) (registration worker : ℕ) (old new : workers.Table)
    → new ≡ record old { rows = changed (is_worker worker) ended old.rows }
    → has_worker (is_of_in test registration) worker old.rows ≡ true → has_worker (rests_in test registration) worker new.rows ≡ true
ended_rests test registration worker old new is has =
    ap (λ o. option_map_or (rests_in test registration) o false)
    (ap (λ (t : workers.Table). worker_at worker t.rows) is
    ∙ at_changed (λ (row : WorkerRow). row.number) ended (λ row. refl) worker old.rows)
    ∙ by (worker_at worker old.rows) has
  where
    by : (o : Option WorkerRow) → option_map_or (is_of_in test registration) o false ≡ true
        → option_map_or (rests_in test registration) (option_map ended o) false ≡ true
    by None has_one = has_one
    by (Some row) has_one = grind (arith, has_one)

pub skipping_puts : StaysPut skipping
skipping_puts = record { number = λ row. refl; owner = λ row. refl; state = λ row. refl; handler = λ row runs. runs }

pub is_there_passes : {X : Type 0} (o : Option X) → is_some o ≡ true → option_map_or (λ x. true) o false ≡ true
is_there_passes None is = is
is_there_passes (Some x) is = is
