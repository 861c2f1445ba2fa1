-- A row that stands last in a table, and what a change makes of it.
use Rattle.std.proofs.Common.{◌≡◌, ◌∙◌, ℕ, ◌+◌, Bool, true, false, ◌==◌, ◌&&◌, List, [], ◌∷◌, ◌++◌, map, Option, Some, None, option_map, length, refl, sym, ap, arith}
use Rattle.std.specs.List.{range_with_len}
use Rattle.std.specs.Option.{option_map_or}
use Rattle.std.specs.Prelude.{find, is_none, is_some}
use Rattle.std.proofs.lemmas.Bool.{and_parts}
use Rattle.std.proofs.lemmas.Bool.Decides.{nat_tests}
use Rattle.std.proofs.lemmas.List.Folds.{find-append}
use Rattle.sw_data.specs.declared.rows.RegistrationRow.{RegistrationRow}
use Rattle.sw_data.specs.declared.rows.WorkerRow.{WorkerRow}
use Rattle.sw_data.specs.declared.workers.WorkerState.{WorkerState}
use Rattle.sw_data.specs.declared.workers.WorkerState.TheVariants as worker_state
use Rattle.sw_reg.specs.Table.{firsts, has_first, has_registration, is_registration, registration_at}
use Rattle.sw_data.specs.declared.storage.KeptWorker.{KeptWorker}
use Rattle.sw_data.specs.declared.workers.Mode.{Mode}
use Rattle.sw_reg.specs.Edits.{new_registration, with_active, with_installing, with_waiting}
use Rattle.sw_core.specs.Parts.{is_fresh}
use Rattle.sw_core.specs.Rows.{raised, seated, worker_row}
use Rattle.sw_rules.specs.Restart.{no_handlers}
use Rattle.sw_rules.specs.Rows.{changed}
use Rattle.sw_tables.proofs.Rows.{at_changed, no_row, within}
use Rattle.sw_tables.proofs.Shown.{changed_twice}
use Rattle.sw_tables.specs.Linked.{ArePlaces}
use Rattle.sw_tables.specs.Parts.{is_parsed}
use Rattle.sw_worker.specs.Edits.{advanced, new_worker}
use Rattle.sw_rules.specs.State.{FetchEvent}
use Rattle.sw_worker.specs.Table as workers
use Rattle.sw_worker.specs.Table.{has_worker, is_idle, is_worker, may_advance, may_follow, worker_at}

module _ {X : Type 0} (number : X → ℕ) (f : X → X) where
  last_from : (base : ℕ) (xs : List X) (x : X) → map number xs ≡ range_with_len base (length xs) → number x ≡ base + length xs
      → changed (λ row. number row == number x) f (xs ++ x ∷ []) ≡ xs ++ f x ∷ []
  last_from base [] x are is = grind (arith, nat_tests)
  last_from base (y ∷ ys) x are is =
      let here : number y ≡ base = cc in
      let rest : map number ys ≡ range_with_len (base + 1) (length ys) = cc in
      let later = last_from (base + 1) ys x rest (omega (arith, is)) in
      grind (arith, nat_tests, here, is, later)

  -- the last row is changed alone
  pub changed_last : (xs : List X) (x : X) (n : ℕ) → ArePlaces number xs → number x ≡ n → n ≡ length xs
      → changed (λ row. number row == n) f (xs ++ x ∷ []) ≡ xs ++ f x ∷ []
  changed_last xs x n are own place =
      ap (λ (m : ℕ). changed (λ row. number row == m) f (xs ++ x ∷ [])) (sym own)
      ∙ last_from 0 xs x are (omega (arith, own, place))

-- the last row is found
pub found_last : {X : Type 0} (number : X → ℕ) (xs : List X) (x : X) (n : ℕ) → ArePlaces number xs → number x ≡ n → n ≡ length xs
    → find (λ row. number row == n) (xs ++ x ∷ []) ≡ Some x
found_last number xs x n are own place =
    let none = no_row number (λ row. number row == n) xs are
    (λ y there. let below = within number (number y) xs y are there in grind (arith, nat_tests, below, place)) in
    grind (arith, nat_tests, find-append (λ row. number row == n) xs (x ∷ []), none, own)

-- ---- what holds of a row that was changed

pub worker_changed : (test : WorkerRow → Bool) (f : WorkerRow → WorkerRow) → ((row : WorkerRow) → (f row).number ≡ row.number) → (worker : ℕ) (rows : List WorkerRow)
    → has_worker test worker (changed (is_worker worker) f rows) ≡ has_worker (λ row. test (f row)) worker rows
worker_changed test f keeps worker rows =
    ap (λ o. option_map_or test o false) (at_changed (λ row. row.number) f keeps worker rows) ∙ by (worker_at worker rows)
  where
    by : (o : Option WorkerRow) → option_map_or test (option_map f o) false ≡ option_map_or (λ row. test (f row)) o false
    by None = refl
    by (Some row) = refl

pub registration_changed : (test : RegistrationRow → Bool) (f : RegistrationRow → RegistrationRow) → ((row : RegistrationRow) → (f row).number ≡ row.number) → (number : ℕ) (rows : List RegistrationRow)
    → has_registration test number (changed (is_registration number) f rows) ≡ has_registration (λ row. test (f row)) number rows
registration_changed test f keeps number rows =
    ap (λ o. option_map_or test o false) (at_changed (λ row. row.number) f keeps number rows) ∙ by (registration_at number rows)
  where
    by : (o : Option RegistrationRow) → option_map_or test (option_map f o) false ≡ option_map_or (λ row. test (f row)) o false
    by None = refl
    by (Some row) = refl

-- what passes one test passes a weaker one
weaker : {X : Type 0} (p q : X → Bool) → ((x : X) → p x ≡ true → q x ≡ true) → (o : Option X) → option_map_or p o false ≡ true → option_map_or q o false ≡ true
weaker p q follows None is = is
weaker p q follows (Some x) is = follows x is

-- ---- a worker goes on from parsed

fresh_by : (state : WorkerState) (idle : Bool) → (is_parsed state && idle) ≡ true → may_follow state worker_state.Installing ≡ true
fresh_by worker_state.Parsed idle is = refl
fresh_by worker_state.Installing idle is = absurd cc
fresh_by worker_state.Installed idle is = absurd cc
fresh_by worker_state.Activating idle is = absurd cc
fresh_by worker_state.Activated idle is = absurd cc
fresh_by worker_state.Redundant idle is = absurd cc

pub may_install : (worker : ℕ) (rows : List WorkerRow) → has_worker is_fresh worker rows ≡ true → may_advance worker worker_state.Installing rows ≡ true
may_install worker rows is =
    weaker is_fresh (λ row. may_follow row.state worker_state.Installing) (λ row fresh. fresh_by row.state (is_none row.handler) fresh) (worker_at worker rows) is

-- it may go on from the state that it has got
may_go_on : (worker : ℕ) (from to : WorkerState) (rows : List WorkerRow) → may_follow from to ≡ true → has_worker is_fresh worker rows ≡ true
    → may_advance worker to (changed (is_worker worker) (advanced from) rows) ≡ true
may_go_on worker from to rows follows is =
    worker_changed (λ row. may_follow row.state to) (advanced from) (λ row. refl) worker rows
    ∙ weaker is_fresh (λ row. may_follow from to) (λ row fresh. follows) (worker_at worker rows) is

-- of two states it has the second
pub advanced_twice : (worker : ℕ) (from to : WorkerState) (rows : List WorkerRow)
    → changed (is_worker worker) (advanced to) (changed (is_worker worker) (advanced from) rows) ≡ changed (is_worker worker) (advanced to) rows
advanced_twice worker from to rows = changed_twice (is_worker worker) (advanced to) (advanced from) (λ row. refl) rows

pub may_wait : (worker : ℕ) (rows : List WorkerRow) → has_worker is_fresh worker rows ≡ true
    → may_advance worker worker_state.Installed (changed (is_worker worker) (advanced worker_state.Installing) rows) ≡ true
may_wait worker rows is = may_go_on worker worker_state.Installing worker_state.Installed rows refl is

pub may_activate : (worker : ℕ) (rows : List WorkerRow) → has_worker is_fresh worker rows ≡ true
    → may_advance worker worker_state.Activating (changed (is_worker worker) (advanced worker_state.Installed) rows) ≡ true
may_activate worker rows is = may_go_on worker worker_state.Installed worker_state.Activating rows refl is

pub may_end : (worker : ℕ) (rows : List WorkerRow) → has_worker is_fresh worker rows ≡ true
    → may_advance worker worker_state.Activated (changed (is_worker worker) (advanced worker_state.Activating) rows) ≡ true
may_end worker rows is = may_go_on worker worker_state.Activating worker_state.Activated rows refl is

pub is_idle_still : (worker : ℕ) (to : WorkerState) (rows : List WorkerRow) → has_worker is_fresh worker rows ≡ true
    → has_worker is_idle worker (changed (is_worker worker) (advanced to) rows) ≡ true
is_idle_still worker to rows is =
    worker_changed is_idle (advanced to) (λ row. refl) worker rows
    ∙ weaker is_fresh is_idle (λ row fresh. (and_parts (is_parsed row.state) (is_none row.handler) fresh).1) (worker_at worker rows) is

-- ---- a registration gets its workers

pub firsts_same : (number worker : ℕ) (rows : List RegistrationRow) → firsts (changed (is_registration number) (with_installing worker) rows) ≡ firsts rows
firsts_same number worker [] = refl
firsts_same number worker (x ∷ xs) = by (is_registration number x) (is_some x.first) refl refl (firsts_same number worker xs)
  where
    by : (here has : Bool) → is_registration number x ≡ here → is_some x.first ≡ has → firsts (changed (is_registration number) (with_installing worker) xs) ≡ firsts xs
        → firsts (changed (is_registration number) (with_installing worker) (x ∷ xs)) ≡ firsts (x ∷ xs)
    by true true is has-is later = grind (arith, is, has-is, later)
    by true false is has-is later = grind (arith, is, has-is, later)
    by false true is has-is later = grind (arith, is, has-is, later)
    by false false is has-is later = grind (arith, is, has-is, later)

pub has_waiting : (first number worker : ℕ) (rows : List RegistrationRow) → has_registration (λ row. is_none row.installing) number rows ≡ true
    → has_registration (λ row. is_some row.waiting) number (changed (is_registration number) (with_waiting first) (changed (is_registration number) (with_installing worker) rows)) ≡ true
has_waiting first number worker rows is =
    registration_changed (λ row. is_some row.waiting) (with_waiting first) (λ row. refl) number (changed (is_registration number) (with_installing worker) rows)
    ∙ (registration_changed (λ row. is_some row.installing) (with_installing worker) (λ row. refl) number rows
    ∙ weaker (λ row. is_none row.installing) (λ row. true) (λ row has. refl) (registration_at number rows) is)

pub has_installing : (number worker : ℕ) (rows : List RegistrationRow) → has_registration (λ row. is_none row.installing) number rows ≡ true
    → has_registration (λ row. is_some row.installing) number (changed (is_registration number) (with_installing worker) rows) ≡ true
has_installing number worker rows is =
    registration_changed (λ row. is_some row.installing) (with_installing worker) (λ row. refl) number rows
    ∙ weaker (λ row. is_none row.installing) (λ row. true) (λ row has. refl) (registration_at number rows) is

pub seated_rows : (first number worker : ℕ) (rows : List RegistrationRow)
    → changed (is_registration number) with_active (changed (is_registration number) (with_waiting first) (changed (is_registration number) (with_installing worker) rows))
    ≡ changed (is_registration number) (seated first worker) rows
seated_rows first number worker rows =
    ap (changed (is_registration number) with_active) (changed_twice (is_registration number) (with_waiting first) (with_installing worker) (λ row. refl) rows)
    ∙ changed_twice (is_registration number) with_active (λ row. with_waiting first (with_installing worker row)) (λ row. refl) rows

-- a registration that was made last gets its workers
pub new_empty : (rows mid : List RegistrationRow) (n number : ℕ) (key scope : List ℕ) (mode : Mode) → ArePlaces (λ (row : RegistrationRow). row.number) rows → number ≡ length rows → n ≡ number
    → mid ≡ rows ++ new_registration number key scope mode ∷ [] → has_registration (λ row. is_none row.installing) n mid ≡ true
new_empty rows mid n number key scope mode are last own is =
    ap (λ (rs : List RegistrationRow). has_registration (λ row. is_none row.installing) n rs) is
    ∙ ap (λ (o : Option RegistrationRow). option_map_or (λ row. is_none row.installing) o false)
    (found_last (λ (row : RegistrationRow). row.number) rows (new_registration number key scope mode) n are (sym own) (own ∙ last))

firsts_still : (rows : List RegistrationRow) (row : RegistrationRow) → is_some row.first ≡ false → firsts (rows ++ row ∷ []) ≡ firsts rows
firsts_still [] row none = grind (arith, none)
firsts_still (x ∷ xs) row none = by (has_first x) refl (firsts_still xs row none)
  where
    by : (b : Bool) → has_first x ≡ b → firsts (xs ++ row ∷ []) ≡ firsts xs → firsts (x ∷ xs ++ row ∷ []) ≡ firsts (x ∷ xs)
    by true is later = grind (arith, is, later)
    by false is later = grind (arith, is, later)

pub seated_last : (rows mid : List RegistrationRow) (n number worker : ℕ) (key scope : List ℕ) (mode : Mode) → ArePlaces (λ (row : RegistrationRow). row.number) rows → number ≡ length rows → n ≡ number
    → mid ≡ rows ++ new_registration number key scope mode ∷ []
    → changed (is_registration n) (seated (firsts mid) worker) mid ≡ rows ++ seated (firsts rows) worker (new_registration number key scope mode) ∷ []
seated_last rows mid n number worker key scope mode are last own is =
    let new = new_registration number key scope mode in
    let same : firsts mid ≡ firsts rows = ap firsts is ∙ firsts_still rows new refl in
    ap (λ (k : ℕ). changed (is_registration n) (seated k worker) mid) same
    ∙ (ap (λ (rs : List RegistrationRow). changed (is_registration n) (seated (firsts rows) worker) rs) is
    ∙ changed_last (λ (row : RegistrationRow). row.number) (seated (firsts rows) worker) rows new n are (sym own) (own ∙ last))

-- a worker that was made last is raised
pub new_fresh : (rows mid : List WorkerRow) (n number registration : ℕ) (kept : KeptWorker) → ArePlaces (λ (row : WorkerRow). row.number) rows → number ≡ length rows → n ≡ number
    → mid ≡ rows ++ new_worker number registration kept.script kept.kind kept.body None no_handlers ∷ [] → has_worker is_fresh n mid ≡ true
new_fresh rows mid n number registration kept are last own is =
    ap (λ (rs : List WorkerRow). has_worker is_fresh n rs) is
    ∙ ap (λ (o : Option WorkerRow). option_map_or is_fresh o false)
    (found_last (λ (row : WorkerRow). row.number) rows (new_worker number registration kept.script kept.kind kept.body None no_handlers) n are (sym own) (own ∙ last))

pub raised_last : (rows mid : List WorkerRow) (n number registration : ℕ) (kept : KeptWorker) (activated : Bool) → ArePlaces (λ (row : WorkerRow). row.number) rows → number ≡ length rows → n ≡ number
    → mid ≡ rows ++ new_worker number registration kept.script kept.kind kept.body None no_handlers ∷ []
    → changed (is_worker n) (raised activated) mid ≡ rows ++ worker_row number registration kept activated ∷ []
raised_last rows mid n number registration kept activated are last own is =
    ap (λ (rs : List WorkerRow). changed (is_worker n) (raised activated) rs) is
    ∙ changed_last (λ (row : WorkerRow). row.number) (raised activated) rows (new_worker number registration kept.script kept.kind kept.body None no_handlers) n are (sym own) (own ∙ last)

-- a table by its parts
pub table_is : (table : workers.Table) (rows : List WorkerRow) (events : List FetchEvent) (spare : ℕ) → table.rows ≡ rows → table.events ≡ events → table.spare_events ≡ spare
    → table ≡ record { rows = rows; events = events; spare_rows = table.spare_rows; spare_events = spare }
table_is table rows events spare rows-are events-are spare-is =
    ap (λ (rs : List WorkerRow). record table { rows = rs }) rows-are
    ∙ (ap (λ (es : List FetchEvent). record table { rows = rows; events = es }) events-are
    ∙ ap (λ (n : ℕ). record table { rows = rows; events = events; spare_events = n }) spare-is)
