-- The counts of addAlls that have not settled, where rows of workers change.
use Rattle.std.proofs.Common.{◌≡◌, ◌∙◌, ℕ, ◌+◌, Bool, true, false, ◌&&◌, ◌==◌, List, [], ◌∷◌, ◌++◌, Option, Some, None, option_map, refl, sym, ap, arith, if◌then◌else◌}
use Rattle.std.specs.Prelude.{is_none, IfSome}
use Rattle.std.specs.Option.{option_map_or}
use Rattle.std.proofs.lemmas.Bool.Decides.{nat_tests}
use Rattle.sw_data.specs.declared.rows.HandlerRow.{HandlerRow}
use Rattle.sw_data.specs.declared.rows.WorkerRow.{WorkerRow}
use Rattle.sw_data.specs.declared.workers.Phase.{Phase}
use Rattle.sw_data.specs.declared.workers.WorkerState.{WorkerState}
use Rattle.sw_data.specs.declared.workers.WorkerState.TheVariants as worker_state
use Rattle.sw_rules.specs.Rows.{changed}
use Rattle.sw_tables.proofs.Lives.{Rests}
use Rattle.sw_tables.proofs.Waiting.{Waits}
use Rattle.sw_tables.proofs.Rows.{at_changed, at_others, find_same, found_number}
use Rattle.sw_tables.specs.Ends.{is_in}
use Rattle.sw_tables.specs.Happened.{KeepCounts, unsettled_of}
use Rattle.sw_tables.specs.Shifts.{retired}
use Rattle.sw_worker.specs.Edits.{advanced, call_counted, with_handler}
use Rattle.sw_worker.specs.Table as workers
use Rattle.sw_worker.specs.Table.{has_calls_left, has_worker, is_worker, worker_at}

-- how many addAlls of its handler a row counts as not settled
abbrev counted : WorkerRow → ℕ
counted row = option_map_or (λ handler. handler.unsettled) row.handler 0

abbrev counted_in : Option WorkerRow → ℕ
counted_in row = option_map_or counted row 0

-- ---- rows that change

module _ (test : WorkerRow → Bool) (f : WorkerRow → WorkerRow) (numbers : (x : WorkerRow) → (f x).number ≡ x.number) where
  abbrev turned : WorkerRow → WorkerRow
  turned row = if test row then f row else row

  turned_number : (n : ℕ) (x : WorkerRow) → ((turned x).number == n) ≡ (x.number == n)
  turned_number n x = by (test x)
    where
      by : (b : Bool) → ((if b then f x else x).number == n) ≡ (x.number == n)
      by true = ap (λ m. m == n) (numbers x)
      by false = refl

  -- the counts stay where each row that is found and passes keeps its own
  changed_counts : (rows : List WorkerRow) → ((n : ℕ) (x : WorkerRow) → worker_at n rows ≡ Some x → test x ≡ true → counted (f x) ≡ counted x)
      → (n : ℕ) → unsettled_of n (changed test f rows) ≡ unsettled_of n rows
  changed_counts rows keeps n = ap counted_in (find_same (is_worker n) turned (turned_number n) rows) ∙ by (worker_at n rows) refl
    where
      one : (x : WorkerRow) (b : Bool) → worker_at n rows ≡ Some x → test x ≡ b → counted (if b then f x else x) ≡ counted x
      one x true is passes = keeps n x is passes
      one x false is passes = refl

      by : (o : Option WorkerRow) → worker_at n rows ≡ o → counted_in (option_map turned o) ≡ counted_in o
      by None is = refl
      by (Some x) is = one x (test x) is refl

  changed_keeps : (old new : workers.Table) → new ≡ record old { rows = changed test f old.rows }
      → ((n : ℕ) (x : WorkerRow) → worker_at n old.rows ≡ Some x → test x ≡ true → counted (f x) ≡ counted x) → KeepCounts old new
  changed_keeps old new is keeps n = ap (λ (t : workers.Table). unsettled_of n t.rows) is ∙ changed_counts old.rows keeps n

  -- each row keeps its own
  pub plainly : (old new : workers.Table) → new ≡ record old { rows = changed test f old.rows }
      → ((x : WorkerRow) → counted (f x) ≡ counted x) → KeepCounts old new
  plainly old new is keeps = changed_keeps old new is (λ n x there passes. keeps x)

-- ---- a worker more

more : (rows : List WorkerRow) (new : WorkerRow) → counted new ≡ 0 → (n : ℕ) → unsettled_of n (rows ++ new ∷ []) ≡ unsettled_of n rows
more [] new none n = by (is_worker n new)
  where
    by : (b : Bool) → counted_in (if b then Some new else None) ≡ 0
    by true = none
    by false = refl
more (x ∷ xs) new none n = by (is_worker n x) (more xs new none n)
  where
    by : (b : Bool) → unsettled_of n (xs ++ new ∷ []) ≡ unsettled_of n xs
        → counted_in (if b then Some x else worker_at n (xs ++ new ∷ [])) ≡ counted_in (if b then Some x else worker_at n xs)
    by true later = refl
    by false later = later

-- a worker that is added has no handler
pub more_keeps : (old new : workers.Table) (x : WorkerRow) → x.handler ≡ None → new.rows ≡ old.rows ++ x ∷ [] → KeepCounts old new
more_keeps old new x none is number =
    ap (unsettled_of number) is ∙ more old.rows x (ap (λ o. option_map_or (λ (handler : HandlerRow). handler.unsettled) o 0) none) number

-- ---- a handler ends, or makes a call

-- the row of a worker that passes the test of its number
found_counts : (worker : ℕ) (rows : List WorkerRow) (n : ℕ) (x : WorkerRow) → worker_at n rows ≡ Some x → is_worker worker x ≡ true → counted x ≡ unsettled_of worker rows
found_counts worker rows n x there passes =
    let own = found_number (λ row. row.number) n rows x there in
    let same : n ≡ worker = grind (arith, nat_tests, own, passes) in
    ap counted_in (sym there) ∙ ap (λ m. unsettled_of m rows) same

-- what is left counts nothing, and nothing was counted
pub counts_nothing : (worker : ℕ) (f : WorkerRow → WorkerRow) → ((x : WorkerRow) → (f x).number ≡ x.number) → ((x : WorkerRow) → counted (f x) ≡ 0)
    → (old new : workers.Table) → new ≡ record old { rows = changed (is_worker worker) f old.rows } → unsettled_of worker old.rows ≡ 0 → KeepCounts old new
counts_nothing worker f numbers nothing old new is none =
    changed_keeps (is_worker worker) f numbers old new is
    (λ n x there passes. nothing x ∙ sym (found_counts worker old.rows n x there passes ∙ none))

-- a worker that rests has no handler
pub rest_counts : (test : WorkerState → Bool) (registration worker : ℕ) (row : WorkerRow) (old : workers.Table) → Rests test registration worker row old → unsettled_of worker old.rows ≡ 0
rest_counts test registration worker row old known = ap counted_in known.here ∙ by row.handler known.handler
  where
    by : (o : Option HandlerRow) → is_none o ≡ true → option_map_or (λ handler. handler.unsettled) o 0 ≡ 0
    by None is = refl
    by (Some handler) is = absurd cc

-- a worker whose handler has come to its end
pub settled_counts : (of : Phase) (worker : ℕ) (rows : List WorkerRow) (row : WorkerRow) (ended : Option HandlerRow) (handler : HandlerRow)
    → worker_at worker rows ≡ Some row → ended ≡ Some handler → IfSome ended (λ h. (row.handler ≡ Some h) × (is_in of h.phase ≡ true)) → IfSome ended (λ h. h.unsettled ≡ 0)
    → unsettled_of worker rows ≡ 0
settled_counts of worker rows row None handler there is runs settled = absurd cc
settled_counts of worker rows row (Some h) handler there is runs settled =
    ap counted_in there ∙ (ap (λ o. option_map_or (λ (x : HandlerRow). x.unsettled) o 0) runs.0 ∙ settled)

module _ (worker : ℕ) (fault task : Bool) (rows : List WorkerRow) (left : has_worker has_calls_left worker rows ≡ true) where
  abbrev noted : WorkerRow → WorkerRow
  noted row = with_handler (call_counted fault task) row

  one_more : (o : Option HandlerRow) (calls : HandlerRow → Bool) → option_map_or calls o false ≡ true
      → option_map_or (λ handler. handler.unsettled) (option_map (call_counted fault task) o) 0
      ≡ (if task then option_map_or (λ handler. handler.unsettled) o 0 + 1 else option_map_or (λ handler. handler.unsettled) o 0)
  one_more None calls is = absurd cc
  one_more (Some handler) calls is = refl

  own_count : (o : Option WorkerRow) → option_map_or has_calls_left o false ≡ true → counted_in (option_map noted o) ≡ (if task then counted_in o + 1 else counted_in o)
  own_count None is = absurd cc
  own_count (Some x) is = one_more x.handler _ is

  pub called_counts : (n : ℕ) → unsettled_of n (changed (is_worker worker) noted rows) ≡ (if task && n == worker then unsettled_of n rows + 1 else unsettled_of n rows)
  called_counts n = by (n == worker) refl
    where
      own : (b : Bool) → (n ≡ worker) → b ≡ true → unsettled_of n (changed (is_worker worker) noted rows) ≡ (if task && b then unsettled_of n rows + 1 else unsettled_of n rows)
      own b same is =
          let found = ap counted_in (at_changed (λ row. row.number) noted (λ x. refl) worker rows) ∙ own_count (worker_at worker rows) left in
          grind (arith, same, is, found)

      by : (b : Bool) → (n == worker) ≡ b → unsettled_of n (changed (is_worker worker) noted rows) ≡ (if task && b then unsettled_of n rows + 1 else unsettled_of n rows)
      by true is = own true (grind (arith, nat_tests, is)) refl
      by false is = by_task task
        where
          by_task : (t : Bool) → unsettled_of n (changed (is_worker worker) noted rows) ≡ (if t && false then unsettled_of n rows + 1 else unsettled_of n rows)
          by_task true = ap counted_in (at_others (λ row. row.number) noted (λ x. refl) n worker is rows)
          by_task false = ap counted_in (at_others (λ row. row.number) noted (λ x. refl) n worker is rows)

-- ---- a worker that leaves its slot

pub retired_keeps : (worker : Option ℕ) (old new : workers.Table) → new ≡ record old { rows = retired worker old.rows } → KeepCounts old new
retired_keeps None old new is = λ number. ap (λ (t : workers.Table). unsettled_of number t.rows) is
retired_keeps (Some worker) old new is =
    plainly (is_worker worker) (advanced worker_state.Redundant) (λ x. refl) old new is (λ x. refl)

-- a waiting worker has no handler
pub waiting_counts : (registration worker : ℕ) (row : WorkerRow) (old : workers.Table) → Waits registration worker row old → unsettled_of worker old.rows ≡ 0
waiting_counts registration worker row old known = ap counted_in known.here ∙ by row.handler known.handler
  where
    by : (o : Option HandlerRow) → is_none o ≡ true → option_map_or (λ handler. handler.unsettled) o 0 ≡ 0
    by None is = refl
    by (Some handler) is = absurd cc
