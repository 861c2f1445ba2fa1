-- An addAll settles: the state that is left, the links between the tables, and the counts of unsettled addAlls.
use Rattle.std.proofs.Common.{◌≡◌, ◌∙◌, ◌+◌, ◌<◌, ◌==◌, ℕ, Bool, true, false, List, [], ◌∷◌, filter, map, length, Option, Some, None, option_map, option_and_then, is_some, refl, sym, ap, arith, subst, if◌then◌else◌}
use Rattle.std.specs.Prelude.{find, is_none, nat_lt, IfSome}
use Rattle.std.specs.List.{range_with_len}
use Rattle.std.specs.Option.{option_map_or}
use Rattle.std.proofs.lemmas.Bool.Decides.{nat_tests}
use Rattle.sw_cachestorage.proofs.Scans.{past_stay}
use Rattle.sw_cachestorage.specs.Added.{maker_of, noted_settled}
use Rattle.sw_data.specs.declared.answers.Settlement.{Settlement}
use Rattle.sw_data.specs.declared.rows.HandlerRow.{HandlerRow}
use Rattle.sw_data.specs.declared.rows.WorkerRow.{WorkerRow}
use Rattle.sw_ledgers.specs.Tasks as tasks
use Rattle.sw_ledgers.specs.Tasks.{has_task}
use Rattle.sw_reg.specs.Table as registrations
use Rattle.sw_rules.specs.Caching.{is_maker, noted_task, settle_task}
use Rattle.sw_rules.specs.Rows.{changed, is_number, is_task, is_unsettled_of, maker_worker}
use Rattle.sw_rules.specs.State.{AddAll, Worker}
use Rattle.sw_state.specs.Hosted.{Hosted, IsJoined, rest_of, state_of}
use Rattle.sw_tables.proofs.OneMoves.{StaysPut, put_linked}
use Rattle.sw_tables.proofs.Rows.{at_changed, at_others}
use Rattle.sw_tables.proofs.Shown.{seen_changed}
use Rattle.sw_tables.specs.Happened.{CountsTasks, unsettled_of}
use Rattle.sw_tables.specs.Lent.{lent, shown_worker}
use Rattle.sw_tables.specs.Linked.{ArePlaces, Linked}
use Rattle.sw_tables.specs.Parts.{StayLinked}
use Rattle.sw_worker.specs.Edits.{task_counted, with_handler}
use Rattle.sw_worker.specs.Table as workers
use Rattle.sw_worker.specs.Table.{has_unsettled, has_worker, is_worker, worker_at}

abbrev noted : Bool → WorkerRow → WorkerRow
noted fault row = with_handler (task_counted fault) row

-- ---- the state

noted_shown : (fault : Bool) (row : WorkerRow) → shown_worker (noted fault row) ≡ record (shown_worker row) { handler = option_map (noted_task fault) (shown_worker row).handler }
noted_shown fault row = by row.handler refl
  where
    by : (handler : Option HandlerRow) → row.handler ≡ handler → shown_worker (noted fault row) ≡ record (shown_worker row) { handler = option_map (noted_task fault) (shown_worker row).handler }
    by None is = cc is
    by (Some handler) is = cc is

nobody : (on : Worker → Worker) (rows : List Worker) → rows ≡ changed (is_maker None) on rows
nobody on [] = refl
nobody on (row ∷ rows) = ap (λ rest. row ∷ rest) (nobody on rows)

workers_shown : (maker : Option ℕ) (fault : Bool) (rows : List WorkerRow)
    → map shown_worker (noted_settled maker fault rows) ≡ changed (is_maker maker) (λ row. record row { handler = option_map (noted_task fault) row.handler }) (map shown_worker rows)
workers_shown None fault rows = nobody (λ row. record row { handler = option_map (noted_task fault) row.handler }) (map shown_worker rows)
workers_shown (Some worker) fault rows =
    seen_changed shown_worker (is_worker worker) (noted fault) (is_maker (Some worker)) (λ row. record row { handler = option_map (noted_task fault) row.handler })
    (λ row. grind (arith, nat_tests)) (noted_shown fault) rows

module _ (task : ℕ) (value : Settlement) (fault : Bool) (maker : Option ℕ) (host : Hosted) (of_workers : workers.Table) (of_tasks : tasks.Table)
    (made : maker ≡ maker_of task host.tasks.rows) (settles : of_tasks.rows ≡ changed (is_task task) (λ row. record row { settled = Some value }) host.tasks.rows)
    (notes : of_workers ≡ record host.workers { rows = noted_settled maker fault host.workers.rows }) where
  pub settled_state : state_of (record host { workers = of_workers; tasks = of_tasks }) ≡ (settle_task (state_of host) task value fault).state
  unfolding settle_task
  settled_state =
      (λ i. lent host.scopes (notes i) host.registrations host.clients (record (rest_of host) { tasks = settles i }))
      ∙ (λ i. record (state_of host) {
        tasks = changed (is_task task) (λ row. record row { settled = Some value }) host.tasks.rows;
        workers = workers_shown (made i) fault host.workers.rows i;
      })

-- ---- the links

puts : (fault : Bool) → StaysPut (noted fault)
puts fault = record { number = λ row. refl; owner = λ row. refl; state = λ row. refl; handler = λ row runs. there row.handler runs }
  where
    there : (handler : Option HandlerRow) → is_some (option_map (task_counted fault) handler) ≡ true → is_some handler ≡ true
    there None is = is
    there (Some handler) is = refl

still_linked : (fault : Bool) (old new : workers.Table) (of : registrations.Table) (maker : Option ℕ) → IfSome maker (λ number. has_worker has_unsettled number old.rows ≡ true)
    → new ≡ record old { rows = noted_settled maker fault old.rows } → StayLinked old of new of
still_linked fault old new of None counted is scopes of_clients linked = subst (λ table. Linked scopes table of of_clients) (sym is) linked
still_linked fault old new of (Some worker) counted is scopes of_clients linked =
    put_linked has_unsettled worker (noted fault) old new of (puts fault) linked.slots counted is scopes of_clients linked

-- ---- the counts

abbrev one_if : Bool → ℕ
one_if b = if b then 1 else 0

module _ (task : ℕ) (value : Settlement) where
  abbrev settled : AddAll → AddAll
  settled row = record row { settled = Some value }

  less_from : (n base : ℕ) (rows : List AddAll) (row : AddAll) → map (λ r. r.number) rows ≡ range_with_len base (length rows) → find (is_task task) rows ≡ Some row → is_none row.settled ≡ true
      → length (filter (is_unsettled_of n) rows) ≡ length (filter (is_unsettled_of n) (changed (is_task task) settled rows)) + one_if (is_number (maker_worker row.maker) n)
  less_from n base [] row are found unsettled = absurd cc
  less_from n base (first ∷ rows) row are found unsettled =
      by (first.number == task) refl (λ there. less_from n (base + 1) rows row (cc) there unsettled)
    where
      here : first.number ≡ base
      here = cc

      rest_are : map (λ r. r.number) rows ≡ range_with_len (base + 1) (length rows)
      rest_are = cc

      here_counts : (b : Bool) → is_number (maker_worker first.maker) n ≡ b → (first.number == task) ≡ true → first ≡ row
          → length (filter (is_unsettled_of n) (first ∷ rows)) ≡ length (filter (is_unsettled_of n) (changed (is_task task) settled (first ∷ rows))) + one_if (is_number (maker_worker row.maker) n)
      here_counts b made own same =
          let stays = past_stay (λ (r : AddAll). r.number) settled task (base + 1) (grind (arith, nat_tests, here, own)) rows rest_are in
          grind (arith, made, own, same, stays, unsettled)

      by : (b : Bool) → (first.number == task) ≡ b
          → (find (is_task task) rows ≡ Some row → length (filter (is_unsettled_of n) rows) ≡ length (filter (is_unsettled_of n) (changed (is_task task) settled rows)) + one_if (is_number (maker_worker row.maker) n))
          → length (filter (is_unsettled_of n) (first ∷ rows)) ≡ length (filter (is_unsettled_of n) (changed (is_task task) settled (first ∷ rows))) + one_if (is_number (maker_worker row.maker) n)
      by true own rest = here_counts (is_number (maker_worker first.maker) n) refl own (cc (own, found))
      by false other rest =
          let later = rest (cc (other, found)) in
          grind (arith, other, later)

  -- one addAll of its maker less has not settled
  tasks_less : (n : ℕ) (tasks : List AddAll) → ArePlaces (λ row. row.number) tasks → has_task (λ row. is_none row.settled) task tasks ≡ true
      → length (filter (is_unsettled_of n) tasks) ≡ length (filter (is_unsettled_of n) (changed (is_task task) settled tasks)) + one_if (is_number (maker_of task tasks) n)
  tasks_less n tasks are there = by (find (is_task task) tasks) refl there
    where
      by : (o : Option AddAll) → find (is_task task) tasks ≡ o → option_map_or (λ row. is_none row.settled) o false ≡ true
          → length (filter (is_unsettled_of n) tasks) ≡ length (filter (is_unsettled_of n) (changed (is_task task) settled tasks)) + one_if (is_number (option_and_then (λ row. maker_worker row.maker) o) n)
      by None found is = absurd cc
      by (Some row) found is = less_from n 0 tasks row are found is

abbrev counted : Option HandlerRow → ℕ
counted handler = option_map_or (λ h. h.unsettled) handler 0

abbrev counted_in : Option WorkerRow → ℕ
counted_in row = option_map_or (λ r. counted r.handler) row 0

-- the handler of a worker counts one addAll less
workers_less : (fault : Bool) (n : ℕ) (rows : List WorkerRow) (maker : Option ℕ) → IfSome maker (λ number. has_worker has_unsettled number rows ≡ true)
    → unsettled_of n rows ≡ unsettled_of n (noted_settled maker fault rows) + one_if (is_number maker n)
workers_less fault n rows None has = let none : one_if (is_number None n) ≡ 0 = refl in omega (arith, none)
workers_less fault n rows (Some worker) has = by (worker == n) refl
  where
    one : (handler : Option HandlerRow) → option_map_or (λ h. nat_lt 0 h.unsettled) handler false ≡ true → counted handler ≡ counted (option_map (task_counted fault) handler) + 1
    one None is = absurd cc
    one (Some handler) is = grind (arith, nat_tests, is)

    own : (row : Option WorkerRow) → option_map_or has_unsettled row false ≡ true → counted_in row ≡ counted_in (option_map (noted fault) row) + 1
    own None is = absurd cc
    own (Some row) is = one row.handler is

    by : (b : Bool) → (worker == n) ≡ b → unsettled_of n rows ≡ unsettled_of n (changed (is_worker worker) (noted fault) rows) + one_if b
    by true is =
        let same : worker ≡ n = grind (arith, nat_tests, is) in
        let less = own (worker_at worker rows) has in
        let found = ap counted_in (at_changed (λ (row : WorkerRow). row.number) (noted fault) (λ row. refl) worker rows) in
        grind (arith, same, less, found)
    by false is =
        let other : (n == worker) ≡ false = grind (arith, nat_tests, is) in
        let stays = ap counted_in (at_others (λ (row : WorkerRow). row.number) (noted fault) (λ row. refl) n worker other rows) in
        omega (arith, stays)

settled_counts : (task : ℕ) (value : Settlement) (fault : Bool) (maker : Option ℕ) (tasks after : List AddAll) (old new : workers.Table)
    → maker ≡ maker_of task tasks → after ≡ changed (is_task task) (λ row. record row { settled = Some value }) tasks
    → new ≡ record old { rows = noted_settled maker fault old.rows }
    → ArePlaces (λ row. row.number) tasks → has_task (λ row. is_none row.settled) task tasks ≡ true
    → IfSome maker (λ number. has_worker has_unsettled number old.rows ≡ true) → CountsTasks old tasks → CountsTasks new after
settled_counts task value fault maker tasks after old new made is_after is are there counted counts n =
    let of_workers = workers_less fault n old.rows maker counted in
    let of_tasks = tasks_less task value n tasks are there in
    let same = counts n in
    let makers = ap (λ m. one_if (is_number m n)) made in
    let left = ap (λ (t : workers.Table). unsettled_of n t.rows) is in
    let right = ap (λ (rows : List AddAll). length (filter (is_unsettled_of n) rows)) is_after in
    omega (arith, of_workers, of_tasks, same, makers, left, right)

-- one that is found and passes is counted
passing : (found test : AddAll → Bool) (rows : List AddAll) (row : AddAll) → find found rows ≡ Some row → test row ≡ true → 0 < length (filter test rows)
passing found test [] row is passes = absurd cc
passing found test (first ∷ rows) row is passes = by (found first) (test first) refl refl (λ rest. passing found test rows row rest passes)
  where
    by : (f t : Bool) → found first ≡ f → test first ≡ t → (find found rows ≡ Some row → 0 < length (filter test rows)) → 0 < length (filter test (first ∷ rows))
    by f true one two later = let many : filter test (first ∷ rows) ≡ first ∷ filter test rows = cc two in subst (λ (list : List AddAll). 0 < length list) (sym many) (omega arith)
    by false false one two later =
        let rest : find found rows ≡ Some row = cc (one, is) in
        let many : filter test (first ∷ rows) ≡ filter test rows = cc two in
        subst (λ (list : List AddAll). 0 < length list) (sym many) (later rest)
    by true false one two later = let same : first ≡ row = cc (one, is) in absurd (cc (same, two, passes))

has_some : (worker : ℕ) (rows : List WorkerRow) → 0 < unsettled_of worker rows → has_worker has_unsettled worker rows ≡ true
has_some worker rows = by (worker_at worker rows)
  where
    inner : (row : WorkerRow) (found : Option HandlerRow) → row.handler ≡ found → 0 < counted found → has_unsettled row ≡ true
    inner row (Some handler) is more = let less : nat_lt 0 handler.unsettled ≡ true = grind (arith, nat_tests, more) in cc (is, less)
    inner row None is more = absurd (omega (arith, more))

    by : (found : Option WorkerRow) → 0 < counted_in found → option_map_or has_unsettled found false ≡ true
    by (Some row) more = inner row row.handler refl more
    by None more = absurd (omega (arith, more))

-- an addAll that has not settled is counted by the handler that made it
pub unsettled_counted : (of_workers : workers.Table) (rows : List AddAll) (task : ℕ) → has_task (λ row. is_none row.settled) task rows ≡ true → CountsTasks of_workers rows
    → IfSome (maker_of task rows) (λ worker. has_worker has_unsettled worker of_workers.rows ≡ true)
unsettled_counted of_workers rows task unsettled counts = by (find (is_task task) rows) refl unsettled
  where
    made : (row : AddAll) → find (is_task task) rows ≡ Some row → is_none row.settled ≡ true → (maker : Option ℕ) → maker_worker row.maker ≡ maker
        → IfSome maker (λ worker. has_worker has_unsettled worker of_workers.rows ≡ true)
    made row is open_ None none = tt
    made row is open_ (Some worker) of =
        let passes : is_unsettled_of worker row ≡ true = grind (arith, nat_tests, open_, of) in
        let more = passing (is_task task) (is_unsettled_of worker) rows row is passes in
        let count = counts worker in
        has_some worker of_workers.rows (omega (arith, more, count))

    by : (found : Option AddAll) → find (is_task task) rows ≡ found → option_map_or (λ row. is_none row.settled) found false ≡ true
        → IfSome (maker_of task rows) (λ worker. has_worker has_unsettled worker of_workers.rows ≡ true)
    by (Some row) is open_ =
        subst (λ (o : Option AddAll). IfSome (option_and_then (λ r. maker_worker r.maker) o) (λ worker. has_worker has_unsettled worker of_workers.rows ≡ true)) (sym is)
        (made row is open_ (maker_worker row.maker) refl)
    by None is open_ = absurd cc

-- the tables of a host belong together where an addAll has settled
pub settled_joined : (task : ℕ) (value : Settlement) (fault : Bool) (maker : Option ℕ) (host : Hosted) (of_workers : workers.Table) (of_tasks : tasks.Table)
    → maker ≡ maker_of task host.tasks.rows → of_tasks.rows ≡ changed (is_task task) (λ row. record row { settled = Some value }) host.tasks.rows
    → of_workers ≡ record host.workers { rows = noted_settled maker fault host.workers.rows }
    → ArePlaces (λ row. row.number) host.tasks.rows → has_task (λ row. is_none row.settled) task host.tasks.rows ≡ true
    → IsJoined host → IsJoined (record host { workers = of_workers; tasks = of_tasks })
settled_joined task value fault maker host of_workers of_tasks made settles notes are unsettled joined =
    let counted =
    subst (λ m. IfSome m (λ worker. has_worker has_unsettled worker host.workers.rows ≡ true)) (sym made)
    (unsettled_counted host.workers host.tasks.rows task unsettled joined.counts) in
    record {
      linked = still_linked fault host.workers of_workers host.registrations maker counted notes host.scopes host.clients joined.linked;
      counts = settled_counts task value fault maker host.tasks.rows of_tasks.rows host.workers of_workers made settles notes are unsettled counted joined.counts;
    }
