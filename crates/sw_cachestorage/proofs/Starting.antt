-- An addAll that goes on to its fetches: the tables of its host belong together.
use Rattle.std.proofs.Common.{◌≡◌, ◌∙◌, ◌+◌, ◌&&◌, ◌==◌, ℕ, Bool, true, false, List, [], ◌∷◌, ◌++◌, filter, length, Some, None, refl, sym, ap, arith, if◌then◌else◌}
use Rattle.std.proofs.lemmas.Bool.Decides.{nat_tests}
use Rattle.sw_cachestorage.specs.Adding.{added_by}
use Rattle.sw_cachestorage.specs.declared.adding.NewAddAll.{NewAddAll}
use Rattle.sw_ledgers.specs.Drawn as draws
use Rattle.sw_ledgers.specs.Tasks as tasks
use Rattle.sw_rules.specs.Caching.{add_task, new_task}
use Rattle.sw_rules.specs.Rows.{is_unsettled_of, maker_worker}
use Rattle.sw_rules.specs.State.{AddAll}
use Rattle.sw_rules.specs.Told.{Told, quiet}
use Rattle.sw_state.specs.Hosted.{Hosted, IsJoined, state_of}
use Rattle.sw_tables.specs.Happened.{CountsTasks, unsettled_of}
use Rattle.sw_tables.specs.Linked.{Linked}
use Rattle.sw_worker.specs.Table as workers

abbrev one_if : Bool → ℕ
one_if true = 1
one_if false = 0

one_more : (number : ℕ) (rows : List AddAll) (task : AddAll)
    → length (filter (is_unsettled_of number) (rows ++ task ∷ [])) ≡ length (filter (is_unsettled_of number) rows) + one_if (is_unsettled_of number task)
one_more number [] task = by (is_unsettled_of number task)
  where
    by : (b : Bool) → length (if b then task ∷ [] else []) ≡ 0 + one_if b
    by true = let one : one_if true ≡ 1 = refl in omega (arith, one)
    by false = let none : one_if false ≡ 0 = refl in omega (arith, none)
one_more number (row ∷ rows) task = grind (arith, one_more number rows task)

not_of_lane : (number : ℕ) (task : AddAll) → maker_worker task.maker ≡ None → is_unsettled_of number task ≡ false
not_of_lane number task lane = grind (arith, lane)

counts_of_lane : (of_workers : workers.Table) (old new : List AddAll) (task : AddAll) → new ≡ old ++ task ∷ [] → maker_worker task.maker ≡ None
    → CountsTasks of_workers old → CountsTasks of_workers new
counts_of_lane of_workers old new task is lane counts number =
    let more = one_more number old task in
    let not = not_of_lane number task lane in
    let before = counts number in
    let after = ap (λ (rows : List AddAll). length (filter (is_unsettled_of number) rows)) is in
    let none : one_if (is_unsettled_of number task) ≡ 0 = ap one_if not in
    omega (arith, before, after, more, none)

of_maker : (number worker : ℕ) (task : AddAll) → maker_worker task.maker ≡ Some worker → task.settled ≡ None → is_unsettled_of number task ≡ (number == worker)
of_maker number worker task made open_ = grind (arith, nat_tests, made, open_)

counts_of_call : (of_workers after_workers : workers.Table) (old new : List AddAll) (task : AddAll) (worker : ℕ) → new ≡ old ++ task ∷ [] → maker_worker task.maker ≡ Some worker
    → ((number : ℕ) → unsettled_of number after_workers.rows ≡ (if true && number == worker then unsettled_of number of_workers.rows + 1 else unsettled_of number of_workers.rows))
    → task.settled ≡ None → CountsTasks of_workers old → CountsTasks after_workers new
counts_of_call of_workers after_workers old new task worker is made counted open_ counts number = by (number == worker) refl
  where
    by : (b : Bool) → (number == worker) ≡ b → unsettled_of number after_workers.rows ≡ length (filter (is_unsettled_of number) new)
    by true same =
        let more = one_more number old task in
        let before = counts number in
        let rows = ap (λ (list : List AddAll). length (filter (is_unsettled_of number) list)) is in
        let here : unsettled_of number after_workers.rows ≡ unsettled_of number of_workers.rows + 1 =
        counted number ∙ ap (λ b. if true && b then unsettled_of number of_workers.rows + 1 else unsettled_of number of_workers.rows) same in
        let one : one_if (is_unsettled_of number task) ≡ 1 = ap one_if (of_maker number worker task made open_ ∙ same) in
        omega (arith, here, one, more, before, rows)
    by false same =
        let more = one_more number old task in
        let before = counts number in
        let rows = ap (λ (list : List AddAll). length (filter (is_unsettled_of number) list)) is in
        let here : unsettled_of number after_workers.rows ≡ unsettled_of number of_workers.rows =
        counted number ∙ ap (λ b. if true && b then unsettled_of number of_workers.rows + 1 else unsettled_of number of_workers.rows) same in
        let none : one_if (is_unsettled_of number task) ≡ 0 = ap one_if (of_maker number worker task made open_ ∙ same) in
        omega (arith, here, none, more, before, rows)

module _ (host : Hosted) (new : NewAddAll) (of_tasks : tasks.Table) (of_draws : draws.Table)
    (told : added_by new (state_of host) ≡ quiet (state_of (record host { tasks = of_tasks; draws = of_draws }))) where
  added_tasks : of_tasks.rows ≡ host.tasks.rows ++ new_task (state_of host) new.row.maker new.row.key new.row.name new.row.requests ∷ []
  unfolding add_task
  added_tasks = sym (ap (λ (t : Told). t.state.tasks) told)

  -- one of a lane
  pub joined_lane : maker_worker new.row.maker ≡ None → IsJoined host → IsJoined (record host { tasks = of_tasks; draws = of_draws })
  joined_lane lane joined = record {
    linked = joined.linked;
    counts = counts_of_lane host.workers host.tasks.rows of_tasks.rows _ added_tasks lane joined.counts;
  }

  -- one of a handler, which has made one call more
  pub joined_call : (of_workers : workers.Table) (worker : ℕ) → maker_worker new.row.maker ≡ Some worker
      → ((number : ℕ) → unsettled_of number of_workers.rows ≡ (if true && number == worker then unsettled_of number host.workers.rows + 1 else unsettled_of number host.workers.rows))
      → Linked host.scopes of_workers host.registrations host.clients → IsJoined host → IsJoined (record host { workers = of_workers; tasks = of_tasks; draws = of_draws })
  joined_call of_workers worker made counted linked joined = record {
    linked = linked;
    counts = counts_of_call host.workers of_workers host.tasks.rows of_tasks.rows _ worker added_tasks made counted refl joined.counts;
  }
