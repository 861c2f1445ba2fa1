-- Tasks that are ready.
use Rattle.std.proofs.Common.{◌≡◌, ℕ, Bool, true, ◌&&◌, ◌==◌, List, [], ◌∷◌, map, filter, Some, sym, subst, arith}
use Rattle.std.specs.List.{list_any}
use Rattle.std.specs.Prelude.{find, is_none}
use Rattle.std.proofs.lemmas.Bool.Decides.{nat_tests}
use Rattle.sw_core.proofs.ReadyLemmas.{each_kind, map_twice, turned}
use Rattle.sw_data.specs.declared.histories.Task.{Task}
use Rattle.sw_data.specs.declared.histories.Task.TheVariants as task
use Rattle.sw_data.specs.declared.rows.JobRow.{JobRow}
use Rattle.sw_lane.specs.Picked.{is_task}
use Rattle.sw_laws.proofs.Lists.{find_any}
use Rattle.sw_rules.specs.Rows.{is_in_phase, is_fetching}
use Rattle.sw_rules.specs.State.{State, AddAll}
use Rattle.sw_rules.specs.Tasks.{add_all_fetches, ready_tasks, script_fetches}

-- what is found among tasks is one of them
same_task : (ready : Task) → is_task ready ready ≡ true
same_task (task.Run job) = grind (arith, nat_tests)
same_task (task.Fetch job) = grind (arith, nat_tests)
same_task (task.FetchAll number) = grind (arith, nat_tests)
same_task (task.Evaluate job) = grind (arith, nat_tests)
same_task (task.Install job) = grind (arith, nat_tests)
same_task (task.TryActivate registration) = grind (arith, nat_tests)
same_task (task.Activate worker) = grind (arith, nat_tests)

pub found_ready : (test : Task → Bool) (all : List Task) (ready : Task) → find test all ≡ Some ready → list_any (is_task ready) all ≡ true
found_ready test all ready is = find_any test (is_task ready) all ready is (same_task ready)

mapped_any : {X : Type 0} (p : Task → Bool) (f : X → Task) (q test : X → Bool) → ((x : X) → p (f x) ≡ q x) → (xs : List X) → list_any (λ x. q x && test x) xs ≡ true → list_any p (map f (filter test xs)) ≡ true
mapped_any p f q test same [] is = is
mapped_any p f q test same (x ∷ xs) is = grind (arith, is, same x, mapped_any p f q test same xs)

-- a job that fetches is a ready fetch
pub script_is_ready : (state : State) (job : ℕ) → list_any (λ (row : JobRow). row.job.number == job && is_in_phase is_fetching row) state.jobs ≡ true → list_any (is_task (task.Fetch job)) (ready_tasks state) ≡ true
script_is_ready state job is =
    let p = is_task (task.Fetch job) in
    let kind : list_any p (script_fetches state) ≡ true =
    subst (λ (all : List Task). list_any p all ≡ true) (sym (map_twice task.Fetch (λ (row : JobRow). row.job.number) (filter (is_in_phase is_fetching) state.jobs)))
    (mapped_any p (λ (row : JobRow). task.Fetch row.job.number) (λ row. row.job.number == job) (is_in_phase is_fetching) (λ row. turned job row.job.number) state.jobs is) in
    grind (arith, each_kind p state, kind)

-- an addAll that has not settled is a ready fetch
pub add_all_is_ready : (state : State) (number : ℕ) → list_any (λ (of : AddAll). of.number == number && is_none of.settled) state.tasks ≡ true → list_any (is_task (task.FetchAll number)) (ready_tasks state) ≡ true
add_all_is_ready state number is =
    let p = is_task (task.FetchAll number) in
    let kind : list_any p (add_all_fetches state) ≡ true =
    mapped_any p (λ (of : AddAll). task.FetchAll of.number) (λ of. of.number == number) (λ of. is_none of.settled) (λ of. turned number of.number) state.tasks is in
    grind (arith, each_kind p state, kind)
