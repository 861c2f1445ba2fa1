-- The first ready task that isn't in flight is the first of its kinds: only fetches can be in flight.
use Rattle.std.proofs.Common.{◌≡◌, ◌∙◌, Bool, true, false, not, ◌&&◌, List, [], ◌∷◌, ◌++◌, map, filter, Option, Some, None, option_map, slice_get, refl, sym, ap, arith}
use Rattle.std.specs.Prelude.{find, is_none}
use Rattle.std.specs.List.{list_all, list_any}
use Rattle.std.specs.Option.{option_or}
use Rattle.std.proofs.lemmas.Option.{slice_get-map}
use Rattle.sw_next.proofs.FirstReady.{twice}
use Rattle.sw_next.specs.Flying.{add_all_left, fetch_left, is_left, left_of}
use Rattle.sw_data.specs.declared.histories.Task.{Task}
use Rattle.sw_data.specs.declared.histories.Task.TheVariants as task
use Rattle.sw_data.specs.declared.rows.JobRow.{JobRow}
use Rattle.sw_lane.proofs.Finding.{find_first}
use Rattle.sw_lane.specs.Picked.{is_fetch, is_task, task_left}
use Rattle.sw_rules.specs.Registering.{may_run}
use Rattle.sw_rules.specs.Rows.{is_in_phase, is_evaluating, is_fetching}
use Rattle.sw_rules.specs.State.{State, AddAll, Registration, Worker}
use Rattle.sw_rules.specs.Tasks.{activates, add_all_fetches, evaluations, installs, jobs_where, may_activate, may_install, runs, script_fetches, try_activates}
use Rattle.sw_tables.proofs.Rows.{find_map}

-- ---- what is found of rows that pass

find_filter : {X : Type 0} (p test : X → Bool) (xs : List X) → find p (filter test xs) ≡ find (λ x. test x && p x) xs
find_filter p test [] = refl
find_filter p test (x ∷ xs) = grind (arith, find_filter p test xs)

left_row : {X : Type 0} (p : Task → Bool) (f : X → Task) (test : X → Bool) (xs : List X)
    → find p (map f (filter test xs)) ≡ option_map f (find (λ x. test x && p (f x)) xs)
left_row p f test xs = find_map p f (filter test xs) ∙ ap (option_map f) (find_filter (λ x. p (f x)) test xs)

pub job_left : (flying : List Task) (rows : List JobRow)
    → option_map (λ (row : JobRow). task.Fetch row.job.number) (find (fetch_left flying) rows)
    ≡ left_of flying (map task.Fetch (map (λ (row : JobRow). row.job.number) (filter (is_in_phase is_fetching) rows)))
job_left flying rows =
    sym (find_map (is_left flying) task.Fetch (map (λ (row : JobRow). row.job.number) (filter (is_in_phase is_fetching) rows))
    ∙ (ap (option_map task.Fetch) (find_map (λ n. is_left flying (task.Fetch n)) (λ (row : JobRow). row.job.number) (filter (is_in_phase is_fetching) rows))
    ∙ (twice task.Fetch (λ (row : JobRow). row.job.number) (find (λ (row : JobRow). is_left flying (task.Fetch row.job.number)) (filter (is_in_phase is_fetching) rows))
    ∙ ap (option_map (λ (row : JobRow). task.Fetch row.job.number)) (find_filter (λ (row : JobRow). is_left flying (task.Fetch row.job.number)) (is_in_phase is_fetching) rows))))

pub task_left_of : (flying : List Task) (rows : List AddAll)
    → option_map (λ (row : AddAll). task.FetchAll row.number) (find (add_all_left flying) rows)
    ≡ left_of flying (map (λ (row : AddAll). task.FetchAll row.number) (filter (λ (row : AddAll). is_none row.settled) rows))
task_left_of flying rows = sym (left_row (is_left flying) (λ (row : AddAll). task.FetchAll row.number) (λ (row : AddAll). is_none row.settled) rows)

-- ---- other tasks are never in flight

is_other : (one other : Task) → is_fetch one ≡ false → is_fetch other ≡ true → is_task one other ≡ false
is_other one (task.Run m) fails passes = absurd cc
is_other one (task.Evaluate m) fails passes = absurd cc
is_other one (task.Install m) fails passes = absurd cc
is_other one (task.TryActivate m) fails passes = absurd cc
is_other one (task.Activate m) fails passes = absurd cc
is_other (task.Fetch n) (task.Fetch m) fails passes = absurd cc
is_other (task.Fetch n) (task.FetchAll m) fails passes = absurd cc
is_other (task.FetchAll n) (task.Fetch m) fails passes = absurd cc
is_other (task.FetchAll n) (task.FetchAll m) fails passes = absurd cc
is_other (task.Run n) (task.Fetch m) fails passes = refl
is_other (task.Run n) (task.FetchAll m) fails passes = refl
is_other (task.Evaluate n) (task.Fetch m) fails passes = refl
is_other (task.Evaluate n) (task.FetchAll m) fails passes = refl
is_other (task.Install n) (task.Fetch m) fails passes = refl
is_other (task.Install n) (task.FetchAll m) fails passes = refl
is_other (task.TryActivate n) (task.Fetch m) fails passes = refl
is_other (task.TryActivate n) (task.FetchAll m) fails passes = refl
is_other (task.Activate n) (task.Fetch m) fails passes = refl
is_other (task.Activate n) (task.FetchAll m) fails passes = refl

none_flies : (one : Task) → is_fetch one ≡ false → (flying : List Task) → list_all is_fetch flying ≡ true → list_any (is_task one) flying ≡ false
none_flies one fails [] all = refl
none_flies one fails (other ∷ flying) all = by (is_fetch other) refl all (none_flies one fails flying)
  where
    by : (b : Bool) → is_fetch other ≡ b → (b && list_all is_fetch flying) ≡ true
        → (list_all is_fetch flying ≡ true → list_any (is_task one) flying ≡ false) → list_any (is_task one) (other ∷ flying) ≡ false
    by true passes all rest = grind (arith, is_other one other fails passes, rest all)
    by false passes all rest = absurd cc

-- where none of a kind is in flight, the first is left
first_left : {X : Type 0} (p : Task → Bool) (f : X → Task) → ((x : X) → p (f x) ≡ true) → (xs : List X) → find p (map f xs) ≡ slice_get (map f xs) 0
first_left p f passes xs =
    find_map p f xs ∙ (ap (option_map f) (find_first (λ x. p (f x)) passes xs) ∙ sym (slice_get-map f xs 0))

-- ---- the first of all kinds

find_append : {X : Type 0} (p : X → Bool) (xs ys : List X) → find p (xs ++ ys) ≡ option_or (find p xs) (find p ys)
find_append p [] ys = refl
find_append p (x ∷ xs) ys = grind (arith, find_append p xs ys)

-- one more list behind
behind : {X : Type 0} (p : X → Bool) (xs ys : List X) (one other : Option X) → find p xs ≡ one → find p ys ≡ other → find p (xs ++ ys) ≡ option_or one other
behind p xs ys one other is are = find_append p xs ys ∙ (ap (λ o. option_or o (find p ys)) is ∙ ap (option_or one) are)

or_assoc : {X : Type 0} (o a b c : Option X) → option_or (option_or (option_or o a) b) c ≡ option_or o (option_or (option_or a b) c)
or_assoc None a b c = refl
or_assoc (Some x) a b c = refl

module _ (state : State) (flying : List Task) (fetches : list_all is_fetch flying ≡ true) where
  kind_left : {X : Type 0} (f : X → Task) → ((x : X) → is_fetch (f x) ≡ false) → (xs : List X) → find (is_left flying) (map f xs) ≡ slice_get (map f xs) 0
  kind_left f others xs = first_left (is_left flying) f (λ x. ap not (none_flies (f x) (others x) flying fetches)) xs

  pub task_ready : option_or
      (option_or (option_or (option_or (slice_get (runs state) 0) (left_of flying (script_fetches state))) (left_of flying (add_all_fetches state))) (slice_get (evaluations state) 0))
      (option_or (option_or (slice_get (installs state) 0) (slice_get (try_activates state) 0)) (slice_get (activates state) 0))
      ≡ task_left state flying
  task_ready =
      let p = is_left flying in
      let first = kind_left task.Run (λ n. refl) (jobs_where (may_run state) state) in
      let second = behind p (runs state) (script_fetches state) _ _ first refl in
      let third = behind p (runs state ++ script_fetches state) (add_all_fetches state) _ _ second refl in
      let fourth = behind p (runs state ++ script_fetches state ++ add_all_fetches state) (evaluations state) _ _ third
      (kind_left task.Evaluate (λ n. refl) (jobs_where (is_in_phase is_evaluating) state)) in
      let fifth = behind p (runs state ++ script_fetches state ++ add_all_fetches state ++ evaluations state) (installs state) _ _ fourth
      (kind_left task.Install (λ n. refl) (jobs_where (may_install state) state)) in
      let sixth = behind p (runs state ++ script_fetches state ++ add_all_fetches state ++ evaluations state ++ installs state) (try_activates state) _ _ fifth
      (kind_left (λ (row : Registration). task.TryActivate row.number) (λ row. refl) (filter (λ (row : Registration). row.owed) state.registrations)) in
      let all = behind p (runs state ++ script_fetches state ++ add_all_fetches state ++ evaluations state ++ installs state ++ try_activates state) (activates state) _ _ sixth
      (kind_left (λ (row : Worker). task.Activate row.number) (λ row. refl) (filter (may_activate state) state.workers)) in
      sym (all ∙ or_assoc _ (slice_get (installs state) 0) (slice_get (try_activates state) 0) (slice_get (activates state) 0))
