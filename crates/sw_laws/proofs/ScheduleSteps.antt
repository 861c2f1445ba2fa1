-- Schedule Job, and the drawing of a script's fetch, keep a state coherent.
use Rattle.std.proofs.Common.{◌≡◌, ◌∙◌, ◌⊎◌, inl, inr, ℕ, Bool, true, false, not, ◌&&◌, ◌==◌, List, [], ◌∷◌, ◌++◌, filter, Option, Some, None, length, refl, sym, ap, subst, arith, if◌then◌else◌}
use Rattle.std.specs.List.{list_all, last_or}
use Rattle.std.specs.Prelude.{bytes_eq, find, is_none, option_and_then}
use Rattle.std.specs.Option.{option_or}
use Rattle.std.proofs.lemmas.Bool.{and_from, and_parts}
use Rattle.std.proofs.lemmas.Bool.Decides.{nat_tests}
use Rattle.std.proofs.lemmas.List.Folds.{find-append, list_any-append}
use Rattle.sw_data.specs.declared.rows.Job.{Job}
use Rattle.sw_data.specs.declared.rows.JobRow.{JobRow}
use Rattle.sw_rules.specs.Jobs.{is_equivalent, joined_job, new_job_row, schedule}
use Rattle.sw_rules.specs.Rows.{is_in_phase, is_installing, is_job, is_number, is_unfinished, is_waiting, last_job}
use Rattle.sw_rules.specs.State.{State, Worker, Awaited, AddAll, value, of_job, of_task}
use Rattle.sw_laws.specs.Coherent.{Coherent, HasLeadersValue, HasValueOf, apart, has_its_job, has_its_worker, is_early, is_there, share_worker}
use Rattle.sw_laws.proofs.Lists.{all_weaker, by_test, found_clear}
use Rattle.sw_laws.proofs.Places.{all_pushed, apart_pushed, place_pushed, places_apart, places_pushed}

abbrev same_number : JobRow → JobRow → Bool
same_number x y = x.job.number == y.job.number

chosen_is : (b : Bool) (n m : ℕ) → (if b then Some n else None) ≡ Some m → n ≡ m
chosen_is true n m is = cc
chosen_is false n m is = absurd cc

chosen_true : (b : Bool) (n m : ℕ) → (if b then Some n else None) ≡ Some m → b ≡ true
chosen_true true n m is = refl
chosen_true false n m is = absurd cc

none_settled : {A : Type 0} (b : Bool) (o : Option A) → (b && is_none o) ≡ true → o ≡ None
none_settled b o is = grind (arith, is)

found_first : (x : JobRow) (xs : List JobRow) → find (is_job x.job.number) (x ∷ xs) ≡ Some x
found_first x xs = grind (arith, nat_tests)

found_later : (x : JobRow) (xs : List JobRow) (last : JobRow) → list_all (λ y. not (same_number x y)) xs ≡ true → find (is_job last.job.number) xs ≡ Some last → find (is_job last.job.number) (x ∷ xs) ≡ Some last
found_later x xs last fine is = grind (arith, nat_tests, is, found_clear same_number (is_job last.job.number) x xs last fine is)

unfinished_leads : (row : JobRow) (a b : Bool) → (is_unfinished row && a && b) ≡ true → row.leader ≡ None
unfinished_leads row a b is = grind (arith, is)

joined_number : (job : Job) (row : JobRow) (leader : ℕ) → option_and_then (λ (row : JobRow). if is_equivalent job row.job && is_none row.settled then Some row.job.number else None) (Some row) ≡ Some leader → row.job.number ≡ leader
joined_number job row leader got = chosen_is (is_equivalent job row.job && is_none row.settled) row.job.number leader got

joined_unsettled : (job : Job) (row : JobRow) (leader : ℕ) → option_and_then (λ (row : JobRow). if is_equivalent job row.job && is_none row.settled then Some row.job.number else None) (Some row) ≡ Some leader → row.settled ≡ None
joined_unsettled job row leader got = none_settled (is_equivalent job row.job) row.settled (chosen_true (is_equivalent job row.job && is_none row.settled) row.job.number leader got)

-- the last row that passes is there
last_there : (p : JobRow → Bool) (rows : List JobRow) (o : Option JobRow) (last : JobRow) → apart same_number rows ≡ true → last_or o (filter p rows) ≡ Some last
    → (o ≡ Some last) ⊎ ((p last ≡ true) × (find (is_job last.job.number) rows ≡ Some last))
last_there p [] o last fine is = inl is
last_there p (x ∷ xs) o last fine is =
    let parts = and_parts (list_all (λ y. not (same_number x y)) xs) (apart same_number xs) fine in
    let kept = λ (found : find (is_job last.job.number) xs ≡ Some last). found_later x xs last parts.0 found in
    elim (p x) as (λ b. p x ≡ b → (o ≡ Some last) ⊎ ((p last ≡ true) × (find (is_job last.job.number) (x ∷ xs) ≡ Some last))) [
      | true ↦ λ passes.
          elim (last_there p xs (Some x) last parts.1 (grind (arith, is, passes))) [
            | inl here ↦ let same : x ≡ last = cc in inr (subst (λ (y : JobRow). p y ≡ true) same passes, subst (λ (y : JobRow). find (is_job y.job.number) (x ∷ xs) ≡ Some y) same (found_first x xs))
            | inr there ↦ inr (there.0, kept there.1)
          ]
      | false ↦ λ other.
          elim (last_there p xs o last parts.1 (grind (arith, is, other))) [
            | inl here ↦ inl here
            | inr there ↦ inr (there.0, kept there.1)
          ]
    ] refl

-- the job that a new one joins is there, joined none, and has no value yet
joined_there : (jobs : List JobRow) (job : Job) (last : Option JobRow) (leader : ℕ) → apart same_number jobs ≡ true
    → last_or None (filter (λ row. is_unfinished row && bytes_eq row.job.key job.key && bytes_eq row.job.scope job.scope) jobs) ≡ last
    → option_and_then (λ (row : JobRow). if is_equivalent job row.job && is_none row.settled then Some row.job.number else None) last ≡ Some leader
    → (first : JobRow) × (find (is_job leader) jobs ≡ Some first) × (first.leader ≡ None) × (first.settled ≡ None)
joined_there jobs job None leader fine is got = absurd cc
joined_there jobs job (Some last) leader fine is got =
    elim (last_there (λ row. is_unfinished row && bytes_eq row.job.key job.key && bytes_eq row.job.scope job.scope) jobs None last fine is) [
      | inl none ↦ absurd cc
      | inr there ↦
          let number : last.job.number ≡ leader = joined_number job last leader got in
          (last, subst (λ n. find (is_job n) jobs ≡ Some last) number there.1, unfinished_leads last (bytes_eq last.job.key job.key) (bytes_eq last.job.scope job.scope) there.0, joined_unsettled job last leader got)
    ]

-- what is found stays found where a row is added
found_pushed : (jobs : List JobRow) (new first : JobRow) (number : ℕ) → find (is_job number) jobs ≡ Some first → find (is_job number) (jobs ++ new ∷ []) ≡ Some first
found_pushed jobs new first number is = find-append (is_job number) jobs (new ∷ []) ∙ ap (λ (o : Option JobRow). option_or o (find (is_job number) (new ∷ []))) is

value_pushed : (jobs : List JobRow) (new row : JobRow) (leader : Option ℕ) → HasValueOf jobs row leader → HasValueOf (jobs ++ new ∷ []) row leader
value_pushed jobs new row None was = tt
value_pushed jobs new row (Some leader) was = (was.0, (was.1.0, found_pushed jobs new was.1.0 leader was.1.1, was.1.2, was.1.3))

new_value : (jobs : List JobRow) (new : JobRow) (leader : Option ℕ) → is_waiting new.phase ≡ true → new.settled ≡ None
    → ((l : ℕ) → leader ≡ Some l → (first : JobRow) × (find (is_job l) jobs ≡ Some first) × (first.leader ≡ None) × (first.settled ≡ None))
    → HasValueOf (jobs ++ new ∷ []) new leader
new_value jobs new None waits unsettled there = tt
new_value jobs new (Some l) waits unsettled there =
    let first = there l refl in
    (waits, (first.0, found_pushed jobs new first.0 l first.1, first.2, first.3 ∙ sym unsettled))

found_value : (jobs : List JobRow) (new : JobRow) (number : ℕ) (found : Option JobRow) → HasLeadersValue jobs found → HasValueOf (jobs ++ new ∷ []) new new.leader
    → HasLeadersValue (jobs ++ new ∷ []) (option_or found (if is_job number new then Some new else None))
found_value jobs new number (Some row) was own = value_pushed jobs new row row.leader was
found_value jobs new number None was own =
    by_test (HasLeadersValue (jobs ++ new ∷ [])) (is_job number new) _ _ (λ is. own) (λ other. tt)

joined_pushed : (jobs : List JobRow) (new : JobRow) → ((number : ℕ) → HasLeadersValue jobs (find (is_job number) jobs)) → HasValueOf (jobs ++ new ∷ []) new new.leader
    → (number : ℕ) → HasLeadersValue (jobs ++ new ∷ []) (find (is_job number) (jobs ++ new ∷ []))
joined_pushed jobs new were own number =
    rw (find-append (is_job number) jobs (new ∷ [])) (found_value jobs new number (find (is_job number) jobs) (were number) own)

pub all_always : {X : Type 0} (p : X → Bool) → ((x : X) → p x ≡ true) → (xs : List X) → list_all p xs ≡ true
all_always p always [] = refl
all_always p always (x ∷ xs) = and_from _ _ (always x) (all_always p always xs)

new_fits : (workers : List Worker) (job : Job) (leader : Option ℕ) → has_its_worker workers (new_job_row job leader) ≡ true
new_fits workers job leader = grind arith

there_pushed : (jobs : List JobRow) (new : JobRow) (tasks : List AddAll) (awaited : Awaited) → is_there jobs tasks awaited ≡ true → is_there (jobs ++ new ∷ []) tasks awaited ≡ true
there_pushed jobs new tasks (value result) is = refl
there_pushed jobs new tasks (of_job job) is = place_pushed jobs new job is
there_pushed jobs new tasks (of_task task) is = is

its_job_pushed : (jobs : List JobRow) (new : JobRow) (worker : Worker) → has_its_job jobs worker ≡ true → has_its_job (jobs ++ new ∷ []) worker ≡ true
its_job_pushed jobs new worker is =
    grind (arith, is, list_any-append (λ row. is_in_phase is_installing row && is_number row.worker worker.number && is_number row.registration worker.registration) jobs (new ∷ []))

never_early : (job : Job) (leader : Option ℕ) (row : JobRow) → not (is_early row (new_job_row job leader)) ≡ true
never_early job leader row = grind arith

never_shared : (job : Job) (leader : Option ℕ) (row : JobRow) → not (share_worker row (new_job_row job leader)) ≡ true
never_shared job leader row = grind arith

pub schedule-coherent : (state : State) (job : Job) → job.number ≡ length state.jobs → Coherent state → Coherent (schedule state job).state
unfolding schedule
schedule-coherent state job is sound =
    let leader = joined_job state job in
    let new = new_job_row job leader in
    let jobs = state.jobs in
    let fine = places_apart (λ (row : JobRow). row.job.number) jobs sound.jobs.numbers in
    record {
      registrations = sound.registrations;
      workers = sound.workers;
      jobs = record {
        numbers = places_pushed (λ (row : JobRow). row.job.number) jobs new is sound.jobs.numbers;
        queues = apart_pushed is_early jobs new sound.jobs.queues (all_always _ (never_early job leader) jobs);
        settled = all_pushed _ jobs new sound.jobs.settled refl;
        joined = joined_pushed jobs new sound.jobs.joined (new_value jobs new leader refl refl (λ l got. joined_there jobs job (last_job job.key job.scope jobs) l fine refl got));
        workers = apart_pushed share_worker jobs new sound.jobs.workers (all_always _ (never_shared job leader) jobs);
      };
      work = record {
        keys = all_pushed _ jobs new sound.work.keys refl;
        made = all_pushed _ jobs new sound.work.made refl;
        phases = all_pushed _ jobs new sound.work.phases (new_fits state.workers job leader);
        installing = all_weaker _ _ (its_job_pushed jobs new) state.workers sound.work.installing;
      };
      tasks = sound.tasks;
      clients = sound.clients;
      events = sound.events;
      caches = sound.caches;
      promises = all_weaker _ _ (λ row is. there_pushed jobs new state.tasks row.awaited is) state.promises sound.promises;
    }
