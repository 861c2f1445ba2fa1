-- Jobs that fetch and addAlls that have not settled: what each part of a step leaves of them.
use Rattle.std.proofs.Common.{◌≡◌, ℕ, Bool, true, false, not, ◌&&◌, ◌||◌, ◌==◌, List, [], ◌∷◌, ◌++◌, map, filter, refl, ap, arith}
use Rattle.std.specs.List.{list_any}
use Rattle.std.specs.Prelude.{is_none}
use Rattle.std.specs.Option.{option_map_or}
use Rattle.std.proofs.lemmas.Bool.Decides.{nat_tests}
use Rattle.std.proofs.lemmas.List.Folds.{list_any-append}
use Rattle.sw_data.specs.declared.answers.Settlement.{Settlement}
use Rattle.sw_data.specs.declared.events.Who.{Who}
use Rattle.sw_data.specs.declared.events.Who.TheVariants as who
use Rattle.sw_data.specs.declared.rows.Job.{Job}
use Rattle.sw_data.specs.declared.rows.JobRow.{JobRow}
use Rattle.sw_rules.specs.Caching.{add_cache, add_task, carry_out, drop_cache}
use Rattle.sw_rules.specs.Forgetting.{forget_key, is_mapped_of}
use Rattle.sw_rules.specs.Calls.{note_call}
use Rattle.sw_rules.specs.Clients.{add_client, add_event, claim_client, claim_clients, claims, leave, remove_client, remove_event, take_control}
use Rattle.sw_rules.specs.Jobs.{gets_value, promise, schedule, settle}
use Rattle.sw_rules.specs.Preloading.{set_preload}
use Rattle.sw_rules.specs.Registering.{fetch_script}
use Rattle.sw_rules.specs.Registrations.{clear, drop_registration, map_registration, set_mode, try_clear, unload, unmap}
use Rattle.sw_rules.specs.Rows.{changed, client_row, has_pending_worker, is_in_phase, is_fetching, is_job, is_task, is_used, newest_worker}
use Rattle.sw_rules.specs.State.{State, AddAll, Awaited}
use Rattle.sw_rules.specs.Told.{Told, followed}
use Rattle.sw_laws.proofs.AtOnce.{activate_leaves, clear_only}
use Rattle.sw_laws.proofs.Forgotten.{forgotten_leaves}
use Rattle.sw_laws.proofs.Lists.{any_changed, by_test}
use Rattle.sw_laws.proofs.Split.{IsLawBeside, IsRecheckLaw, unload-law}

-- ---- rows

-- a job of this number fetches
abbrev pub fetches : List JobRow → ℕ → Bool
fetches rows job = list_any (λ row. row.job.number == job && is_in_phase is_fetching row) rows

-- an addAll of this number has not settled
abbrev pub is_open : List AddAll → ℕ → Bool
is_open rows task = list_any (λ row. row.number == task && is_none row.settled) rows

-- each number but this one
abbrev pub others : ℕ → ℕ → Bool
others number other = not (other == number)

-- of the numbers that pass, those that have a row of this sort still have one
abbrev pub GoOn : {X : Type 0} → (List X → ℕ → Bool) → (ℕ → Bool) → List X → List X → Type 0
GoOn has test old new = (number : ℕ) → test number ≡ true → has old number ≡ true → has new number ≡ true

jobs_changed : (jobs : ℕ → Bool) (test : JobRow → Bool) (g : JobRow → JobRow) → ((x : JobRow) (job : ℕ) → jobs job ≡ true → test x ≡ true → (x.job.number == job && is_in_phase is_fetching x) ≡ true → ((g x).job.number == job && is_in_phase is_fetching (g x)) ≡ true) → (rows : List JobRow) → GoOn fetches jobs rows (changed test g rows)
jobs_changed jobs test g goes rows job of is =
    any_changed _ _ _ (λ x here. by_test (λ (r : JobRow). (r.job.number == job && is_in_phase is_fetching r) ≡ true) (test x) _ x (λ passes. goes x job of passes here) (λ other. here)) rows is

-- a change of the job of a number leaves the others
pub others_fetch : (number : ℕ) (g : JobRow → JobRow) (rows : List JobRow) → GoOn fetches (others number) rows (changed (is_job number) g rows)
others_fetch number g = jobs_changed (others number) (is_job number) g (λ x job of passes here. grind (arith, nat_tests, of, passes, here))

-- and so does one of the addAll of a number
pub others_open : (number : ℕ) (g : AddAll → AddAll) (rows : List AddAll) → GoOn is_open (others number) rows (changed (is_task number) g rows)
others_open number g rows task of is =
    any_changed _ _ _ (λ x here. by_test (λ (r : AddAll). (r.number == task && is_none r.settled) ≡ true) (is_task number x) _ x (λ passes. grind (arith, nat_tests, of, passes, here)) (λ other. here)) rows is

jobs_pushed : (jobs : ℕ → Bool) (rows : List JobRow) (new : JobRow) → GoOn fetches jobs rows (rows ++ new ∷ [])
jobs_pushed jobs rows new job of is = grind (arith, is, list_any-append (λ row. row.job.number == job && is_in_phase is_fetching row) rows (new ∷ []))

tasks_pushed : (tasks : ℕ → Bool) (rows : List AddAll) (new : AddAll) → GoOn is_open tasks rows (rows ++ new ∷ [])
tasks_pushed tasks rows new task of is = grind (arith, is, list_any-append (λ row. row.number == task && is_none row.settled) rows (new ∷ []))

-- ---- states

-- of the jobs and addAlls that pass, what fetches goes on to do so
pub record Stay (jobs tasks : ℕ → Bool) (old new : State) : Type 0 where
  pub fetching : GoOn fetches jobs old.jobs new.jobs
  pub unsettled : GoOn is_open tasks old.tasks new.tasks

module _ (jobs tasks : ℕ → Bool) where
  abbrev pub Stays : State → Told → Type 0
  Stays state told = Stay jobs tasks state told.state

  pub unmoved : (old new : State) → new.jobs ≡ old.jobs → new.tasks ≡ old.tasks → Stay jobs tasks old new
  unmoved old new one other = record {
    fetching = λ job of is. rw one is;
    unsettled = λ task of is. rw other is;
  }

  pub both : (one two three : State) → Stay jobs tasks one two → Stay jobs tasks two three → Stay jobs tasks one three
  both one two three first second = record {
    fetching = λ job of is. second.fetching job of (first.fetching job of is);
    unsettled = λ task of is. second.unsettled task of (first.unsettled task of is);
  }

  pub further : (state : State) (told : Told) (next : State → Told) → Stays state told → Stays told.state (next told.state) → Stays state (followed told next)
  unfolding followed
  further state told next = both state told.state (next told.state).state

  clear_stays : (state : State) (registration : ℕ) → Stays state (clear state registration)
  clear_stays state registration = let only = clear_only state registration in unmoved state _ (ap (λ s. s.jobs) only.rest) (ap (λ s. s.tasks) only.rest)

  pub rechecks_stay : IsRecheckLaw Stays
  rechecks_stay = record {
    nothing = λ state. unmoved state state refl refl;
    further = further;
    activating = λ state registration worker is. let leaves = activate_leaves state registration worker in unmoved state _ (ap (λ s. s.jobs) leaves) (ap (λ s. s.tasks) leaves);
    clearing = λ state registration gone unused calm. clear_stays state registration;
  }

  unload_stays : (state : State) (client : ℕ) → Stays state (unload state client)
  unload_stays = unload-law Stays rechecks_stay (λ state client. unmoved state _ refl refl)

  leave_stays : (state : State) (client : ℕ) → Stays state (leave state client)
  unfolding leave remove_client
  leave_stays state client = further state (unload state client) _ (unload_stays state client) (unmoved (unload state client).state _ refl refl)

  claim_stays : (state : State) (worker registration number : ℕ) → Stays state (claim_client state worker registration number)
  unfolding claim_client take_control
  claim_stays state worker registration number =
      by_test (Stays state) (option_map_or (claims state worker registration) (client_row state number) false) _ _
      (λ claimed. further state (unload state number) _ (unload_stays state number) (unmoved (unload state number).state _ refl refl))
      (λ left. unmoved state state refl refl)

  claims_stay : (numbers : List ℕ) (state : State) (worker registration : ℕ) → Stays state (claim_clients state worker registration numbers)
  unfolding claim_clients
  claims_stay [] state worker registration = unmoved state state refl refl
  claims_stay (number ∷ numbers) state worker registration =
      let told = claim_client state worker registration number in
      further state told _ (claim_stays state worker registration number) (claims_stay numbers told.state worker registration)

  promise_stays : (state : State) (maker : Who) (awaited : Awaited) → Stays state (promise state maker awaited)
  unfolding promise
  promise_stays state who.Host awaited = unmoved state state refl refl
  promise_stays state (who.Lane lane at) awaited = unmoved state _ refl refl
  promise_stays state (who.Handler worker in_phase number) awaited = unmoved state state refl refl

  pub settle_stays : (state : State) (job : ℕ) (result : Settlement) → Stays state (settle state job result)
  unfolding settle
  settle_stays state job result = record {
    fetching = jobs_changed jobs (gets_value job) _ (λ x number of passes here. here) state.jobs;
    unsettled = λ task of is. is;
  }

  pub fetch_stays : (state : State) (job : Job) (registration : ℕ) → Stays state (fetch_script state job registration)
  unfolding fetch_script
  fetch_stays state job registration = record {
    fetching = jobs_changed jobs (is_job job.number) _ (λ x number of passes here. grind (arith, here)) state.jobs;
    unsettled = λ task of is. is;
  }

  pub drop_stays : (state : State) (registration : ℕ) → Stays state (drop_registration state registration)
  unfolding drop_registration unmap
  drop_stays state registration = by_test (Stays state) (is_none (newest_worker state registration)) _ _ (λ none. unmoved state _ refl refl) (λ there. unmoved state state refl refl)

  pub try_clear_stays : (state : State) (registration : ℕ) → Stays state (try_clear state registration)
  unfolding try_clear
  try_clear_stays state registration = by_test (Stays state) (is_used state registration || has_pending_worker state registration) _ _ (λ busy. unmoved state state refl refl) (λ free. clear_stays state registration)

  -- the law of the steps that end no fetch
  pub stay_law : IsLawBeside Stays (λ state told. Unit {0}) (λ state told. Unit {0}) true true
  unfolding schedule map_registration unmap set_mode set_preload add_client add_event remove_event add_cache drop_cache carry_out forget_key add_task note_call
  stay_law = record {
    rechecks = rechecks_stay;
    scheduling = λ state job is. record { fetching = jobs_pushed jobs state.jobs _; unsettled = λ task of was. was };
    promising = λ state maker awaited there. promise_stays state maker awaited;
    settling = λ state job result may. settle_stays state job result;
    finishing = λ state job may. tt;
    mapping = λ state job free. unmoved state _ refl refl;
    unmapping = λ state registration. unmoved state _ refl refl;
    moding = λ state registration mode. unmoved state _ refl refl;
    preloading = λ state registration on text. unmoved state _ refl refl;
    fetching = λ state row registration found may mapped. fetch_stays state row.job registration.number;
    making = λ state row registration script at. tt;
    throwing = λ state row registration worker at made. tt;
    beginning = λ state row registration worker at made. tt;
    failing = λ state row registration worker handler is. tt;
    installing = λ state row registration worker handler is. tt;
    paying = λ state registration told owed holds. record { fetching = holds.fetching; unsettled = holds.unsettled };
    activated = λ state worker handler next found ended rest. tt;
    opening = λ may state number key url free. unmoved state _ refl refl;
    closing = λ state number. leave_stays state number;
    flagging = λ state worker. unmoved state _ refl refl;
    claiming = λ may state worker active. claims_stay (map (λ client. client.number) state.clients) state worker.number worker.registration;
    adding = λ state client number row worker there controls ready free. unmoved state _ refl refl;
    ending = λ state number. unmoved state _ refl refl;
    caching = λ state key name free. unmoved state _ refl refl;
    dropping = λ state key name. unmoved state _ refl refl;
    carrying = λ state key name ops pairs new there is. unmoved state _ refl refl;
    forgetting = λ state key free. let same = forgotten_leaves state (filter (is_mapped_of key) state.registrations) in unmoved state _ (ap (λ s. s.jobs) same) (ap (λ s. s.tasks) same);
    awaiting = λ state maker key name requests runs. record { fetching = λ job of is. is; unsettled = tasks_pushed tasks state.tasks _ };
    answering = λ state number result faulted may. tt;
    noting = λ state worker faulted. unmoved state _ refl refl;
  }
