-- The run of an unregister job, by its cases.
use Rattle.std.proofs.Common.{◌≡◌, ◌∙◌, ◌&&◌, ℕ, Bool, true, false, List, [], Option, Some, None, option_map, refl, sym, ap, subst, arith, if◌then◌else◌}
use Rattle.std.specs.Prelude.{find, IfSome}
use Rattle.std.specs.Option.{option_map_or}
use Rattle.std.proofs.lemmas.Bool.{and_parts}
use Rattle.std.proofs.lemmas.Bool.Decides.{nat_tests}
use Rattle.sw_data.specs.declared.answers.Answer.TheVariants as answer
use Rattle.sw_data.specs.declared.answers.Fault.{Fault}
use Rattle.sw_data.specs.declared.answers.Fault.TheVariants as fault
use Rattle.sw_data.specs.declared.answers.SecurityCause.TheVariants as security
use Rattle.sw_data.specs.declared.answers.Settlement.TheVariants as settlement
use Rattle.sw_data.specs.declared.rows.Job.{Job}
use Rattle.sw_data.specs.declared.rows.JobKind.{JobKind}
use Rattle.sw_data.specs.declared.rows.JobKind.TheVariants as job_kind
use Rattle.sw_data.specs.declared.rows.JobRow.{JobRow}
use Rattle.sw_data.specs.Addresses.{same_origin}
use Rattle.sw_queue.specs.Tables.{has_job}
use Rattle.sw_rules.specs.Jobs.{finish, resolve_and_finish, settle}
use Rattle.sw_rules.specs.Noticing.{Did, NoticeList}
use Rattle.sw_rules.specs.Registering as rules
use Rattle.sw_rules.specs.Registrations.{try_clear, unmap}
use Rattle.sw_rules.specs.Rows.{is_in_phase, is_first, is_job, is_waiting, mapped_registration}
use Rattle.sw_rules.specs.State.{State, Registration}
use Rattle.sw_rules.specs.Told.{Outcome, followed}
use Rattle.sw_tables.proofs.Moves.{passing, there}
use Rattle.sw_tables.proofs.Rows.{find_passes}
use Rattle.sw_activate.specs.Answers.{unregister_refusal}

-- ---- the job of a number

pub own_number : (job : ℕ) (rows : List JobRow) (row : JobRow) → find (is_job job) rows ≡ Some row → row.job.number ≡ job
own_number job rows row is = let passes = find_passes (is_job job) rows row is in grind (arith, nat_tests, passes)

pub if_job : (job : ℕ) (rows : List JobRow) (holds : JobRow → Type 0)
    → ((row : JobRow) → find (is_job job) rows ≡ Some row → row.job.number ≡ job → holds row) → IfSome (find (is_job job) rows) holds
if_job job rows holds each = by (find (is_job job) rows) refl
  where
    by : (o : Option JobRow) → find (is_job job) rows ≡ o → IfSome o holds
    by None is = tt
    by (Some row) is = each row is (own_number job rows row is)

-- what holds of the job that is found
pub of_job : (job : ℕ) (rows : List JobRow) (row : JobRow) → find (is_job job) rows ≡ Some row → (holds : JobRow → Type 0)
    → IfSome (find (is_job job) rows) holds → holds row
of_job job rows row here holds all = subst (λ (o : Option JobRow). IfSome o holds) here all

abbrev pub may : List JobRow → JobRow → Bool
may rows row = is_in_phase is_waiting row && is_first rows row

pub stands_first : (job : ℕ) (rows : List JobRow) → has_job (may rows) job rows ≡ true → has_job (is_first rows) job rows ≡ true
stands_first job rows runs =
    let found = there (may rows) (find (is_job job) rows) runs in
    passing (is_first rows) (find (is_job job) rows) found.0 found.1 (and_parts (is_in_phase is_waiting found.0) (is_first rows found.0) found.2).1

-- ---- the run

module _ (state : State) (before after : NoticeList) (new : State) (job : Job) (number : ℕ) (own : job.number ≡ number) where
  pub unregistered : (registration : ℕ)
      → Did (followed (unmap state registration) (λ unmapped.
      followed (settle unmapped number (settlement.Truth true)) (λ settled.
      followed (try_clear settled registration) (λ cleared. finish cleared number)))) before after new
      → Did (rules.unregister_mapped state job registration) before after new
  unfolding rules.unregister_mapped
  unregistered registration did =
      subst (λ (n : ℕ). Did (followed (unmap state registration) (λ unmapped.
      followed (settle unmapped n (settlement.Truth true)) (λ settled.
      followed (try_clear settled registration) (λ cleared. finish cleared n)))) before after new) (sym own) did

  abbrev is_allowed : Bool
  is_allowed = same_origin job.scope job.referrer

  abbrev why_not : Bool → Option Fault
  why_not b = if b then None else Some (fault.SecurityError security.ScopeOrigin)

  abbrev of_mapped : Option Registration → Outcome
  of_mapped o =
      elim o [
        | None ↦ rules.finished (resolve_and_finish state job.number (settlement.Truth false))
        | Some row ↦ rules.finished (rules.unregister_mapped state job row.number)
      ]

  abbrev of_origin : Bool → Outcome
  of_origin b =
      if b then of_mapped (mapped_registration state job.key job.scope)
      else rules.finished (resolve_and_finish state job.number (settlement.Fault (fault.SecurityError security.ScopeOrigin)))

  pub refused : (why : Fault) → Some why ≡ unregister_refusal job → Did (resolve_and_finish state number (settlement.Fault why)) before after new
      → Did (rules.run_unregister state job).told before after new
  unfolding rules.run_unregister
  refused why is did = by is_allowed is
    where
      by : (b : Bool) → Some why ≡ why_not b → Did (of_origin b).told before after new
      by true never = absurd cc
      by false same =
          let cause : why ≡ fault.SecurityError security.ScopeOrigin = cc (same) in
          subst (λ (f : Fault). Did (resolve_and_finish state job.number (settlement.Fault f)) before after new) cause
          (subst (λ (n : ℕ). Did (resolve_and_finish state n (settlement.Fault why)) before after new) (sym own) did)

  pub unmapped_run : None ≡ unregister_refusal job → None ≡ option_map (λ (row : Registration). row.number) (mapped_registration state job.key job.scope)
      → Did (resolve_and_finish state number (settlement.Truth false)) before after new
      → Did (rules.run_unregister state job).told before after new
  unfolding rules.run_unregister
  unmapped_run allowed gone did = by is_allowed allowed
    where
      none : (o : Option Registration) → None ≡ option_map (λ (row : Registration). row.number) o → Did (of_mapped o).told before after new
      none None is = subst (λ (n : ℕ). Did (resolve_and_finish state n (settlement.Truth false)) before after new) (sym own) did
      none (Some row) is = absurd cc

      by : (b : Bool) → None ≡ why_not b → Did (of_origin b).told before after new
      by true same = none (mapped_registration state job.key job.scope) gone
      by false never = absurd cc

  pub mapped_run : (registration : ℕ) → None ≡ unregister_refusal job
      → Some registration ≡ option_map (λ (row : Registration). row.number) (mapped_registration state job.key job.scope)
      → Did (rules.unregister_mapped state job registration) before after new
      → Did (rules.run_unregister state job).told before after new
  unfolding rules.run_unregister
  mapped_run registration allowed there did = by is_allowed allowed
    where
      some : (o : Option Registration) → Some registration ≡ option_map (λ (row : Registration). row.number) o → Did (of_mapped o).told before after new
      some None is = absurd cc
      some (Some row) is =
          let same : registration ≡ row.number = cc (is) in
          subst (λ (n : ℕ). Did (rules.unregister_mapped state job n) before after new) same did

      by : (b : Bool) → None ≡ why_not b → Did (of_origin b).told before after new
      by true same = some (mapped_registration state job.key job.scope) there
      by false never = absurd cc

pub always_finished : (state : State) (job : Job) → (rules.run_unregister state job).answer ≡ answer.Finished
unfolding rules.run_unregister
always_finished state job = by (same_origin job.scope job.referrer)
  where
    of : (o : Option Registration) → (of_mapped state (record { rows = []; spare = 0 }) (record { rows = []; spare = 0 }) state job job.number refl o).answer ≡ answer.Finished
    of None = refl
    of (Some row) = refl

    by : (b : Bool) → (of_origin state (record { rows = []; spare = 0 }) (record { rows = []; spare = 0 }) state job job.number refl b).answer ≡ answer.Finished
    by true = of (mapped_registration state job.key job.scope)
    by false = refl

-- ---- where it may run

module _ (state : State) (job : ℕ) where
  abbrev of_row : Option JobRow → Option Outcome
  of_row o =
      elim o [
        | None ↦ None
        | Some row ↦ if rules.may_run state row then Some (rules.run_job state row.job) else None
      ]

  pub may_not_run : has_job (may state.jobs) job state.jobs ≡ false → rules.run state job ≡ None
  may_not_run not_now = by (find (is_job job) state.jobs) not_now
    where
      stays : (row : JobRow) (b : Bool) → b ≡ false → (if b then Some (rules.run_job state row.job) else None) ≡ None
      stays row true never = absurd cc
      stays row false is = refl

      by : (o : Option JobRow) → option_map_or (may state.jobs) o false ≡ false → of_row o ≡ None
      by None is = refl
      by (Some row) is = stays row (rules.may_run state row) is

  pub runs_now : has_job (may state.jobs) job state.jobs ≡ true
      → (row : JobRow) → find (is_job job) state.jobs ≡ Some row → row.job.what ≡ job_kind.Unregister → rules.run state job ≡ Some (rules.run_unregister state row.job)
  runs_now now row here what = ap of_row here ∙ (goes (rules.may_run state row) passes ∙ ap Some (kind row.job.what what))
    where
      passes : rules.may_run state row ≡ true
      passes = sym (ap (λ o. option_map_or (may state.jobs) o false) here) ∙ now

      goes : (b : Bool) → b ≡ true → (if b then Some (rules.run_job state row.job) else None) ≡ Some (rules.run_job state row.job)
      goes true is = refl
      goes false never = absurd cc

      kind : (k : JobKind) → k ≡ job_kind.Unregister
          → (let outcome : Outcome = elim k [ job_kind.Register ↦ rules.run_register state row.job | job_kind.Update ↦ rules.run_update state row.job | job_kind.Unregister ↦ rules.run_unregister state row.job ] in outcome)
          ≡ rules.run_unregister state row.job
      kind job_kind.Register never = absurd cc
      kind job_kind.Update never = absurd cc
      kind job_kind.Unregister is = refl
