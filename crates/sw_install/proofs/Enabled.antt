-- What is found where an event is enabled, and what it then comes to.
use Rattle.std.proofs.Common.{◌≡◌, ◌∙◌, ℕ, Bool, true, false, List, map, Option, Some, None, option_map, find, refl, sym, ap, subst, if◌then◌else◌}
use Rattle.std.specs.Prelude.{IfSome, option_and_then}
use Rattle.sw_data.specs.declared.answers.Answer.{Answer}
use Rattle.sw_data.specs.declared.rows.WorkerRow.{WorkerRow}
use Rattle.sw_rules.specs.Noticing.{Did, NoticeList}
use Rattle.sw_rules.specs.Rows.{is_worker}
use Rattle.sw_rules.specs.State.{State}
use Rattle.sw_rules.specs.Told.{Outcome}
use Rattle.sw_tables.proofs.Rows.{find_map}
use Rattle.sw_tables.specs.Happened.{Happened}
use Rattle.sw_tables.specs.Lent.{shown_worker}
use Rattle.sw_worker.specs.Table.{worker_at}

-- a row that is found by its number, where it passes
pub both : {X : Type 0} (test : X → Bool) (o : Option X) (x : X) → option_and_then (λ y. if test y then Some y else None) o ≡ Some x → (o ≡ Some x) × (test x ≡ true)
both test None x is = absurd cc
both test (Some y) x is = by (test y) refl
  where
    by : (b : Bool) → test y ≡ b → (Some y ≡ Some x) × (test x ≡ true)
    by true passes = let one : Some y ≡ Some x = cc in (one, cc)
    by false passes = absurd cc

-- the worker of a number, as a row of the state
pub shown_at : (number : ℕ) (rows : List WorkerRow) (row : WorkerRow) → worker_at number rows ≡ Some row → find (is_worker number) (map shown_worker rows) ≡ Some (shown_worker row)
shown_at number rows row is = find_map (is_worker number) shown_worker rows ∙ ap (option_map shown_worker) is

-- an event that comes to this outcome
pub happened : (o : Option Outcome) (outcome : Outcome) (reply : Option Answer) (before after : NoticeList) (old new : State)
    → o ≡ Some outcome → reply ≡ Some outcome.answer → Did outcome.told before after new → Happened o reply before after old new
happened o outcome reply before after old new is answers did =
    subst (λ (p : Option Outcome). Happened p reply before after old new) (sym is) (answers, did)

-- an event that isn't enabled
pub not_now : (o : Option Outcome) (list : NoticeList) (state : State) → o ≡ None → Happened o None list list state state
not_now o list state is = subst (λ (p : Option Outcome). Happened p None list list state state) (sym is) (refl, refl, refl)

-- what holds of what is there
pub if_some : {X : Type 0} (P : X → Type 0) (o : Option X) (x : X) → o ≡ Some x → IfSome o P → P x
if_some {X = X} P o x is holds = subst (λ (p : Option X). IfSome p P) is holds

pub some_if : {X : Type 0} (P : X → Type 0) (o : Option X) (x : X) → o ≡ Some x → P x → IfSome o P
some_if {X = X} P o x is holds = subst (λ (p : Option X). IfSome p P) (sym is) holds
