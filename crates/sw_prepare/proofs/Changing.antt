-- The durable changes of a work are those of its event.
use Rattle.std.proofs.Common.{◌≡◌, ◌∙◌, ℕ, true, false, List, [], Option, Some, None, IfSome, is_some, refl, sym, ap}
use Rattle.std.proofs.lemmas.List.{append-nil}
use Rattle.std.specs.Option.{option_map_or}
use Rattle.std.specs.Prelude.{find}
use Rattle.sw_work.proofs.Working.{if_some_map}
use Rattle.sw_data.specs.declared.rows.JobKind.{JobKind}
use Rattle.sw_data.specs.declared.rows.JobRow.{JobRow}
use Rattle.sw_data.specs.declared.storage.Change.{Change}
use Rattle.sw_prepare.specs.Telling.{HasChanges}
use Rattle.sw_install.specs.Runs.{IsOfKind}
use Rattle.sw_prepare.specs.Held.{held, held_by}
use Rattle.sw_rules.specs.Calls.{note_call}
use Rattle.sw_rules.specs.Jobs.{is_unregister}
use Rattle.sw_rules.specs.Rows.{is_job}
use Rattle.sw_rules.specs.State.{State}
use Rattle.sw_rules.specs.Told.{Told, Outcome, followed}
use Rattle.sw_state.specs.Hosted.{Hosted, state_of}
use Rattle.sw_work.specs.Plans.{IsAsked, Means, told_by_act, told_then}
use Rattle.sw_work.specs.declared.plan.Act.{Act}
use Rattle.sw_work.specs.declared.plan.Act.TheVariants as act
use Rattle.sw_work.specs.declared.plan.Asked.{Asked}
use Rattle.sw_work.specs.declared.plan.Then.{Then}
use Rattle.sw_work.specs.declared.plan.Then.TheVariants as then
use Rattle.sw_work.specs.declared.plan.Work.{Work}
use Rattle.sw_work.specs.declared.plan.Work.TheVariants as work

-- ---- what an event comes to

-- where an event is enabled, what is told for the outcome that its work means is told for it
pub told : (comes : Option Outcome) (Meant : Outcome → Type 0) (P : List Change → Type 0) → is_some comes ≡ true → IfSome comes Meant
    → ((outcome : Outcome) → Meant outcome → P outcome.told.changes)
    → P (option_map_or (λ outcome. outcome.told.changes) comes [])
told (Some outcome) Meant P enabled means tells = tells outcome means
told None Meant P enabled means tells = absurd cc

-- where nothing is durable, no changes tell it
pub tells_none : (comes : Option Outcome) (items : List Change) → items ≡ [] → IfSome comes (λ outcome. outcome.told.changes ≡ []) → HasChanges comes items
tells_none None items none is = tt
tells_none (Some outcome) items none is = none ∙ sym is

-- ---- what was asked

-- no promise and no count of calls is durable
then_tells : (next : Then) (all : Told) → (told_then next all).changes ≡ all.changes
unfolding followed note_call
then_tells then.Nothing all = refl
then_tells (then.Promise row) all = append-nil all.changes
then_tells (then.Called worker fault) all = append-nil all.changes

-- what was asked tells what its act does
pub asked_tells : (outcome : Outcome) (asked : Asked) (state : State) → IsAsked outcome asked state → outcome.told.changes ≡ (told_by_act asked.act state).changes
asked_tells outcome asked state is = is.changes ∙ then_tells asked.then (told_by_act asked.act state)

-- the changes that a work holds are those of the outcome that it means
pub held_tells : (done : Work) (host : Hosted) (outcome : Outcome) (items : List Change) → held done ≡ Some items → Means done host outcome → items ≡ outcome.told.changes
held_tells (work.Asked asked) host outcome items holds means = by asked.act (asked_tells outcome asked (state_of host) means) holds
  where
    by : (done : Act) → outcome.told.changes ≡ (told_by_act done (state_of host)).changes → held_by done ≡ Some items → items ≡ outcome.told.changes
    by (act.Caches done changes) tells holds = let same : changes ≡ items = cc holds in sym (tells ∙ same)
    by _ tells holds = absurd cc
held_tells (work.Added task step) host outcome items holds means = let same : step.changes ≡ items = cc holds in sym (means.changes ∙ same)
held_tells _ host outcome items holds means = absurd cc

-- ---- jobs

-- a job of another kind is none of unregistering
pub registers : (kind : JobKind) (job : ℕ) (jobs : List JobRow) → is_unregister kind ≡ false → IsOfKind kind job jobs
    → IfSome (find (is_job job) jobs) (λ row. is_unregister row.job.what ≡ false)
registers kind job jobs other is = if_some_map _ _ (λ row same. ap is_unregister same ∙ other) (find (is_job job) jobs) is
