-- Batches on the cache of a name, from what working them out says.
use Rattle.std.proofs.Common.{◌≡◌, ◌≢◌, ℕ, Bool, true, false, List, [], Option, Some, None, refl, sym, ap, subst}
use Rattle.std.specs.Prelude.{Result, Ok, Err}
use Rattle.sw_caches.specs.declared.fault.BatchFault.{BatchFault}
use Rattle.sw_caches.specs.declared.fault.BatchFault.TheVariants as thrown
use Rattle.sw_caches.specs.declared.table.CachePlan.{CachePlan}
use Rattle.sw_caches.specs.Tables.{IsBatch, IsBatchOf, IsRefused, IsRefusedOf, carried_rows}
use Rattle.sw_cachestorage.specs.Acts.{IsOutcome}
use Rattle.sw_cachestorage.specs.Faults.{fault_by, thrown_fault}
use Rattle.sw_cachestorage.specs.declared.act.CacheAct.TheVariants as act
use Rattle.sw_data.specs.declared.answers.Answer.{Answer}
use Rattle.sw_data.specs.declared.answers.Answer.TheVariants as answer
use Rattle.sw_data.specs.declared.answers.Cause.{Cause}
use Rattle.sw_data.specs.declared.answers.Fault.TheVariants as fault
use Rattle.sw_data.specs.declared.exchange.Op.{Op}
use Rattle.sw_data.specs.declared.storage.KeptCache.{KeptCache}
use Rattle.sw_rules.specs.Batch as rules
use Rattle.sw_rules.specs.Batch.{batch}
use Rattle.sw_rules.specs.Caching.{batch_changes, carry_out, pairs_of, run_batch}
use Rattle.sw_rules.specs.Matching.{Pair}
use Rattle.sw_rules.specs.State.{State}
use Rattle.sw_rules.specs.Told.{Outcome, refused}

module _ (key name : List ℕ) (ops : List Op) (rows : List KeptCache) (done : Answer) (alone : Bool) (others : State) where
  abbrev pub here : State
  here = record others { caches = rows }

  -- what a batch on these pairs comes to
  abbrev pub on_pairs : Option (List Pair) → Outcome
  on_pairs found = elim found [ None ↦ refused here fault.CacheGone | Some pairs ↦ run_batch here key name ops done (fault_by alone) pairs ]

  abbrev after_batch : Result (List Pair) rules.BatchFault → Outcome
  after_batch result =
      elim result [
        | Ok new ↦ record { answer = done; told = carry_out here key name ops new }
        | Err why ↦ refused here (fault_by alone why)
      ]

  -- where it isn't refused, its plan is carried out
  pub goes : (plan : CachePlan) → IsBatch key name ops rows (carried_rows plan rows) → IsOutcome (on_pairs (pairs_of key name rows)) others rows (record { answer = done; act = act.Carry plan; changes = batch_changes key name ops })
  unfolding carry_out
  goes plan is = by (pairs_of key name rows) is
    where
      by : (found : Option (List Pair)) → IsBatchOf found key name ops rows (carried_rows plan rows) → IsOutcome (on_pairs found) others rows (record { answer = done; act = act.Carry plan; changes = batch_changes key name ops })
      by None bad = absurd bad
      by (Some pairs) batched =
          subst (λ result. IsOutcome (after_batch result) others rows (record { answer = done; act = act.Carry plan; changes = batch_changes key name ops })) (sym batched.1)
          (record { answer = refl; notices = refl; state_is = ap (λ (caches : List KeptCache). record others { caches = caches }) (sym batched.2); changes = refl })

  -- what it throws is told, and nothing else happens
  abbrev pub IsRefusal : BatchFault → Type 0
  IsRefusal why = IsOutcome (on_pairs (pairs_of key name rows)) others rows (record { answer = answer.Fault (thrown_fault alone why); act = act.Nothing; changes = [] })

  refused_as : (why : BatchFault) (told : rules.BatchFault) → fault_by alone told ≡ thrown_fault alone why → (result : Result (List Pair) rules.BatchFault) → result ≡ Err told
      → IsOutcome (after_batch result) others rows (record { answer = answer.Fault (thrown_fault alone why); act = act.Nothing; changes = [] })
  refused_as why told same result is =
      subst (λ r. IsOutcome (after_batch r) others rows (record { answer = answer.Fault (thrown_fault alone why); act = act.Nothing; changes = [] })) (sym is)
      (record { answer = ap answer.Fault same; notices = refl; state_is = refl; changes = refl })

  pub refuses : (why : BatchFault) → why ≢ thrown.NoMemory → IsRefused key name ops rows why → IsRefusal why
  refuses why other is = by (pairs_of key name rows) why other is
    where
      type_fault : (both : Bool) (at : ℕ) (cause : Cause) → fault_by both (rules.TypeError at cause) ≡ thrown_fault both (thrown.TypeError at cause)
      type_fault true at cause = refl
      type_fault false at cause = refl

      state_fault : (both : Bool) (at : ℕ) → fault_by both (rules.InvalidState at) ≡ thrown_fault both (thrown.InvalidState at)
      state_fault true at = refl
      state_fault false at = refl

      quota_fault : (both : Bool) (size : ℕ) → fault_by both (rules.Quota size) ≡ thrown_fault both (thrown.Quota size)
      quota_fault true size = refl
      quota_fault false size = refl

      by : (found : Option (List Pair)) (why : BatchFault) → why ≢ thrown.NoMemory → IsRefusedOf found ops why
          → IsOutcome (on_pairs found) others rows (record { answer = answer.Fault (thrown_fault alone why); act = act.Nothing; changes = [] })
      by None why other gone = record { answer = ap (λ w. answer.Fault (thrown_fault alone w)) (sym gone); notices = refl; state_is = refl; changes = refl }
      by (Some pairs) thrown.NoMemory other is = absurd (other refl)
      by (Some pairs) thrown.CacheGone other is = absurd is
      by (Some pairs) (thrown.TypeError at cause) other is = refused_as (thrown.TypeError at cause) (rules.TypeError at cause) (type_fault alone at cause) (batch pairs ops) is
      by (Some pairs) (thrown.InvalidState at) other is = refused_as (thrown.InvalidState at) (rules.InvalidState at) (state_fault alone at) (batch pairs ops) is
      by (Some pairs) (thrown.Quota size) other is = refused_as (thrown.Quota size) (rules.Quota size) (quota_fault alone size) (batch pairs ops) is
