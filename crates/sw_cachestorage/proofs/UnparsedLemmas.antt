-- A batch with an operation whose address doesn't parse, from what working out those before it says.
use Rattle.std.proofs.Common.{◌≡◌, ◌≢◌, ℕ, ◌+◌, List, [], ◌∷◌, ◌++◌, length, Option, Some, None, inl, inr, refl, ap, if◌then◌else◌}
use Rattle.std.specs.Prelude.{Result, Ok, Err, IfOk, IfErr, sum_by}
use Rattle.std.proofs.lemmas.Bool.{cases_Bool}
use Rattle.sw_caches.specs.declared.fault.BatchFault.{BatchFault}
use Rattle.sw_caches.specs.declared.fault.BatchFault.TheVariants as thrown
use Rattle.sw_caches.specs.declared.table.CachePlan.{CachePlan}
use Rattle.sw_caches.specs.Tables.{IsBatch, IsBatchOf, IsRefused, IsRefusedOf, carried_rows}
use Rattle.sw_cachestorage.specs.Acts.{IsOutcome}
use Rattle.sw_cachestorage.specs.Faults.{thrown_by}
use Rattle.sw_cachestorage.specs.declared.act.CacheAct.TheVariants as act
use Rattle.sw_cachestorage.specs.declared.act.CacheStep.{CacheStep}
use Rattle.sw_data.specs.declared.answers.Answer.TheVariants as answer
use Rattle.sw_data.specs.declared.answers.Cause.{Cause}
use Rattle.sw_data.specs.declared.answers.Cause.TheVariants as cause
use Rattle.sw_data.specs.declared.answers.Fault.{Fault}
use Rattle.sw_data.specs.declared.answers.Fault.TheVariants as fault
use Rattle.sw_data.specs.declared.exchange.Op.{Op}
use Rattle.sw_data.specs.declared.exchange.Op.TheVariants as op
use Rattle.sw_data.specs.declared.storage.KeptCache.{KeptCache}
use Rattle.sw_data.specs.Exchange.{no_options}
use Rattle.sw_rules.specs.Batch as rules
use Rattle.sw_data.specs.Sizes.{op_size}
use Rattle.sw_rules.specs.Batch.{go, matches_added, put_fault, within_quota, without_matching}
use Rattle.sw_rules.specs.Caching.{batch_fault, pairs_of, unparsed_fault}
use Rattle.sw_rules.specs.Matching.{Pair, finds_nothing}
use Rattle.sw_rules.specs.State.{State}
use Rattle.sw_rules.specs.Told.{Outcome, refused}

-- operations alone never pass the quota
abbrev NoQuota : Result (List Pair) rules.BatchFault → Type 0
NoQuota result = (size : ℕ) → result ≢ Err (rules.Quota size)

no_quota : (ops : List Op) (old added : List Pair) (at : ℕ) → NoQuota (go old added at ops)
no_quota [] old added at = λ size is. absurd cc
no_quota (op.Delete request options ∷ rest) old added at = elim (cases_Bool (finds_nothing request options)) [
  | inl nothing ↦ rw nothing (no_quota rest old added (at + 1))
  | inr finds ↦ rw finds (elim (cases_Bool (matches_added request options added)) [
    | inl clash ↦ rw clash (λ size is. absurd cc)
    | inr apart ↦ rw apart (no_quota rest (without_matching request options old) added (at + 1))
  ])
]
no_quota (op.Put request response ∷ rest) old added at =
    by (put_fault request response)
    (elim (cases_Bool (matches_added request no_options added)) [
      | inl clash ↦ rw clash (λ size is. absurd cc)
      | inr apart ↦ rw apart (no_quota rest (without_matching request no_options old) (added ++ (request, response) ∷ []) (at + 1))
    ])
  where
    after : Result (List Pair) rules.BatchFault
    after =
        if matches_added request no_options added then Err (rules.InvalidState at)
        else go (without_matching request no_options old) (added ++ (request, response) ∷ []) (at + 1) rest

    by : (bad : Option Cause) → NoQuota after → NoQuota (elim bad [ Some why ↦ Err (rules.TypeError at why) | None ↦ after ])
    by (Some why) kept = λ size is. absurd cc
    by None kept = kept

-- what a batch is of what its operations come to
abbrev of_go : ℕ → Result (List Pair) rules.BatchFault → Result (List Pair) rules.BatchFault
of_go size gone = elim gone [ Ok new ↦ within_quota size new | Err why ↦ Err why ]

abbrev told : ℕ → Result (List Pair) rules.BatchFault → Fault
told at gone = elim gone [ Ok new ↦ fault.TypeError cause.Unparsed (Some at) | Err why ↦ batch_fault why ]

told_ok : (at size : ℕ) (gone : Result (List Pair) rules.BatchFault) (after : List Pair) → of_go size gone ≡ Ok after → told at gone ≡ fault.TypeError cause.Unparsed (Some at)
told_ok at size (Ok new) after is = refl
told_ok at size (Err why) after is = absurd cc

told_quota : (at size passed : ℕ) (gone : Result (List Pair) rules.BatchFault) → NoQuota gone → of_go size gone ≡ Err (rules.Quota passed) → told at gone ≡ fault.TypeError cause.Unparsed (Some at)
told_quota at size passed (Ok new) never is = refl
told_quota at size passed (Err why) never is = absurd (never passed is)

module _ (key name : List ℕ) (ops : List Op) (rows : List KeptCache) (others : State) where
  abbrev pub on_pairs : Option (List Pair) → Outcome
  on_pairs found =
      elim found [
        | None ↦ refused (record others { caches = rows }) fault.CacheGone
        | Some pairs ↦ refused (record others { caches = rows }) (unparsed_fault pairs ops)
      ]

  abbrev pub IsTold : Option (List Pair) → CacheStep → Type 0
  IsTold found step = IsOutcome (on_pairs found) others rows step

  abbrev pub Tells : Option (List Pair) → Fault → Type 0
  Tells found why = IsTold found (record { answer = answer.Fault why; act = act.Nothing; changes = [] })

  tells : (found : Fault) (pairs : List Pair) → unparsed_fault pairs ops ≡ found → Tells (Some pairs) found
  tells found pairs is = record { answer = ap answer.Fault is; notices = refl; state_is = refl; changes = refl }

  -- the operations throw nothing but the quota: the address is told, behind them
  pub unparsed : (result : Result CachePlan BatchFault) → IfOk result (λ plan. IsBatch key name ops rows (carried_rows plan rows)) → IfErr result (IsRefused key name ops rows)
      → thrown_by result ≡ None → Tells (pairs_of key name rows) (fault.TypeError cause.Unparsed (Some (length ops)))
  unparsed result goes refuses none = by (pairs_of key name rows) result goes refuses none
    where
      by : (found : Option (List Pair)) (result : Result CachePlan BatchFault) → IfOk result (λ plan. IsBatchOf found key name ops rows (carried_rows plan rows)) → IfErr result (IsRefusedOf found ops)
          → thrown_by result ≡ None → Tells found (fault.TypeError cause.Unparsed (Some (length ops)))
      by None (Ok plan) bad refuses none = absurd bad
      by (Some pairs) (Ok plan) goes refuses none = tells (fault.TypeError cause.Unparsed (Some (length ops))) pairs (told_ok (length ops) (sum_by op_size ops) (go pairs [] 0 ops) goes.0 goes.1)
      by None (Err (thrown.Quota size)) goes gone none = absurd cc
      by (Some pairs) (Err (thrown.Quota size)) goes is none =
          tells (fault.TypeError cause.Unparsed (Some (length ops))) pairs (told_quota (length ops) (sum_by op_size ops) size (go pairs [] 0 ops) (no_quota ops pairs [] 0) is)
      by found (Err thrown.NoMemory) goes refuses none = absurd cc
      by found (Err thrown.CacheGone) goes refuses none = absurd cc
      by found (Err (thrown.TypeError at why)) goes refuses none = absurd cc
      by found (Err (thrown.InvalidState at)) goes refuses none = absurd cc
