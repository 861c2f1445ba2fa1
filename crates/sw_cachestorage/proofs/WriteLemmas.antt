-- Puts and deletes are batches of one operation, under a parsed address.
use Rattle.std.proofs.Common.{◌≡◌, ◌∙◌, ℕ, Bool, List, [], ◌∷◌, Option, Some, None, refl, sym, ap, subst, is_some}
use Rattle.std.specs.Prelude.{Result, Ok, Err, IfOk, option_map}
use Rattle.sw_cachestorage.proofs.ParsedLemmas.{with_parsed}
use Rattle.sw_cachestorage.specs.Acts.{IsOutcome, IsStep}
use Rattle.sw_cachestorage.specs.Faults.{done_answer}
use Rattle.sw_cachestorage.specs.declared.act.CacheStep.{CacheStep}
use Rattle.sw_data.specs.declared.answers.Answer.TheVariants as answer
use Rattle.sw_data.specs.declared.answers.Fault.TheVariants as fault
use Rattle.sw_data.specs.declared.base.no_memory.NoMemory.{NoMemory}
use Rattle.sw_data.specs.declared.exchange.Op.{Op}
use Rattle.sw_data.specs.declared.exchange.Op.TheVariants as op
use Rattle.sw_data.specs.declared.recordings.CacheDelete.{CacheDelete}
use Rattle.sw_data.specs.declared.recordings.CachePut.{CachePut}
use Rattle.sw_data.specs.declared.storage.KeptCache.{KeptCache}
use Rattle.sw_data.specs.Addresses.{resolved}
use Rattle.sw_rules.specs.Caching.{delete_request, pairs_of, put_response, run_batch, single_fault, with_cache_pairs, with_url}
use Rattle.sw_rules.specs.Matching.{Pair, first_match}
use Rattle.sw_rules.specs.State.{State}
use Rattle.sw_rules.specs.Told.{Outcome, refused}

module _ (rows : List KeptCache) (base key : List ℕ) (result : Result CacheStep NoMemory) where
  -- two actions that are one in every state with these caches
  pub as_another : (one other : State → Outcome) → ((others : State) → one (record others { caches = rows }) ≡ other (record others { caches = rows }))
      → IfOk result (IsStep rows one) → IfOk result (IsStep rows other)
  as_another one other same given = by result given
    where
      by : (found : Result CacheStep NoMemory) → IfOk found (IsStep rows one) → IfOk found (IsStep rows other)
      by (Ok step) is = λ others. subst (λ outcome. IsOutcome outcome others rows step) (same others) (is others)
      by (Err why) is = tt

  pub put_goes : (put : CachePut) (url : List ℕ) (ops : List Op) → resolved put.request.url base ≡ Some url → ops ≡ op.Put (record put.request { url = url }) put.response ∷ []
      → IfOk result (IsStep rows (λ state. with_cache_pairs state key put.name (run_batch state key put.name ops answer.Ok single_fault)))
      → IfOk result (IsStep rows (λ state. put_response state base put key))
  put_goes put url ops parsed are =
      as_another (λ state. with_cache_pairs state key put.name (run_batch state key put.name ops answer.Ok single_fault)) (λ state. put_response state base put key)
      (λ others. let state = record others { caches = rows } in
      ap (λ action. with_cache_pairs state key put.name action)
      (λ i pairs. (ap (λ list. run_batch state key put.name list answer.Ok single_fault pairs) are
      ∙ sym (with_parsed state base put.request.url url parsed (λ to. run_batch state key put.name (op.Put (record put.request { url = to }) put.response ∷ []) answer.Ok single_fault pairs))) i))

  -- what a delete does with the pairs of its cache, under a parsed address
  abbrev deletes : CacheDelete → State → List ℕ → List Pair → Outcome
  deletes asked state to pairs =
      let request = record asked.request { url = to } in
      run_batch state key asked.name (op.Delete request asked.options ∷ []) (answer.Truth (is_some (first_match pairs request asked.options))) single_fault pairs

  pub delete_goes : (asked : CacheDelete) (url : List ℕ) (ops : List Op) (removed : Option Bool) → resolved asked.request.url base ≡ Some url
      → ops ≡ op.Delete (record asked.request { url = url }) asked.options ∷ []
      → removed ≡ option_map (λ pairs. is_some (first_match pairs (record asked.request { url = url }) asked.options)) (pairs_of key asked.name rows)
      → IfOk result (IsStep rows (λ state. with_cache_pairs state key asked.name (run_batch state key asked.name ops (done_answer removed) single_fault)))
      → IfOk result (IsStep rows (λ state. delete_request state base asked key))
  delete_goes asked url ops removed parsed are tells =
      as_another (λ state. with_cache_pairs state key asked.name (run_batch state key asked.name ops (done_answer removed) single_fault)) (λ state. delete_request state base asked key)
      (λ others. by (record others { caches = rows }) (pairs_of key asked.name rows) tells)
    where
      on_found : State → (List Pair → Outcome) → Option (List Pair) → Outcome
      on_found state action found = elim found [ None ↦ refused state fault.CacheGone | Some pairs ↦ action pairs ]

      by : (state : State) (found : Option (List Pair)) → removed ≡ option_map (λ pairs. is_some (first_match pairs (record asked.request { url = url }) asked.options)) found
          → on_found state (run_batch state key asked.name ops (done_answer removed) single_fault) found
          ≡ on_found state (λ pairs. with_url state base asked.request.url (λ to. deletes asked state to pairs)) found
      by state None none = refl
      by state (Some pairs) some =
          (λ i. run_batch state key asked.name (are i) (done_answer (some i)) single_fault pairs)
          ∙ sym (with_parsed state base asked.request.url url parsed (λ to. deletes asked state to pairs))
