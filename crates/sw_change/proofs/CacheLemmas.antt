-- What changes do to the caches, found by key and name.
use Rattle.std.proofs.Common.{◌≡◌, ◌∙◌, ℕ, List, [], ◌∷◌, Some, None, inl, inr, refl, sym, ap}
use Rattle.std.specs.Prelude.{Option, is_some}
use Rattle.std.specs.List.{list_any}
use Rattle.std.proofs.lemmas.Bool.{cases_Bool}
use Rattle.sw_data.specs.declared.exchange.Op.{Op}
use Rattle.sw_data.specs.declared.storage.KeptCache.{KeptCache}
use Rattle.sw_rules.specs.Batch.{batch}
use Rattle.sw_rules.specs.Caching.{pairs_of}
use Rattle.sw_rules.specs.Matching.{Pair}
use Rattle.sw_rules.specs.Storage.{is_cache, pairs_after, with_batch, with_cache}
use Rattle.sw_caches.specs.declared.fault.BatchFault.{BatchFault}
use Rattle.sw_caches.specs.declared.fault.BatchFault.TheVariants as fault
use Rattle.sw_caches.specs.Plans.{IsThrown}
use Rattle.sw_caches.specs.Tables.{IsBatch, IsBatchOf, IsRefused, IsRefusedOf}

module _ (key name : List ℕ) where
  pub found_any : (rows : List KeptCache) → is_some (pairs_of key name rows) ≡ list_any (is_cache key name) rows
  found_any [] = refl
  found_any (row ∷ rows) = elim (cases_Bool (is_cache key name row)) [
    | inl e ↦ rw e refl
    | inr e ↦ rw e (found_any rows)
  ]

  -- no cache is changed where none is found
  absent_kept : (f : KeptCache → KeptCache) (rows : List KeptCache) → pairs_of key name rows ≡ None → with_cache key name f rows ≡ rows
  absent_kept f [] = λ none. refl
  absent_kept f (row ∷ rows) = elim (cases_Bool (is_cache key name row)) [
    | inl e ↦ rw e (λ none. absurd cc)
    | inr e ↦ rw e (λ none. ap (λ (rest : List KeptCache). row ∷ rest) (absent_kept f rows none))
  ]

  -- the pairs of the cache that is found are all that a change of them sees
  changed_alike : (f g : List Pair → List Pair) (rows : List KeptCache) (pairs : List Pair) → pairs_of key name rows ≡ Some pairs → f pairs ≡ g pairs
      → with_cache key name (λ row. record row { pairs = f row.pairs }) rows ≡ with_cache key name (λ row. record row { pairs = g row.pairs }) rows
  changed_alike f g [] pairs = λ found same. refl
  changed_alike f g (row ∷ rows) pairs = elim (cases_Bool (is_cache key name row)) [
    | inl e ↦ rw e (λ found same. let here : row.pairs ≡ pairs = cc in ap (λ (new : List Pair). record row { pairs = new } ∷ rows) (ap f here ∙ same ∙ sym (ap g here)))
    | inr e ↦ rw e (λ found same. ap (λ (rest : List KeptCache). row ∷ rest) (changed_alike f g rows pairs found same))
  ]

  same_kept : (rows : List KeptCache) → with_cache key name (λ row. record row { pairs = row.pairs }) rows ≡ rows
  same_kept [] = refl
  same_kept (row ∷ rows) = elim (cases_Bool (is_cache key name row)) [
    | inl e ↦ rw e refl
    | inr e ↦ rw e (ap (λ (rest : List KeptCache). row ∷ rest) (same_kept rows))
  ]

  module _ (ops : List Op) where
    done_of : (found : Option (List Pair)) (old new : List KeptCache) → pairs_of key name old ≡ found → IsBatchOf found key name ops old new → new ≡ with_batch key name ops old
    done_of None old new is done = absurd done
    done_of (Some pairs) old new is done =
        done.2 ∙ changed_alike (λ pairs. done.0) (λ pairs. pairs_after pairs ops) old pairs is (rw (done.1, pairs_after) refl)

    -- a batch that is done
    pub batch_done : (old new : List KeptCache) → IsBatch key name ops old new → new ≡ with_batch key name ops old
    batch_done old new done = done_of (pairs_of key name old) old new refl done

    thrown_kept : (why : BatchFault) (pairs : List Pair) → (why ≡ fault.NoMemory → ⊥) → IsThrown why (batch pairs ops) → pairs_after pairs ops ≡ pairs
    thrown_kept (fault.TypeError at cause) pairs other thrown = rw (thrown, pairs_after) refl
    thrown_kept (fault.InvalidState at) pairs other thrown = rw (thrown, pairs_after) refl
    thrown_kept (fault.Quota size) pairs other thrown = rw (thrown, pairs_after) refl
    thrown_kept fault.CacheGone pairs other thrown = absurd thrown
    thrown_kept fault.NoMemory pairs other thrown = absurd (other refl)

    refused_of : (found : Option (List Pair)) (why : BatchFault) (rows : List KeptCache) → (why ≡ fault.NoMemory → ⊥) → pairs_of key name rows ≡ found → IsRefusedOf found ops why
        → with_batch key name ops rows ≡ rows
    refused_of None why rows other is gone = absent_kept (λ row. record row { pairs = pairs_after row.pairs ops }) rows is
    refused_of (Some pairs) why rows other is thrown =
        changed_alike (λ pairs. pairs_after pairs ops) (λ pairs. pairs) rows pairs is (thrown_kept why pairs other thrown) ∙ same_kept rows

    -- a batch that is refused, not for want of memory, changes nothing
    pub batch_refused : (why : BatchFault) (rows : List KeptCache) → (why ≡ fault.NoMemory → ⊥) → IsRefused key name ops rows why → with_batch key name ops rows ≡ rows
    batch_refused why rows other refused = refused_of (pairs_of key name rows) why rows other refl refused
