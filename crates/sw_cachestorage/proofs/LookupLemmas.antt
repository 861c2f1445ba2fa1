-- Look-ups of places in the cache of a name.
use Rattle.std.proofs.Common.{◌≡◌, ◌∙◌, ℕ, ◌+◌, List, [], ◌∷◌, map, length, Option, Some, None, refl, sym, ap, subst}
use Rattle.std.specs.Prelude.{Result, IfOk}
use Rattle.std.specs.List.{enumerate_from, range_with_len}
use Rattle.sw_caches.specs.Tables.{asked_places}
use Rattle.sw_cachestorage.proofs.ParsedLemmas.{with_parsed}
use Rattle.sw_cachestorage.specs.Acts.{IsStep}
use Rattle.sw_cachestorage.specs.declared.act.CacheStep.{CacheStep}
use Rattle.sw_data.specs.declared.answers.Answer.TheVariants as answer
use Rattle.sw_data.specs.declared.base.no_memory.NoMemory.{NoMemory}
use Rattle.sw_data.specs.declared.exchange.Request.{Request}
use Rattle.sw_data.specs.declared.recordings.CacheQuery.{CacheQuery}
use Rattle.sw_data.specs.declared.storage.KeptCache.{KeptCache}
use Rattle.sw_data.specs.Addresses.{resolved}
use Rattle.sw_rules.specs.Caching.{query_cache, query_places, with_cache_pairs}
use Rattle.sw_rules.specs.Matching.{Pair, query_of}
use Rattle.sw_rules.specs.State.{State}
use Rattle.sw_rules.specs.Told.{Outcome, answered}

-- the numbers of numbered members
all_numbers : {X : Type 0} (base : ℕ) (xs : List X) → map (λ item. item.0) (enumerate_from base xs) ≡ range_with_len base (length xs)
all_numbers base [] = refl
all_numbers base (x ∷ xs) = ap (λ rest. base ∷ rest) (all_numbers (base + 1) xs)

-- what the places of a cache come to
abbrev pub found_places : CacheQuery → Option Request → State → List Pair → Outcome
found_places asked query state pairs = answered state (answer.Places (asked_places pairs query asked.options))

module _ (rows : List KeptCache) (base key : List ℕ) (asked : CacheQuery) (result : Result CacheStep NoMemory) where
  by_places : (query : Option Request) → ((state : State) (pairs : List Pair) → found_places asked query state pairs ≡ query_places state base asked.request asked.options pairs)
      → IfOk result (IsStep rows (λ state. with_cache_pairs state key asked.name (found_places asked query state)))
      → IfOk result (IsStep rows (λ state. query_cache state base asked key))
  by_places query same found =
      subst (λ (action : State → Outcome). IfOk result (IsStep rows action)) (λ i state. with_cache_pairs state key asked.name (λ pairs. same state pairs i)) found

  -- without a request all places are found
  pub query_all : asked.request ≡ None
      → IfOk result (IsStep rows (λ state. with_cache_pairs state key asked.name (found_places asked None state)))
      → IfOk result (IsStep rows (λ state. query_cache state base asked key))
  query_all none found =
      by_places None
      (λ state pairs. ap (λ places. answered state (answer.Places places)) (sym (all_numbers 0 pairs))
      ∙ ap (λ request. query_places state base request asked.options pairs) (sym none))
      found

  -- with one those that it matches, under its parsed address
  pub query_some : (request : Request) (url : List ℕ) → asked.request ≡ Some request → resolved request.url base ≡ Some url
      → IfOk result (IsStep rows (λ state. with_cache_pairs state key asked.name (found_places asked (Some (record request { url = url })) state)))
      → IfOk result (IsStep rows (λ state. query_cache state base asked key))
  query_some request url some parsed found =
      by_places (Some (record request { url = url }))
      (λ state pairs. sym (ap (λ query. query_places state base query asked.options pairs) some
      ∙ with_parsed state base request.url url parsed (λ to. answered state (answer.Places (query_of pairs (record request { url = to }) asked.options)))))
      found
