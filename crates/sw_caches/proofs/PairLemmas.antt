-- A pair that a query matches is found under the query's digest.
use Rattle.std.proofs.Common.{◌≡◌, ◌<◌, length, arith, Some, None, Bor, true, List, ℕ, sym, ap, inl, inr}
use Rattle.std.specs.Prelude.{◌^◌, bytes_eq, Option, option_map}
use Rattle.std.specs.Option.{IfSome}
use Rattle.sw_caches.specs.declared.entry.Entry.{Entry}
use Rattle.sw_list.proofs.FindLemmas.{found_low}
use Rattle.std.specs.Cmp.Lexicographic.{bytes_decides}
use Rattle.std.proofs.lemmas.Bool.{cases_Bool, and_parts}
use Rattle.sw_data.specs.declared.exchange.Request.{Request}
use Rattle.sw_data.specs.declared.exchange.Options.{Options}
use Rattle.sw_data.specs.Addresses.{without_fragment, without_query}
use Rattle.sw_rules.specs.Matching.{Pair, finds_nothing, first_match, matches_pair, same_address}
use Rattle.sw_list.specs.Marks.{digest, mixed}
use Rattle.sw_caches.specs.Slots.{address_digest}
use Rattle.sw_caches.specs.Entries.{pair, pair_digest, pairs}

pub same_digest : (query : Request) (options : Options) (p : Pair) → matches_pair query options p ≡ true → pair_digest options.ignore_search p ≡ address_digest options.ignore_search query.url
unfolding address_digest
same_digest query options p h =
    let same : same_address options query.url p.0.url ≡ true = (and_parts _ _ (and_parts _ _ h).0).1 in
    elim (cases_Bool options.ignore_search) [
      | inl e ↦
          let f : bytes_eq (without_query query.url) (without_query p.0.url) ≡ true = rw e at same in
          rw e (ap (λ text. mixed (digest text) 35) (sym ((bytes_decides (without_query query.url) (without_query p.0.url)).0 f)))
      | inr e ↦
          let f : bytes_eq (without_fragment query.url) (without_fragment p.0.url) ≡ true = rw e at same in
          rw e (ap digest (sym ((bytes_decides (without_fragment query.url) (without_fragment p.0.url)).0 f)))
    ]

-- what a query finds first stands among the entries
pub first_low : (entries : List Entry) (query : Request) (options : Options) (found : Option (ℕ × Bor Pair)) → length entries < 2 ^ 32
    → option_map (λ item. (item.0, item.1.now)) found ≡ first_match (pairs entries) query options → IfSome found (λ item. item.0 < 2 ^ 32)
first_low entries query options None few is = tt
first_low entries query options (Some item) few is = elim (cases_Bool (finds_nothing query options)) [
  | inl e ↦ absurd (let none : Some (item.0, item.1.now) ≡ None = rw e at is in cc)
  | inr e ↦ (let low = found_low pair (matches_pair query options) entries item.0 item.1.now (rw e at is) in omega (arith, low, few))
]
