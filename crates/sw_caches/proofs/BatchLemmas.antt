-- A batch, operation by operation.
use Rattle.std.proofs.Common.{◌≡◌, ℕ, ◌+◌, Bool, true, false, List, [], ◌∷◌, ◌++◌, filter, None, refl, inl, inr, ap, ◌∙◌}
use Rattle.std.specs.Prelude.{not, ◌&&◌, ◌||◌}
use Rattle.std.specs.List.{list_any}
use Rattle.std.proofs.lemmas.Bool.{cases_Bool}
use Rattle.sw_data.specs.declared.exchange.Request.{Request}
use Rattle.sw_data.specs.declared.exchange.Response.{Response}
use Rattle.sw_data.specs.declared.exchange.Options.{Options}
use Rattle.sw_data.specs.declared.exchange.Op.{Op}
use Rattle.sw_data.specs.declared.exchange.Op.TheVariants as op
use Rattle.sw_data.specs.Exchange.{no_options}
use Rattle.sw_rules.specs.Matching.{Pair, finds_nothing, matches_pair}
use Rattle.sw_rules.specs.Batch.{go, matches_added, put_fault, without_matching}
use Rattle.sw_caches.specs.Plans.{is_removed, left_by}

-- two filters are one
filter_twice : {X : Type 0} (first then both : X → Bool) (xs : List X) → ((x : X) → both x ≡ (first x && then x)) → filter then (filter first xs) ≡ filter both xs
filter_twice first then both [] is = refl
filter_twice first then both (x ∷ xs) is = elim (cases_Bool (first x)) [
  | inr e ↦ rw (is x, e) (filter_twice first then both xs is)
  | inl e ↦ elim (cases_Bool (then x)) [
    | inl f ↦ rw (is x, e, f) (ap (λ rest. x ∷ rest) (filter_twice first then both xs is))
    | inr f ↦ rw (is x, e, f) (filter_twice first then both xs is)
  ]
]

any_push : {X : Type 0} (test : X → Bool) (xs : List X) (x : X) → list_any test (xs ++ x ∷ []) ≡ (list_any test xs || test x)
any_push test [] x = elim (cases_Bool (test x)) [ inl e ↦ rw e refl | inr e ↦ rw e refl ]
any_push test (y ∷ xs) x = elim (cases_Bool (test y)) [ inl e ↦ rw e refl | inr e ↦ rw e (any_push test xs x) ]

left_out : (a b c : Bool) → not ((a || c) || b) ≡ (not (a || b) && not c)
left_out true b c = refl
left_out false true true = refl
left_out false true false = refl
left_out false false true = refl
left_out false false false = refl

right_out : (a b c : Bool) → not (a || (b || c)) ≡ (not (a || b) && not c)
right_out true b c = refl
right_out false true c = refl
right_out false false c = refl

both_out : (a b : Bool) → not (a || b) ≡ (not (a || false) && not (false || b))
both_out true b = refl
both_out false b = refl

-- nothing takes nothing out
pub left_nothing : (old : List Pair) → left_by [] [] old ≡ old
left_nothing [] = refl
left_nothing (p ∷ old) = ap (λ rest. p ∷ rest) (left_nothing old)

-- a delete takes out what it matches
pub left_delete : (deletes : List (Request × Options)) (puts old : List Pair) (request : Request) (options : Options)
    → without_matching request options (left_by deletes puts old) ≡ left_by (deletes ++ (request, options) ∷ []) puts old
left_delete deletes puts old request options =
    filter_twice (λ p. not (is_removed deletes puts p)) (λ p. not (matches_pair request options p)) (λ p. not (is_removed (deletes ++ (request, options) ∷ []) puts p)) old
    (λ p. ap (λ b. not (b || list_any (λ put. matches_pair put.0 no_options p) puts)) (any_push (λ (query : Request × Options). matches_pair query.0 query.1 p) deletes (request, options))
    ∙ left_out (list_any (λ query. matches_pair query.0 query.1 p) deletes) (list_any (λ put. matches_pair put.0 no_options p) puts) (matches_pair request options p))

-- a put takes out what it matches
pub left_put : (deletes : List (Request × Options)) (puts old : List Pair) (put : Pair)
    → without_matching put.0 no_options (left_by deletes puts old) ≡ left_by deletes (puts ++ put ∷ []) old
left_put deletes puts old put =
    filter_twice (λ p. not (is_removed deletes puts p)) (λ p. not (matches_pair put.0 no_options p)) (λ p. not (is_removed deletes (puts ++ put ∷ []) p)) old
    (λ p. ap (λ b. not (list_any (λ query. matches_pair query.0 query.1 p) deletes || b)) (any_push (λ (item : Pair). matches_pair item.0 no_options p) puts put)
    ∙ right_out (list_any (λ query. matches_pair query.0 query.1 p) deletes) (list_any (λ item. matches_pair item.0 no_options p) puts) (matches_pair put.0 no_options p))

-- deletes and puts take out by turns what they take out together
pub left_both : (deletes : List (Request × Options)) (puts old : List Pair) → left_by [] puts (left_by deletes [] old) ≡ left_by deletes puts old
left_both deletes puts old =
    filter_twice (λ p. not (is_removed deletes [] p)) (λ p. not (is_removed [] puts p)) (λ p. not (is_removed deletes puts p)) old
    (λ p. both_out (list_any (λ query. matches_pair query.0 query.1 p) deletes) (list_any (λ put. matches_pair put.0 no_options p) puts))

-- a delete that matches nothing added goes on without what it matches
pub delete_step : (deletes : List (Request × Options)) (puts old : List Pair) (place : ℕ) (request : Request) (options : Options) (rest : List Op)
    → finds_nothing request options ≡ false → matches_added request options puts ≡ false
    → go (left_by deletes puts old) puts place (op.Delete request options ∷ rest) ≡ go (left_by (deletes ++ (request, options) ∷ []) puts old) puts (place + 1) rest
delete_step deletes puts old place request options rest finds apart = rw (finds, apart) (ap (λ list. go list puts (place + 1) rest) (left_delete deletes puts old request options))

-- a put that isn't refused goes on without what it matches, and with its pair
pub put_step : (deletes : List (Request × Options)) (puts old : List Pair) (place : ℕ) (request : Request) (response : Response) (rest : List Op)
    → put_fault request response ≡ None → matches_added request no_options puts ≡ false
    → go (left_by deletes puts old) puts place (op.Put request response ∷ rest) ≡ go (left_by deletes (puts ++ (request, response) ∷ []) old) (puts ++ (request, response) ∷ []) (place + 1) rest
put_step deletes puts old place request response rest good apart =
    rw (good, go) (rw apart (ap (λ list. go list (puts ++ (request, response) ∷ []) (place + 1) rest) (left_put deletes puts old (request, response))))
