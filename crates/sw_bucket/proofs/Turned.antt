-- Turns that are put in and taken out.
use Rattle.std.proofs.Common.{◌≡◌, ◌∙◌, ℕ, ◌+◌, ◌<◌, Bool, true, false, ◌&&◌, ◌||◌, not, List, bytes_eq, cond, get_or, length, take, refl, sym, ap, arith}
use Rattle.std.specs.Prelude.{nat_eq, nat_lt}
use Rattle.std.specs.BTreeSet.{BTreeSet, Updates}
use Rattle.std.specs.Cmp.{nat_eq_equiv}
use Rattle.std.proofs.lemmas.List.Folds.{list_any_more}
use Rattle.sw_data.specs.declared.storage.Kept.{Kept}
use Rattle.sw_laws.proofs.Lists.{by_truth, bytes_eq_equal, bytes_eq_symmetric}
use Rattle.sw_bucket.specs.Turns.{GetTurns, LoseTurns, Turn, has_turn, is_among, is_turn, turn_cmp, turn_ties}
use Rattle.sw_sizes.specs.Usage.{usage_of}

with_it : (b other : Bool) → cond b true other ≡ (b || other)
with_it true other = refl
with_it false other = refl

without_it : (b other : Bool) → cond b false other ≡ (not b && other)
without_it true other = refl
without_it false other = refl

module _ (old new : BTreeSet Turn) (last : ℕ) (own key : List ℕ) (same : own ≡ key) where
  -- one turn was put in
  pub gained : Updates turn_cmp old new (last, own) true → (turn : Turn) → has_turn new turn ≡ (is_turn (last, key) turn || has_turn old turn)
  gained updates turn =
      updates.0 turn
      ∙ (ap (λ (b : Bool). cond b true (has_turn old turn)) (sym (turn_ties (last, own) turn))
      ∙ (with_it (is_turn (last, own) turn) (has_turn old turn)
      ∙ (λ i. is_turn (last, same i) turn || has_turn old turn)))

  -- one turn was taken out
  pub lost : Updates turn_cmp old new (last, own) false → (turn : Turn) → has_turn new turn ≡ (not (is_turn (last, key) turn) && has_turn old turn)
  lost updates turn =
      updates.0 turn
      ∙ (ap (λ (b : Bool). cond b false (has_turn old turn)) (sym (turn_ties (last, own) turn))
      ∙ (without_it (is_turn (last, own) turn) (has_turn old turn)
      ∙ (λ i. not (is_turn (last, same i) turn) && has_turn old turn)))

-- ---- the turns of keys, one key after another

module _ (last : List ℕ → ℕ) (keys : List (List ℕ)) (at : ℕ) (next : List ℕ) (inside : at < length keys) (is_next : next ≡ get_or keys at next) (start before after : BTreeSet Turn) where
  more : (key : List ℕ) → is_among key (take (at + 1) keys) ≡ (is_among key (take at keys) || bytes_eq key next)
  more key =
      list_any_more (bytes_eq key) keys at next inside
      ∙ ap (λ (k : List ℕ). is_among key (take at keys) || bytes_eq key k) (sym is_next)

  -- the turn of a key, where that is the next one
  own_turn : (place : ℕ) (key : List ℕ) → is_turn (last next, next) (place, key) ≡ (bytes_eq key next && nat_eq place (last key))
  own_turn place key =
      let turned = bytes_eq_symmetric next key in
      by_truth (bytes_eq key next)
      (λ is.
      let same = bytes_eq_equal key next is in
      let placed : nat_eq (last next) place ≡ nat_eq place (last key) = ap (λ (k : List ℕ). nat_eq (last k) place) (sym same) ∙ nat_eq_equiv.symm (last key) place in
      grind (arith, turned, is, placed))
      (λ other. grind (arith, turned, other))

  -- one more key has lost its turn
  pub lose_more : LoseTurns (take at keys) last start before → ((turn : Turn) → has_turn after turn ≡ (not (is_turn (last next, next) turn) && has_turn before turn))
      → LoseTurns (take (at + 1) keys) last start after
  lose_more lose one place key =
      let was = lose place key in let is = one (place, key) in let own = own_turn place key in let among = more key in
      grind (arith, was, is, own, among)

  -- one more key has got its turn
  pub get_more : (kept : Kept) → GetTurns (take at keys) last kept start before
      → ((turn : Turn) → has_turn after turn ≡ ((nat_lt 0 (usage_of next kept) && is_turn (last next, next) turn) || has_turn before turn))
      → GetTurns (take (at + 1) keys) last kept start after
  get_more kept get one place key =
      let was = get place key in let is = one (place, key) in let own = own_turn place key in let among = more key in
      by_truth (bytes_eq key next)
      (λ same. let used : nat_lt 0 (usage_of next kept) ≡ nat_lt 0 (usage_of key kept) = ap (λ (k : List ℕ). nat_lt 0 (usage_of k kept)) (sym (bytes_eq_equal key next same)) in grind (arith, was, is, own, among, same, used))
      (λ other. grind (arith, was, is, own, among, other))
