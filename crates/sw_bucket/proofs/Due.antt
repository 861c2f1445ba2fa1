-- The forget that is due past the limit is that of the victim.
use Rattle.std.proofs.Common.{◌≡◌, ◌∙◌, ◌<◌, Bool, true, List, ℕ, Option, None, filter, option_map, sym, ap, subst, arith, if◌then◌else◌}
use Rattle.std.specs.Prelude.{find, nat_lt}
use Rattle.std.specs.List.Sorted.{IsStrictlySortedBy}
use Rattle.std.proofs.lemmas.Bool.Decides.{nat_tests}
use Rattle.sw_data.specs.declared.histories.Entry.{Entry}
use Rattle.sw_data.specs.declared.storage.Kept.{Kept}
use Rattle.sw_rules.specs.Durable.{durable}
use Rattle.sw_rules.specs.History.{after}
use Rattle.sw_rules.specs.State.{State}
use Rattle.sw_bucket.proofs.Chosen.{first_noted}
use Rattle.sw_bucket.proofs.FirstTurn.{first_is_victim}
use Rattle.sw_bucket.specs.Eviction.{forget_event, is_evictable, may_go, next_forget, victim}
use Rattle.sw_bucket.specs.Filling.{Filled, IsFilled, IsFull}
use Rattle.sw_bucket.specs.Noted.{last_noted}
use Rattle.sw_bucket.specs.Turns.{Turn, turn_cmp}
use Rattle.sw_sizes.specs.Usage.{keys_of_kept, usage}

-- past the limit the key of the first turn whose key may go is forgotten
pub due_past : (base : Kept) (history : List Entry) (state : State) (bucket : Filled) (found : Option (List ℕ)) → IsFilled base history bucket → after base history ≡ state
    → found ≡ option_map (λ (turn : Turn). turn.1) (find (λ (turn : Turn). may_go state turn.1) bucket.turns.keys) → IsStrictlySortedBy turn_cmp bucket.turns.keys → bucket.limit < bucket.used
    → option_map forget_event found ≡ next_forget bucket.limit base history state
due_past base history state bucket found was is first sorted passes =
    let full : IsFull state bucket = subst (λ (s : State). IsFull s bucket) is was.full in
    let past : nat_lt bucket.limit (usage (durable state)) ≡ true = let used = full.used in grind (arith, nat_tests, passes, used) in
    let key : found ≡ victim base history state =
    first
    ∙ (first_is_victim (last_noted bucket.noted) state bucket.turns full.turns sorted
    ∙ first_noted base history bucket.noted was.noted (filter (is_evictable state) (keys_of_kept (durable state)))) in
    ap (option_map forget_event) (key ∙ sym (ap (λ (b : Bool). if b then victim base history state else None) past))
