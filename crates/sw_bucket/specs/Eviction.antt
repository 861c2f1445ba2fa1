-- Which key is forgotten next, and what a history with evictions follows (own).
use Rattle.std.specs.Prelude.{ℕ, Bool, false, not, ◌&&◌, ◌||◌, ◌==◌, nat_lt, List, ◌++◌, codes, filter, fold, bytes_eq, Option, Some, None, option_map, if◌then◌else◌}
use Rattle.std.specs.Cmp.Lexicographic.{slice_cmp}
use Rattle.std.specs.List.{after_first, list_any}
use Rattle.std.specs.Option.{option_map_or, option_or}
use Rattle.std.specs.Ordering.{is_lt, nat_cmp}
use Rattle.sw_data.specs.declared.events.Event.{Event}
use Rattle.sw_data.specs.declared.events.Event.TheVariants as event
use Rattle.sw_data.specs.declared.events.Who.TheVariants as who
use Rattle.sw_data.specs.declared.histories.Entry.{Entry}
use Rattle.sw_data.specs.declared.recordings.Place.{Place}
use Rattle.sw_data.specs.declared.recordings.Recording.{Recording}
use Rattle.sw_data.specs.declared.storage.Kept.{Kept}
use Rattle.sw_data.specs.Keys.{key_origin}
use Rattle.sw_rules.specs.Forgetting.{is_busy}
use Rattle.sw_rules.specs.Durable.{durable}
use Rattle.sw_rules.specs.Picks.{next}
use Rattle.sw_rules.specs.State.{State}
use Rattle.sw_sizes.specs.Usage.{keys_of_kept, usage, usage_of}
use Rattle.sw_bucket.specs.Uses.{last_use, page_key}

-- ---- the host's forget

-- the partition of a key: what follows its first `^`
abbrev pub key_partition : List ℕ → Option (List ℕ)
key_partition key = if list_any (λ b. b == 94) key then Some (after_first (λ b. b == 94) key) else None

-- the page by which the host forgets a key: at its origin, with its partition
abbrev pub forget_page : List ℕ → Place
forget_page key = record { at = key_origin key ++ codes "/"; partition = key_partition key }

-- the event by which the host forgets a key
abbrev pub forget_event : List ℕ → Event
forget_event key = event.Forget who.Host (forget_page key)

-- that event forgets this key and no other
abbrev pub is_reached : List ℕ → Bool
is_reached key = option_map_or (bytes_eq key) (page_key (forget_page key)) false

-- ---- the victim

-- the host's forget of a key is answered by ok: it reaches the key, which isn't busy
abbrev pub may_go : State → List ℕ → Bool
may_go state key = is_reached key && not (is_busy state key)

-- a key may be evicted: it has usage, and may go
abbrev pub is_evictable : State → List ℕ → Bool
is_evictable state key = nat_lt 0 (usage_of key (durable state)) && may_go state key

-- a key goes before another: its last use is earlier, or is the same and its text is smaller
abbrev pub goes_before : (List ℕ → ℕ) → List ℕ → List ℕ → Bool
goes_before last one other =
    nat_lt (last one) (last other) || (last one == last other && is_lt (slice_cmp nat_cmp one other))

-- the first so far, or the next one where that goes before it
abbrev pub first_so_far : (List ℕ → List ℕ → Bool) → Option (List ℕ) → List ℕ → Option (List ℕ)
first_so_far before None next = Some next
first_so_far before (Some first) next = if before next first then Some next else Some first

-- the first of some keys, before which none of them goes
abbrev pub first_of : (List ℕ → List ℕ → Bool) → List (List ℕ) → Option (List ℕ)
first_of before keys = fold (first_so_far before) None keys

-- the victim: of the keys that may be evicted the least recently used one
abbrev pub victim : Kept → List Entry → State → Option (List ℕ)
victim base history state =
    first_of (goes_before (last_use base history)) (filter (is_evictable state) (keys_of_kept (durable state)))

-- ---- what happens next

-- the host's forget that is due within a limit: of the victim, while the usage passes the limit
abbrev pub next_forget : ℕ → Kept → List Entry → State → Option Event
next_forget limit base history state =
    option_map forget_event (if nat_lt limit (usage (durable state)) then victim base history state else None)

-- what happens next within a limit: the forget that is due, and otherwise what the pick order has next
abbrev pub next_bounded : ℕ → Recording → Kept → List Entry → State → Option Event
next_bounded limit recording base history state =
    option_or (next_forget limit base history state) (next recording history state)
