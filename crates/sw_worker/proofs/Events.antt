-- The pending fetch events as entries by number: how they are found, added, removed and counted.
use Rattle.std.proofs.Common.{◌≡◌, ◌∙◌, ℕ, zero, suc, ◌+◌, ◌<◌, ◌≤◌, Bool, true, false, not, ◌==◌, nat_eq, List, [], ◌∷◌, ◌++◌, length, set, get_or, Option, Some, None, refl, sym, ap, subst, arith, if◌then◌else◌, is_some, slice_index_or, slice_set, nat_lt, ◌-◌}
use Rattle.std.specs.List.{list_any, IsDistinct, AllByRecursion}
use Rattle.std.specs.Option.{option_map}
use Rattle.std.specs.Map.{lookup, remove_entry, keys_of}
use Rattle.std.proofs.lemmas.Bool.Decides.{nat_tests}
use Rattle.std.proofs.lemmas.List.{get_or_default, get_or_past, length-set, map-append}
use Rattle.sw_data.specs.declared.rows.WorkerRow.{WorkerRow}
use Rattle.sw_rules.specs.Rows.{is_number, without}
use Rattle.sw_rules.specs.State.{FetchEvent}
use Rattle.sw_worker.specs.Kept.{Counted, IndexesWorkers, events_of}
use Rattle.sw_worker.specs.Table.{event_at, events_on, is_event, is_on, is_pending}

abbrev Entries : Type 0
Entries = List (ℕ × ℕ)

-- ---- look-ups

pub worker_found : (n : ℕ) (entries : Entries) → lookup (nat_eq n) entries ≡ option_map (λ found. found.worker) (event_at n (events_of entries))
worker_found n [] = refl
worker_found n (e ∷ es) = grind (arith, nat_tests, worker_found n es)

pub none_on : (n : ℕ) (events : List FetchEvent) → (length (events_on n events) == 0) ≡ not (list_any (is_on n) events)
none_on n [] = refl
none_on n (e ∷ es) = grind (arith, nat_tests, none_on n es)

pub counted_here : (counts : List ℕ) (entries : Entries) (n d : ℕ) → Counted counts entries → n < length counts → slice_index_or counts n d ≡ length (events_on n (events_of entries))
counted_here counts entries n d counted below = get_or_default counts n d 0 below ∙ sym (counted n)

pub counted_past : (counts : List ℕ) (entries : Entries) (n : ℕ) → Counted counts entries → length counts ≤ n → length (events_on n (events_of entries)) ≡ 0
counted_past counts entries n counted past = counted n ∙ get_or_past counts n 0 past

pub pending_found : (n : ℕ) (entries : Entries) → is_some (lookup (nat_eq n) entries) ≡ is_pending n (events_of entries)
pending_found n [] = refl
pending_found n (e ∷ es) = grind (arith, nat_tests, pending_found n es)

pub found_event : (n w : ℕ) (entries : Entries) → lookup (nat_eq n) entries ≡ Some w
    → event_at n (events_of entries) ≡ Some (record { number = n; worker = w })
found_event n w [] found = absurd cc
found_event n w (e ∷ es) found = grind (arith, nat_tests, found_event n w es)

pub found_pending : (n w : ℕ) (entries : Entries) → lookup (nat_eq n) entries ≡ Some w → is_pending n (events_of entries) ≡ true
found_pending n w entries found = sym (pending_found n entries) ∙ ap is_some found

pub none_pending : (n : ℕ) (entries : Entries) → lookup (nat_eq n) entries ≡ None → is_pending n (events_of entries) ≡ false
none_pending n entries none = sym (pending_found n entries) ∙ ap is_some none

pub none_ended : (n : ℕ) (entries : Entries) → lookup (nat_eq n) entries ≡ None → without (is_event n) (events_of entries) ≡ events_of entries
none_ended n [] none = refl
none_ended n (e ∷ es) none = grind (arith, nat_tests, none_ended n es)

-- ---- one more event

-- a number that isn't pending is not found
pub unused : (n : ℕ) (entries : Entries) → is_pending n (events_of entries) ≡ false → lookup (nat_eq n) entries ≡ None
unused n [] fresh = refl
unused n (e ∷ es) fresh = grind (arith, nat_tests, unused n es)

pub begun : (n w : ℕ) (entries : Entries) → events_of (entries ++ (n, w) ∷ []) ≡ events_of entries ++ record { number = n; worker = w } ∷ []
begun n w entries = map-append (λ (e : ℕ × ℕ). record { number = e.0; worker = e.1 }) entries ((n, w) ∷ [])

-- how many events are on a worker
abbrev many_on : ℕ → Entries → ℕ
many_on k entries = length (events_on k (events_of entries))

more_on : (n w k : ℕ) (entries : Entries) → many_on k (entries ++ (n, w) ∷ []) ≡ many_on k entries + (if w == k then 1 else 0)
more_on n w k [] = grind (arith, nat_tests)
more_on n w k (e ∷ es) = grind (arith, nat_tests, more_on n w k es)

-- a count that is set
set_count : (counts : List ℕ) (w k c : ℕ) → w < length counts → get_or (set counts w c) k 0 ≡ (if w == k then c else get_or counts k 0)
set_count (x ∷ xs) zero zero c below = refl
set_count (x ∷ xs) zero (suc k) c below = grind (arith, nat_tests)
set_count (x ∷ xs) (suc w) zero c below = grind (arith, nat_tests)
set_count (x ∷ xs) (suc w) (suc k) c below = let rest = set_count xs w k c (omega (arith, below)) in grind (arith, nat_tests)
set_count [] w k c below = absurd (omega (arith, below))

-- ---- an event less

gone_rest : (n : ℕ) (entries : Entries) → AllByRecursion (λ k. nat_eq n k ≡ false) (keys_of entries) → without (is_event n) (events_of entries) ≡ events_of entries
gone_rest n [] all = refl
gone_rest n (e ∷ es) all = let rest = gone_rest n es all.1 in let here = all.0 in grind (arith, nat_tests)

pub ended : (n : ℕ) (entries : Entries) → IsDistinct nat_eq (keys_of entries) → events_of (remove_entry (nat_eq n) entries) ≡ without (is_event n) (events_of entries)
unfolding IsDistinct
ended n [] apart = refl
ended n (e ∷ es) apart =
    grind (arith, nat_tests, ended n es apart.1, λ (same : e.0 ≡ n). gone_rest n es (subst (λ k. AllByRecursion (λ z. nat_eq k z ≡ false) (keys_of es)) same apart.0))

less_on : (n w k : ℕ) (entries : Entries) → lookup (nat_eq n) entries ≡ Some w
    → many_on k (remove_entry (nat_eq n) entries) + (if w == k then 1 else 0) ≡ many_on k entries
less_on n w k [] found = absurd cc
less_on n w k (e ∷ es) found = grind (arith, nat_tests, less_on n w k es)

-- how many events are on a worker, without one
others_on : (n w : ℕ) (entries : Entries) → IsDistinct nat_eq (keys_of entries)
    → length (events_on w (without (is_event n) (events_of entries))) + (if is_number (lookup (nat_eq n) entries) w then 1 else 0) ≡ length (events_on w (events_of entries))
others_on n w entries apart = by (lookup (nat_eq n) entries) refl
  where
    by : (o : Option ℕ) → lookup (nat_eq n) entries ≡ o
        → length (events_on w (without (is_event n) (events_of entries))) + (if is_number o w then 1 else 0) ≡ length (events_on w (events_of entries))
    by None none =
        let same = none_ended n entries none in
        grind (arith, same)
    by (Some v) is =
        let same = ended n entries apart in
        let less = less_on n v w entries is in
        grind (arith, same, less)

module _ (n w : ℕ) (entries : Entries) (events : List FetchEvent) (found : Option ℕ) (apart : IsDistinct nat_eq (keys_of entries))
    (are : events_of entries ≡ events) (is : found ≡ lookup (nat_eq n) entries) where
  others_in : length (events_on w (without (is_event n) events)) + (if is_number found w then 1 else 0) ≡ length (events_on w events)
  others_in =
      subst (λ (rows : List FetchEvent). length (events_on w (without (is_event n) rows)) + (if is_number found w then 1 else 0) ≡ length (events_on w rows)) are
      (ap (λ (o : Option ℕ). length (events_on w (without (is_event n) (events_of entries))) + (if is_number o w then 1 else 0)) is ∙ others_on n w entries apart)

  -- there is one event more where it is on the worker
  pub others_with : {b : Bool} → b ≡ is_number found w → b ≡ true → length (events_on w (without (is_event n) events)) + 1 ≡ length (events_on w events)
  others_with same on =
      subst (λ (c : Bool). length (events_on w (without (is_event n) events)) + (if c then 1 else 0) ≡ length (events_on w events)) (sym same ∙ on) others_in

  -- and none where it isn't
  pub others_without : {b : Bool} → b ≡ is_number found w → b ≡ false → length (events_on w (without (is_event n) events)) ≡ length (events_on w events)
  others_without same off =
      let all = subst (λ (c : Bool). length (events_on w (without (is_event n) events)) + (if c then 1 else 0) ≡ length (events_on w events)) (sym same ∙ off) others_in in
      omega (arith, all)

-- ---- the counts

-- an event that is there is counted
many_there : (n w : ℕ) (entries : Entries) → lookup (nat_eq n) entries ≡ Some w → 1 ≤ many_on w entries
many_there n w entries found = let less = less_on n w w entries found in grind (arith, nat_tests)

pub worker_within : (counts : List ℕ) (entries : Entries) (n w : ℕ) → Counted counts entries → lookup (nat_eq n) entries ≡ Some w → w < length counts
worker_within counts entries n w counted found = by (nat_lt w (length counts)) refl
  where
    by : (b : Bool) → nat_lt w (length counts) ≡ b → w < length counts
    by true is = grind (arith, nat_tests)
    by false is =
        let past : length counts ≤ w = grind (arith, nat_tests) in
        omega (arith, many_there n w entries found, counted_past counts entries w counted past)

pub count_there : (counts : List ℕ) (entries : Entries) (n w d : ℕ) → Counted counts entries → lookup (nat_eq n) entries ≡ Some w → 1 ≤ slice_index_or counts w d
count_there counts entries n w d counted found =
    let here = counted_here counts entries w d counted (worker_within counts entries n w counted found) in
    omega (arith, here, many_there n w entries found)

counted_begun : (counts : List ℕ) (entries : Entries) (n w d : ℕ) → Counted counts entries → w < length counts
    → Counted (slice_set counts w (slice_index_or counts w d + 1)) (entries ++ (n, w) ∷ [])
counted_begun counts entries n w d counted below k =
    let was = counted k in
    let here = get_or_default counts w d 0 below in
    let more = more_on n w k entries in
    let set = set_count counts w k (get_or counts w d + 1) below in
    grind (arith, nat_tests)

counted_ended : (counts : List ℕ) (entries : Entries) (n w d : ℕ) → Counted counts entries → lookup (nat_eq n) entries ≡ Some w
    → Counted (slice_set counts w (slice_index_or counts w d - 1)) (remove_entry (nat_eq n) entries)
counted_ended counts entries n w d counted found k =
    let below = worker_within counts entries n w counted found in
    let was = counted k in
    let here = get_or_default counts w d 0 below in
    let less = less_on n w k entries found in
    let set = set_count counts w k (get_or counts w d - 1) below in
    grind (arith, nat_tests)

pub kept_begun : (rows : List WorkerRow) (counts : List ℕ) (entries new : Entries) (flags : List Bool) (n w d : ℕ) → IndexesWorkers rows counts entries flags → w < length counts
    → new ≡ entries ++ (n, w) ∷ [] → IsDistinct nat_eq (keys_of new)
    → IndexesWorkers rows (slice_set counts w (slice_index_or counts w d + 1)) new flags
kept_begun rows counts entries new flags n w d kept below is apart = record {
  workers = kept.workers;
  many = length-set counts w (slice_index_or counts w d + 1) ∙ kept.many;
  counted = subst (Counted (slice_set counts w (slice_index_or counts w d + 1))) (sym is) (counted_begun counts entries n w d kept.counted below);
  apart = apart;
  activating = kept.activating;
}

pub kept_ended : (rows : List WorkerRow) (counts : List ℕ) (entries new : Entries) (flags : List Bool) (n w d : ℕ) → IndexesWorkers rows counts entries flags → lookup (nat_eq n) entries ≡ Some w
    → new ≡ remove_entry (nat_eq n) entries → IsDistinct nat_eq (keys_of new)
    → IndexesWorkers rows (slice_set counts w (slice_index_or counts w d - 1)) new flags
kept_ended rows counts entries new flags n w d kept found is apart = record {
  workers = kept.workers;
  many = length-set counts w (slice_index_or counts w d - 1) ∙ kept.many;
  counted = subst (Counted (slice_set counts w (slice_index_or counts w d - 1))) (sym is) (counted_ended counts entries n w d kept.counted found);
  apart = apart;
  activating = kept.activating;
}
