-- The rows of the table of addAlls: how they are found, added and changed.
use Rattle.std.proofs.Common.{◌≡◌, ◌∙◌, ℕ, suc, ◌==◌, ◌+◌, ◌<◌, ◌≤◌, Bool, true, false, List, [], ◌∷◌, ◌++◌, map, length, drop, ◌-◌, ◌&&◌, is_none, Option, Some, None, option_map, refl, sym, ap, subst, arith, slice_set, slice_index_or, if◌then◌else◌}
use Rattle.std.specs.Prelude.{bytes_eq, nat_lt}
use Rattle.std.specs.List.{find, list_any, range_with_len}
use Rattle.std.specs.Option.{option_map_or}
use Rattle.std.proofs.lemmas.List.{drop-map, length-append, length-map, length-set, map-append}
use Rattle.sw_data.specs.declared.answers.Settlement.{Settlement}
use Rattle.sw_rules.specs.Rows.{changed, is_task}
use Rattle.sw_rules.specs.State.{AddAll}
use Rattle.sw_ledgers.specs.declared.tasks.TaskRow.{TaskRow}
use Rattle.sw_list.proofs.Placing.{flags_set}
use Rattle.sw_list.proofs.Tallies.{any_passes, passing_more, passing_set}
use Rattle.sw_list.specs.Tally.{Tally, Tallies, count_of}
use Rattle.sw_ledgers.specs.Tasks.{AreKept, IsNewTask, TellsUnsettled, has_task, is_unsettled, is_unsettled_of, row_of}
use Rattle.sw_rules.proofs.Places.{changed_here, found_here, found_none, more_at_places, place_within, set_at_places}

abbrev number : TaskRow → ℕ
number task = task.number

abbrev pub with_value : Settlement → TaskRow → TaskRow
with_value value task = record task { settled = Some value }

pub many_rows : (tasks : List TaskRow) → length (map row_of tasks) ≡ length tasks
many_rows tasks = length-map tasks row_of

-- a row is found where its addAll is
found_of : (n : ℕ) (tasks : List TaskRow) → find (is_task n) (map row_of tasks) ≡ option_map row_of (find (λ task. number task == n) tasks)
found_of n [] = refl
found_of n (task ∷ tasks) = grind (arith, found_of n tasks)

pub row_here : (tasks : List TaskRow) (n : ℕ) (d : TaskRow) → AreKept tasks → n < length tasks
    → find (is_task n) (map row_of tasks) ≡ Some (row_of (slice_index_or tasks n d))
row_here tasks n d kept below = found_of n tasks ∙ ap (option_map row_of) (found_here number tasks n d kept.places below)

pub row_gone : (tasks : List TaskRow) (n : ℕ) → AreKept tasks → length tasks ≤ n → find (is_task n) (map row_of tasks) ≡ None
row_gone tasks n kept past = found_of n tasks ∙ ap (option_map row_of) (found_none number tasks n kept.places past)

pub within : (test : AddAll → Bool) (tasks : List TaskRow) (n : ℕ) → AreKept tasks → has_task test n (map row_of tasks) ≡ true → n < length tasks
within test tasks n kept has = place_within number (λ task. test (row_of task)) tasks n kept.places (sym (by (find (λ task. number task == n) tasks)) ∙ (sym (ap (λ (row : Option AddAll). option_map_or test row false) (found_of n tasks)) ∙ has))
  where
    by : (task : Option TaskRow) → option_map_or test (option_map row_of task) false ≡ option_map_or (λ task. test (row_of task)) task false
    by None = refl
    by (Some task) = refl

numbered_from : (base : ℕ) (tasks : List TaskRow) → ((i : ℕ) (d : TaskRow) → i < length tasks → number (slice_index_or tasks i d) ≡ base + i)
    → map (λ (row : AddAll). row.number) (map row_of tasks) ≡ range_with_len base (length (map row_of tasks))
numbered_from base [] placed = refl
numbered_from base (task ∷ tasks) placed =
    let is = placed 0 task (omega arith) in
    let here : number task ≡ base = omega (arith, is) in
    let rest = numbered_from (base + 1) tasks (λ i d below. let later = placed (suc i) d (omega (arith, below)) in omega (arith, later)) in
    cc (here, rest)

-- the number of an addAll is its place
pub numbers_are_places : (tasks : List TaskRow) → AreKept tasks → map (λ (row : AddAll). row.number) (map row_of tasks) ≡ range_with_len 0 (length (map row_of tasks))
numbers_are_places tasks kept = numbered_from 0 tasks (λ i d below. let is = kept.places i d below in omega (arith, is))

-- ---- the addAlls that have not settled

pub many_flags : (tasks : List TaskRow) (flags : List Bool) (keys : Tally) → TellsUnsettled tasks flags keys → length flags ≡ length tasks
many_flags tasks flags keys kept = sym (ap length kept.unsettled) ∙ length-map tasks is_unsettled

unsettled_of : (tasks : List TaskRow) → option_map row_of (find is_unsettled tasks) ≡ find (λ (row : AddAll). is_none row.settled) (map row_of tasks)
unsettled_of [] = refl
unsettled_of (task ∷ tasks) = grind (arith, unsettled_of tasks)

pub next_found : (tasks : List TaskRow) (from : ℕ) (found : Option TaskRow) → found ≡ find is_unsettled (drop from tasks)
    → option_map row_of found ≡ find (λ (row : AddAll). is_none row.settled) (drop from (map row_of tasks))
next_found tasks from found is =
    ap (option_map row_of) is
    ∙ (unsettled_of (drop from tasks) ∙ sym (ap (find (λ (row : AddAll). is_none row.settled)) (drop-map row_of from tasks)))

-- an addAll of a key has not settled where the tally has the key
pub any_of : (key : List ℕ) (tasks : List TaskRow) (keys : Tally) → Tallies is_unsettled_of tasks keys
    → nat_lt 0 (count_of keys key) ≡ list_any (λ (row : AddAll). is_none row.settled && bytes_eq row.key key) (map row_of tasks)
any_of key tasks keys tallied = ap (nat_lt 0) (tallied key) ∙ (any_passes (is_unsettled_of key) tasks ∙ of_rows tasks)
  where
    of_rows : (rest : List TaskRow) → list_any (is_unsettled_of key) rest ≡ list_any (λ (row : AddAll). is_none row.settled && bytes_eq row.key key) (map row_of rest)
    of_rows [] = refl
    of_rows (task ∷ rest) = grind (arith, of_rows rest)

pub none_kept : (tasks : List TaskRow) (flags : List Bool) (keys : Tally) → tasks ≡ [] → flags ≡ [] → ((key : List ℕ) → count_of keys key ≡ 0) → TellsUnsettled tasks flags keys
none_kept tasks flags keys no_tasks no_flags none =
    subst (λ (rows : List TaskRow). TellsUnsettled rows flags keys) (sym no_tasks)
    (record {
      rows = record { places = λ i d below. absurd (omega (arith, below)); many = omega arith };
      unsettled = sym no_flags;
      tallied = none;
    })

-- ---- one more addAll

pub rows_more : (tasks : List TaskRow) (new : TaskRow) → map row_of (tasks ++ new ∷ []) ≡ map row_of tasks ++ row_of new ∷ []
rows_more tasks new = map-append row_of tasks (new ∷ [])

tallied_more : (tasks : List TaskRow) (new : TaskRow) (key : List ℕ) (keys now : Tally) → Tallies is_unsettled_of tasks keys → IsNewTask new key
    → ((asked : List ℕ) → count_of now asked ≡ count_of keys asked + (if bytes_eq key asked then 1 else 0)) → Tallies is_unsettled_of (tasks ++ new ∷ []) now
tallied_more tasks new key keys now tallied is more asked =
    let one : ◌≡◌ {A = ℕ} (if is_unsettled_of asked new then 1 else 0) (if bytes_eq key asked then 1 else 0) =
    λ i. if is_none (is.unsettled i) && bytes_eq (sym is.same i) asked then 1 else 0 in
    omega (arith, more asked, tallied asked, passing_more (is_unsettled_of asked) tasks new, one)

pub kept_more : (tasks : List TaskRow) (flags : List Bool) (keys now : Tally) (new : TaskRow) (key : List ℕ) → TellsUnsettled tasks flags keys → IsNewTask new key
    → number new ≡ length tasks → ((asked : List ℕ) → count_of now asked ≡ count_of keys asked + (if bytes_eq key asked then 1 else 0))
    → TellsUnsettled (tasks ++ new ∷ []) (flags ++ true ∷ []) now
kept_more tasks flags keys now new key kept fresh is more = record {
  rows = record {
    places = more_at_places (λ place task. number task ≡ place) tasks new kept.rows.places is;
    many = omega (arith, is, fresh.few, length-append tasks (new ∷ []));
  };
  unsettled = map-append is_unsettled tasks (new ∷ []) ∙ (λ i. kept.unsettled i ++ is_none (fresh.unsettled i) ∷ []);
  tallied = tallied_more tasks new key keys now kept.tallied fresh more;
}

-- ---- an addAll settles

rows_changed : (value : Settlement) (n : ℕ) (tasks : List TaskRow)
    → map row_of (changed (λ task. number task == n) (with_value value) tasks) ≡ changed (is_task n) (λ row. record row { settled = Some value }) (map row_of tasks)
rows_changed value n [] = refl
rows_changed value n (task ∷ tasks) = grind (arith, rows_changed value n tasks)

pub settled_rows : (value : Settlement) (tasks : List TaskRow) (n : ℕ) (d new : TaskRow) → AreKept tasks → n < length tasks
    → new ≡ with_value value (slice_index_or tasks n d)
    → map row_of (slice_set tasks n new) ≡ changed (is_task n) (λ row. record row { settled = Some value }) (map row_of tasks)
settled_rows value tasks n d new kept below is =
    ap (λ task. map row_of (slice_set tasks n task)) is
    ∙ (ap (map row_of) (changed_here number (with_value value) tasks n d kept.places below) ∙ rows_changed value n tasks)

tallied_settled : (value : Settlement) (tasks : List TaskRow) (keys now : Tally) (n : ℕ) (d new : TaskRow) → Tallies is_unsettled_of tasks keys → n < length tasks
    → new ≡ with_value value (slice_index_or tasks n d) → is_unsettled (slice_index_or tasks n d) ≡ true
    → ((key : List ℕ) → count_of now key ≡ count_of keys key - (if bytes_eq new.key key then 1 else 0)) → Tallies is_unsettled_of (slice_set tasks n new) now
tallied_settled value tasks keys now n d new tallied below is was less key =
    let old = slice_index_or tasks n d in
    let own : ◌≡◌ {A = ℕ} (if bytes_eq new.key key then 1 else 0) (if bytes_eq old.key key then 1 else 0) = λ i. if bytes_eq (is i).key key then 1 else 0 in
    let one : ◌≡◌ {A = ℕ} (if is_unsettled_of key old then 1 else 0) (if bytes_eq old.key key then 1 else 0) = λ i. if was i && bytes_eq old.key key then 1 else 0 in
    let none : ◌≡◌ {A = ℕ} (if is_unsettled_of key new then 1 else 0) 0 = λ i. if is_unsettled_of key (is i) then 1 else 0 in
    omega (arith, less key, tallied key, passing_set (is_unsettled_of key) tasks n d new below, own, one, none)

-- an addAll that passes where it is found passes where it stands
pub passing_here : (test : AddAll → Bool) (tasks : List TaskRow) (n : ℕ) (d : TaskRow) → AreKept tasks → n < length tasks → has_task test n (map row_of tasks) ≡ true
    → test (row_of (slice_index_or tasks n d)) ≡ true
passing_here test tasks n d kept below has = sym (ap (λ (row : Option AddAll). option_map_or test row false) (row_here tasks n d kept below)) ∙ has

pub kept_settled : (value : Settlement) (tasks : List TaskRow) (flags : List Bool) (keys now : Tally) (n : ℕ) (d new : TaskRow) → TellsUnsettled tasks flags keys → n < length tasks
    → new ≡ with_value value (slice_index_or tasks n d) → is_unsettled (slice_index_or tasks n d) ≡ true
    → ((key : List ℕ) → count_of now key ≡ count_of keys key - (if bytes_eq new.key key then 1 else 0)) → TellsUnsettled (slice_set tasks n new) (slice_set flags n false) now
kept_settled value tasks flags keys now n d new kept below is was less = record {
  rows = record {
    places = set_at_places (λ place task. number task ≡ place) tasks n new kept.rows.places below (ap number is ∙ kept.rows.places n d below);
    many = omega (arith, kept.rows.many, length-set tasks n new);
  };
  unsettled = flags_set is_unsettled tasks flags n new false kept.unsettled (sym (ap is_unsettled is));
  tallied = tallied_settled value tasks keys now n d new kept.tallied below is was less;
}
