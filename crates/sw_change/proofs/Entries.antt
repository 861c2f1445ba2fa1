-- The rows of the table of registrations, and what is kept of them.
use Rattle.std.proofs.Common.{◌≡◌, ◌∙◌, ℕ, ◌+◌, ◌<◌, ◌≤◌, Bool, cond, true, false, List, [], ◌∷◌, ◌++◌, map, filter, take, drop, length, get_or, set, zero, suc, Option, Some, None, refl, inl, inr, sym, ap, subst, arith, true≢false}
use Rattle.std.specs.Prelude.{◌||◌, MatchOption, bytes_eq, is_some, nat_lt, position, slice_get, OnOk, Result, Ok, Err}
use Rattle.std.specs.List.{All, AllByRecursion, IsDistinct, list_any, position_or_len}
use Rattle.std.specs.Map.{keys_of}
use Rattle.std.specs.Option.{option_map_or}
use Rattle.std.specs.Cmp.Lexicographic.{bytes_decides}
use Rattle.std.proofs.lemmas.Bool.{and_parts, cases_Bool, cond_both}
use Rattle.std.proofs.lemmas.Bool.Decides.{nat_tests}
use Rattle.std.proofs.lemmas.List.{map-append}
use Rattle.std.proofs.lemmas.List.Folds.{list_any_at, list_any_none}
use Rattle.std.proofs.lemmas.List.Sums.{fails_before_first, passes_at_first}
use Rattle.sw_data.specs.declared.storage.KeptRegistration.{KeptRegistration}
use Rattle.sw_data.specs.declared.storage.KeptWorker.{KeptWorker}
use Rattle.sw_data.specs.declared.workers.Mode.{Mode}
use Rattle.sw_rules.specs.Storage.{is_registration, with_registration, first_waiting, with_waiting, promoted}
use Rattle.sw_list.specs.Named.{is_at, values, with_value}
use Rattle.sw_change.specs.declared.registration.Registration.{Registration}
use Rattle.sw_change.specs.Table.{Place, is_same, kept_row, kept_rows, promoted_registration}
use Rattle.sw_change.proofs.Apart.{apart-push, none-all}

abbrev pub Entries : Type 0
Entries = List (Place × Registration)

same_is : (one other : Place) → is_same one other ≡ true → one ≡ other
same_is one other same =
    let parts = and_parts (bytes_eq one.0 other.0) (bytes_eq one.1 other.1) same in
    λ i. ((bytes_decides one.0 other.0).0 parts.0 i, (bytes_decides one.1 other.1).0 parts.1 i)

-- places that are apart are so from either side
apart_either : (one other : Place) → is_same one other ≡ false → is_same other one ≡ false
apart_either one other apart = elim (cases_Bool (is_same other one)) [
  | inr e ↦ e
  | inl e ↦ (let same = same_is other one e in absurd (true≢false (sym e ∙ (λ i. is_same (same i) (sym same i)) ∙ apart)))
]

-- what a place that is looked for by a test says
abbrev IsPlace : (Place × Registration → Bool) → Entries → Option ℕ → Type 0
IsPlace test entries place = MatchOption place (All (λ entry. test entry ≡ false) entries) (λ at. (at < length entries) × ((d : Place × Registration) → test (get_or entries at d) ≡ true))

is_place : (test : Place × Registration → Bool) (entries : Entries) → IsPlace test entries (position test entries)
is_place test entries =
    cond_both (nat_lt (position_or_len test entries) (length entries)) (Some (position_or_len test entries)) None (IsPlace test entries)
    (λ low. let in_front : position_or_len test entries < length entries = grind (arith, nat_tests) in (in_front, λ d. passes_at_first test entries d in_front))
    (λ over k d l. let behind : length entries ≤ position_or_len test entries = grind (arith, nat_tests) in fails_before_first test entries k d (omega arith))

-- where a row is found
pub found : (place : Place) (entries : Entries) (at : ℕ) → position (is_at place.0 place.1) entries ≡ Some at → (at < length entries) × ((d : Place × Registration) → is_same (get_or entries at d).0 place ≡ true)
found place entries at is = subst (IsPlace (is_at place.0 place.1) entries) is (is_place (is_at place.0 place.1) entries)

any_row : (place : Place) (entries : Entries) → list_any (is_at place.0 place.1) entries ≡ list_any (is_registration place.0 place.1) (kept_rows entries)
any_row place [] = refl
any_row place (entry ∷ entries) = ap (λ (rest : Bool). is_same entry.0 place || rest) (any_row place entries)

-- whether a row is found
pub there : (place : Place) (entries : Entries) → is_some (position (is_at place.0 place.1) entries) ≡ list_any (is_registration place.0 place.1) (kept_rows entries)
there place [] = refl
there place (entry ∷ entries) = by (position test (entry ∷ entries)) (is_place test (entry ∷ entries)) ∙ any_row place (entry ∷ entries)
  where
    test : Place × Registration → Bool
    test = is_at place.0 place.1

    by : (at : Option ℕ) → IsPlace test (entry ∷ entries) at → is_some at ≡ list_any test (entry ∷ entries)
    by None none = sym (list_any_none test (entry ∷ entries) none)
    by (Some at) here = sym (list_any_at test (entry ∷ entries) at entry here.0 (here.1 entry))

any_key : (place : Place) (entries : Entries) → list_any (λ key. is_same key place) (keys_of entries) ≡ list_any (is_registration place.0 place.1) (kept_rows entries)
any_key place [] = refl
any_key place (entry ∷ entries) = ap (λ (rest : Bool). is_same entry.0 place || rest) (any_key place entries)

-- no row is of this place
abbrev IsAbsent : Place → Entries → Type 0
IsAbsent place entries = AllByRecursion (λ key. is_same key place ≡ false) (keys_of entries)

absent : (place : Place) (entries : Entries) → list_any (is_registration place.0 place.1) (kept_rows entries) ≡ false → IsAbsent place entries
absent place entries none = none-all (λ key. is_same key place) (keys_of entries) (any_key place entries ∙ none)

-- the rows behind a row of this place are of other places
absent_behind : (place key : Place) (entries : Entries) → is_same key place ≡ true → AllByRecursion (λ other. is_same key other ≡ false) (keys_of entries) → IsAbsent place entries
absent_behind place key [] here apart = tt
absent_behind place key (entry ∷ entries) here apart =
    (apart_either place entry.0 (subst (λ p. is_same p entry.0 ≡ false) (same_is key place here) apart.0), absent_behind place key entries here apart.1)

none_changed : (place : Place) (f : KeptRegistration → KeptRegistration) (entries : Entries) → IsAbsent place entries → with_registration place.0 place.1 f (kept_rows entries) ≡ kept_rows entries
none_changed place f [] all = refl
none_changed place f (entry ∷ entries) all =
    ap (λ (here : Bool). cond here (f (kept_row entry)) (kept_row entry) ∷ with_registration place.0 place.1 f (kept_rows entries)) all.0
    ∙ ap (λ (rest : List KeptRegistration). kept_row entry ∷ rest) (none_changed place f entries all.1)

pub same_rows : (place : Place) (f : KeptRegistration → KeptRegistration) (entries : Entries) → None ≡ position (is_at place.0 place.1) entries → with_registration place.0 place.1 f (kept_rows entries) ≡ kept_rows entries
same_rows place f entries none = none_changed place f entries (absent place entries (sym (there place entries) ∙ ap is_some (sym none)))

-- a row is kept in front where another value is put behind it
past : (entry : Place × Registration) (entries : Entries) (at : ℕ) (new : Registration) → with_value (suc at) new (entry ∷ entries) ≡ entry ∷ with_value at new entries
past entry entries at new = by (slice_get entries at)
  where
    by : (found : Option (Place × Registration))
        → option_map_or (λ row. set (entry ∷ entries) (suc at) (row.0, new)) found (entry ∷ entries) ≡ entry ∷ option_map_or (λ row. set entries at (row.0, new)) found entries
    by None = refl
    by (Some row) = refl

-- another value leaves the keys
pub same_keys : (entries : Entries) (at : ℕ) (new : Registration) → keys_of (with_value at new entries) ≡ keys_of entries
same_keys [] at new = refl
same_keys (entry ∷ entries) zero new = refl
same_keys (entry ∷ entries) (suc at) new = ap keys_of (past entry entries at new) ∙ ap (λ (keys : List Place). entry.0 ∷ keys) (same_keys entries at new)

-- the row at a place is apart from those before it
apart_at : (key place : Place) (entries : Entries) (at : ℕ) → AllByRecursion (λ other. is_same key other ≡ false) (keys_of entries) → at < length entries
    → ((d : Place × Registration) → is_same (get_or entries at d).0 place ≡ true) → is_same key place ≡ false
apart_at key place [] at all low here = absurd (omega arith)
apart_at key place (entry ∷ entries) zero all low here = subst (λ p. is_same key p ≡ false) (same_is entry.0 place (here entry)) all.0
apart_at key place (entry ∷ entries) (suc at) all low here = apart_at key place entries at all.1 (omega arith) here

-- a row with another value
pub edited_rows : (place : Place) (f : KeptRegistration → KeptRegistration) (entries : Entries) (at : ℕ) (value new : Registration) → IsDistinct is_same (keys_of entries)
    → at < length entries → ((d : Place × Registration) → is_same (get_or entries at d).0 place ≡ true) → slice_get (values entries) at ≡ Some value
    → ((key : Place) → kept_row (key, new) ≡ f (kept_row (key, value))) → kept_rows (with_value at new entries) ≡ with_registration place.0 place.1 f (kept_rows entries)
unfolding IsDistinct
edited_rows place f [] at value new apart low here is edits = absurd (omega arith)
edited_rows place f (entry ∷ entries) zero value new apart low here is edits =
    let same : entry.1 ≡ value = cc in
    let kept : kept_row (entry.0, new) ≡ f (kept_row entry) = edits entry.0 ∙ (λ i. f (kept_row (entry.0, sym same i))) in
    (λ i. kept i ∷ sym (none_changed place f entries (absent_behind place entry.0 entries (here entry) apart.0)) i)
    ∙ ap (λ (is_here : Bool). cond is_here (f (kept_row entry)) (kept_row entry) ∷ with_registration place.0 place.1 f (kept_rows entries)) (sym (here entry))
edited_rows place f (entry ∷ entries) (suc at) value new apart low here is edits =
    ap kept_rows (past entry entries at new)
    ∙ ap (λ (rest : List KeptRegistration). kept_row entry ∷ rest) (edited_rows place f entries at value new apart.1 (omega arith) here is edits)
    ∙ ap (λ (is_here : Bool). cond is_here (f (kept_row entry)) (kept_row entry) ∷ with_registration place.0 place.1 f (kept_rows entries)) (sym (apart_at entry.0 place entries at apart.0 (omega arith) here))

-- one more row
pub added_apart : (place : Place) (row : Registration) (entries : Entries) → IsDistinct is_same (keys_of entries) → list_any (is_registration place.0 place.1) (kept_rows entries) ≡ false
    → IsDistinct is_same (keys_of (entries ++ (place, row) ∷ []))
added_apart place row entries apart none =
    subst (IsDistinct is_same) (sym (map-append (λ (entry : Place × Registration). entry.0) entries ((place, row) ∷ []))) (apart-push is_same (keys_of entries) place apart (absent place entries none))

filtered_by : (entry : Place × Registration) (entries : Entries) (test : Bool) → kept_rows (cond test (entry ∷ entries) entries) ≡ cond test (kept_row entry ∷ kept_rows entries) (kept_rows entries)
filtered_by entry entries true = refl
filtered_by entry entries false = refl

-- what a filter keeps
pub filtered : (test : KeptRegistration → Bool) (entries : Entries) → kept_rows (filter (λ entry. test (kept_row entry)) entries) ≡ filter test (kept_rows entries)
filtered test [] = refl
filtered test (entry ∷ entries) =
    filtered_by entry (filter (λ entry. test (kept_row entry)) entries) (test (kept_row entry))
    ∙ ap (λ (rows : List KeptRegistration). cond (test (kept_row entry)) (kept_row entry ∷ rows) rows) (filtered test entries)

abbrev promoted_if : Registration → Option KeptWorker → Registration
promoted_if row waiting = elim waiting [ Some worker ↦ record row { waiting = None; active = Some worker; activated = false } | None ↦ row ]

abbrev kept_promoted_if : KeptRegistration → Option KeptWorker → KeptRegistration
kept_promoted_if row waiting = elim waiting [ Some worker ↦ record row { waiting = None; active = Some worker; activated = false } | None ↦ row ]

promoted_by : (place : Place) (row : Registration) (waiting : Option KeptWorker)
    → kept_row (place, promoted_if row waiting) ≡ kept_promoted_if (kept_row (place, row)) waiting
promoted_by place row (Some worker) = refl
promoted_by place row None = refl

pub promotes : (place : Place) (row : Registration) → kept_row (place, promoted_registration row) ≡ promoted (kept_row (place, row))
promotes place row = promoted_by place row row.waiting

-- the first rows with their waiting workers promoted, and the others
abbrev pub promoted_to : ℕ → Entries → Entries
promoted_to count entries = map (λ entry. (entry.0, promoted_registration entry.1)) (take count entries) ++ drop count entries

-- one more row is promoted
pub one_promoted : (entries : Entries) (at : ℕ) (value : Registration) → at < length entries → slice_get (values (promoted_to at entries)) at ≡ Some value
    → with_value at (promoted_registration value) (promoted_to at entries) ≡ promoted_to (at + 1) entries
one_promoted [] at value low is = absurd (omega arith)
one_promoted (entry ∷ entries) zero value low is = (let same : entry.1 ≡ value = cc in λ i. (entry.0, promoted_registration (sym same i)) ∷ entries)
one_promoted (entry ∷ entries) (suc at) value low is =
    let next : suc (at + 1) ≡ suc at + 1 = omega arith in
    past (entry.0, promoted_registration entry.1) (promoted_to at entries) at (promoted_registration value)
    ∙ ap (λ (rest : Entries). (entry.0, promoted_registration entry.1) ∷ rest) (one_promoted entries at value (omega arith) is)
    ∙ ap (λ n. promoted_to n (entry ∷ entries)) next

-- each waiting worker becomes the active one
pub all_promoted : (entries : Entries) → kept_rows (promoted_to (length entries) entries) ≡ map promoted (kept_rows entries)
all_promoted [] = refl
all_promoted (entry ∷ entries) = λ i. promotes entry.0 entry.1 i ∷ all_promoted entries i

-- promoting leaves the keys
pub promoted_keys : (entries : Entries) (count : ℕ) → keys_of (promoted_to count entries) ≡ keys_of entries
promoted_keys [] zero = refl
promoted_keys [] (suc count) = refl
promoted_keys (entry ∷ entries) zero = refl
promoted_keys (entry ∷ entries) (suc count) = ap (λ (keys : List Place). entry.0 ∷ keys) (promoted_keys entries count)

-- where no row is there, a first one is added
pub first_added : (place : Place) (mode : Mode) (worker : KeptWorker) (rows : List KeptRegistration) → list_any (is_registration place.0 place.1) rows ≡ false
    → rows ++ first_waiting place.0 place.1 mode worker ∷ [] ≡ with_waiting place.0 place.1 mode worker rows
first_added place mode worker rows absent =
    ap (λ (test : Bool). cond test (with_registration place.0 place.1 (λ row. record row { mode = mode; waiting = Some worker }) rows) (rows ++ first_waiting place.0 place.1 mode worker ∷ [])) (sym absent)

pub on_ok : {A E : Type 0} (result : Result A E) (P Q : Type 0) → OnOk result P → (P → Q) → OnOk result Q
on_ok (Ok x) P Q p f = f p
on_ok (Err e) P Q p f = tt
