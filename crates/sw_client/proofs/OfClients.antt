-- The entries of the table of clients, its rows and its counts: what each call does to them.
use Rattle.std.proofs.Common.{◌≡◌, ◌∙◌, ◌<◌, ◌≤◌, ◌+◌, ◌-◌, ◌^◌, ℕ, Bool, true, false, not, nat_eq, List, [], ◌∷◌, ◌++◌, map, length, slice_get, slice_index_or, length-append, Option, Some, None, option_map, IfSome, true≢false, refl, sym, ap, subst, arith, if◌then◌else◌}
use Rattle.std.proofs.lemmas.List.{length-map, map-append}
use Rattle.std.proofs.lemmas.Map.{keys-set_value}
use Rattle.std.proofs.lemmas.Option.{slice_get-map}
use Rattle.std.proofs.lemmas.Bool.Decides.{nat_tests}
use Rattle.std.specs.List.{find, list_any, IsDistinct}
use Rattle.std.specs.Option.{is_some, option_map_or}
use Rattle.std.specs.Map.{lookup, set_value, remove_entry, keys_of, values_of}
use Rattle.sw_data.specs.declared.rows.ClientRow.{ClientRow}
use Rattle.sw_rules.specs.Rows.{changed, is_client, is_number, without}
use Rattle.sw_client.specs.declared.OpenClient.{OpenClient}
use Rattle.sw_client.specs.Keyed.{keyed, IsKeyed}
use Rattle.sw_client.specs.Table.{CountsUsers, controlled_by, is_open, uncontrolled, users_of, uses}
use Rattle.sw_client.proofs.KeyedRows.{count_changed, count_least, count_others, count_pushed, count_removed, count_within, lookup_keyed, remove_keyed, set_keyed, some_keyed, values_keyed}

abbrev pub Entries : Type 0
Entries = List (ℕ × OpenClient)

abbrev pub number : OpenClient → ℕ
number row = row.client.number

abbrev client : OpenClient → ClientRow
client row = row.client

-- ---- rows and clients

pub found_client : (n : ℕ) (rows : List OpenClient) → find (is_client n) (map client rows) ≡ option_map client (find (is_open n) rows)
found_client n [] = refl
found_client n (x ∷ xs) = grind (arith, found_client n xs)

pub client_at : (i : ℕ) (rows : List OpenClient) → slice_get (map client rows) i ≡ option_map client (slice_get rows i)
client_at i rows = slice_get-map client rows i

any_client : (n : ℕ) (rows : List OpenClient) → list_any (is_client n) (map client rows) ≡ list_any (is_open n) rows
any_client n [] = refl
any_client n (x ∷ xs) = grind (arith, any_client n xs)

without_clients : (n : ℕ) (rows : List OpenClient) → map client (without (is_open n) rows) ≡ without (is_client n) (map client rows)
without_clients n [] = refl
without_clients n (x ∷ xs) = grind (arith, without_clients n xs)

changed_clients : (n : ℕ) (c : ℕ × ℕ) (rows : List OpenClient) → map client (changed (is_open n) (controlled_by c) rows) ≡ changed (is_client n) (λ row. record row { controller = Some c.0 }) (map client rows)
changed_clients n c [] = refl
changed_clients n c (x ∷ xs) = grind (arith, changed_clients n c xs)

-- ---- entries and rows

pub found_by : (n : ℕ) (es : Entries) → IsKeyed number es → lookup (nat_eq n) es ≡ find (is_open n) (values_of es)
found_by n es is = ap (lookup (nat_eq n)) is.rows ∙ lookup_keyed number n (values_of es)

pub is_there : (n : ℕ) (es : Entries) → IsKeyed number es → is_some (lookup (nat_eq n) es) ≡ list_any (is_client n) (map client (values_of es))
is_there n es is = ap (λ xs. is_some (lookup (nat_eq n) xs)) is.rows ∙ some_keyed number n (values_of es) ∙ sym (any_client n (values_of es))

pub absent : (n : ℕ) (es : Entries) → IsKeyed number es → lookup (nat_eq n) es ≡ None → find (is_client n) (map client (values_of es)) ≡ None
absent n es is none = found_client n (values_of es) ∙ ap (option_map client) (sym (found_by n es is) ∙ none)

pub present : (n : ℕ) (es : Entries) (x : OpenClient) → IsKeyed number es → lookup (nat_eq n) es ≡ Some x → find (is_client n) (map client (values_of es)) ≡ Some x.client
present n es x is there = found_client n (values_of es) ∙ ap (option_map client) (sym (found_by n es is) ∙ there)

pub apart_now : (es : Entries) → IsKeyed number es → IsDistinct nat_eq (keys_of (keyed number (values_of es)))
apart_now es is = subst (λ (xs : Entries). IsDistinct nat_eq (keys_of xs)) is.rows is.apart

keys_are : (rows : List OpenClient) → keys_of (keyed number rows) ≡ map (λ row. row.number) (map client rows)
keys_are [] = refl
keys_are (x ∷ xs) = ap (λ (ns : List ℕ). number x ∷ ns) (keys_are xs)

pub numbers_apart : (es : Entries) → IsKeyed number es → IsDistinct nat_eq (map (λ row. row.number) (map client (values_of es)))
numbers_apart es is = subst (IsDistinct nat_eq) (keys_are (values_of es)) (apart_now es is)

pub unused : (n : ℕ) (es : Entries) → IsKeyed number es → list_any (is_client n) (map client (values_of es)) ≡ false → lookup (nat_eq n) es ≡ None
unused n es is none = by (lookup (nat_eq n) es) refl
  where
    by : (found : Option OpenClient) → lookup (nat_eq n) es ≡ found → lookup (nat_eq n) es ≡ None
    by None e = e
    by (Some x) e = absurd (true≢false (sym (ap is_some e) ∙ (is_there n es is ∙ none)))

added : (new : OpenClient) (es : Entries) → IsKeyed number es → es ++ (number new, new) ∷ [] ≡ keyed number (values_of es ++ new ∷ [])
added new es is =
    ap (λ (xs : Entries). xs ++ (number new, new) ∷ []) is.rows ∙ sym (map-append (λ (row : OpenClient). (number row, row)) (values_of es) (new ∷ []))

removed : (n : ℕ) (es : Entries) → IsKeyed number es → remove_entry (nat_eq n) es ≡ keyed number (without (is_open n) (values_of es))
removed n es is = ap (remove_entry (nat_eq n)) is.rows ∙ remove_keyed number n (values_of es) (apart_now es is)

given : (n : ℕ) (f : OpenClient → OpenClient) (es : Entries) (x : OpenClient) → ((row : OpenClient) → number (f row) ≡ number row) → IsKeyed number es → lookup (nat_eq n) es ≡ Some x
    → set_value (nat_eq n) es (f x) ≡ keyed number (changed (is_open n) f (values_of es))
given n f es x keeps is there =
    ap (λ (xs : Entries). set_value (nat_eq n) xs (f x)) is.rows
    ∙ set_keyed number f keeps n (values_of es) x (apart_now es is) (sym (found_by n es is) ∙ there)

-- ---- counts

abbrev one_of : Option ℕ → ℕ → ℕ
one_of used registration = if is_number used registration then 1 else 0

pub now_counted : (es : Entries) (rows : List OpenClient) (counts : List ℕ) → es ≡ keyed number rows → IsDistinct nat_eq (keys_of es)
    → ((registration : ℕ) → slice_index_or counts registration 0 ≡ users_of registration rows) → length rows < 2 ^ 32 → CountsUsers es counts
now_counted es rows counts is apart users few =
    let same : values_of es ≡ rows = ap values_of is ∙ values_keyed number rows in
    record {
      keyed = record { rows = is ∙ ap (keyed number) (sym same); apart = apart };
      users = λ registration. users registration ∙ ap (users_of registration) (sym same);
      few = subst (λ (xs : List OpenClient). length xs < 2 ^ 32) (sym same) few;
    }

lowered_by : (n : ℕ) (es : Entries) (counts : List ℕ) (x : OpenClient) (used : Option ℕ) → x.registration ≡ used → CountsUsers es counts → lookup (nat_eq n) es ≡ Some x → IfSome used (λ r. 0 < slice_index_or counts r 0)
lowered_by n es counts x None is sound there = tt
lowered_by n es counts x (Some r) is sound there =
    let found : find (is_open n) (values_of es) ≡ Some x = sym (found_by n es sound.keyed) ∙ there in
    let least = count_least number (uses r) n (values_of es) x found in
    let one : one_of x.registration r ≡ 1 = grind (arith, nat_tests, is) in
    omega (arith, sound.users r, least, one)

-- the registration that a client uses has a count that can be lowered
pub lowered : (n : ℕ) (es : Entries) (counts : List ℕ) (x : OpenClient) → CountsUsers es counts → lookup (nat_eq n) es ≡ Some x → IfSome x.registration (λ r. 0 < slice_index_or counts r 0)
lowered n es counts x = lowered_by n es counts x x.registration refl

-- the registration that a new client uses has a count that can be raised
pub raised : (es : Entries) (counts : List ℕ) (known : ℕ) (used : Option ℕ) → CountsUsers es counts → IfSome used (λ r. r < known) → length (values_of es) < 2 ^ 32 - 1
    → IfSome used (λ r. (r < known) × (slice_index_or counts r 0 < 2 ^ 32 - 1))
raised es counts known None sound is few = tt
raised es counts known (Some r) sound is few = (is, omega (arith, sound.users r, count_within number (uses r) (values_of es), few))

-- and so has the one that a client is given
pub raised_again : (n r : ℕ) (es : Entries) (counts : List ℕ) (x : OpenClient) → CountsUsers es counts → lookup (nat_eq n) es ≡ Some x
    → slice_index_or counts r 0 - one_of x.registration r < 2 ^ 32 - 1
raised_again n r es counts x sound there =
    let found : find (is_open n) (values_of es) ≡ Some x = sym (found_by n es sound.keyed) ∙ there in
    let other = count_others number (uses r) n (values_of es) x found in
    grind (arith, nat_tests, sound.users r, other, sound.few)

pub added_counted : (new : OpenClient) (es after : Entries) (counts now : List ℕ) → CountsUsers es counts → length (values_of es) < 2 ^ 32 - 1
    → after ≡ es ++ (number new, new) ∷ [] → IsDistinct nat_eq (keys_of after) → ((r : ℕ) → slice_index_or now r 0 ≡ slice_index_or counts r 0 + one_of new.registration r) → CountsUsers after now
added_counted new es after counts now sound few is apart more =
    now_counted after (values_of es ++ new ∷ []) now (is ∙ added new es sound.keyed) apart
    (λ r. omega (arith, more r, sound.users r, count_pushed number (uses r) (values_of es) new)) (omega (arith, few, length-append (values_of es) (new ∷ [])))

pub added_rows : (new : OpenClient) (es after : Entries) → after ≡ es ++ (number new, new) ∷ [] → values_of after ≡ values_of es ++ new ∷ []
added_rows new es after is = ap values_of is ∙ map-append (λ (entry : ℕ × OpenClient). entry.1) es ((number new, new) ∷ [])

pub removed_counted : (n : ℕ) (es after : Entries) (counts now : List ℕ) (x : OpenClient) → CountsUsers es counts → lookup (nat_eq n) es ≡ Some x
    → after ≡ remove_entry (nat_eq n) es → IsDistinct nat_eq (keys_of after) → ((r : ℕ) → slice_index_or now r 0 ≡ slice_index_or counts r 0 - one_of x.registration r) → CountsUsers after now
removed_counted n es after counts now x sound there is apart less =
    let found : find (is_open n) (values_of es) ≡ Some x = sym (found_by n es sound.keyed) ∙ there in
    now_counted after (without (is_open n) (values_of es)) now (is ∙ removed n es sound.keyed) apart
    (λ r. omega (arith, less r, sound.users r, count_removed number (uses r) n (values_of es) x (apart_now es sound.keyed) found)) (omega (arith, sound.few, count_within number (λ row. not (is_open n row)) (values_of es)))

pub removed_rows : (n : ℕ) (es after : Entries) → IsKeyed number es → after ≡ remove_entry (nat_eq n) es → values_of after ≡ without (is_open n) (values_of es)
removed_rows n es after sound is = ap values_of (is ∙ removed n es sound) ∙ values_keyed number (without (is_open n) (values_of es))

pub given_counted : (n : ℕ) (f : OpenClient → OpenClient) (es after : Entries) (counts now : List ℕ) (x : OpenClient) → ((row : OpenClient) → number (f row) ≡ number row) → CountsUsers es counts → lookup (nat_eq n) es ≡ Some x
    → after ≡ set_value (nat_eq n) es (f x)
    → ((r : ℕ) → slice_index_or now r 0 ≡ slice_index_or counts r 0 - one_of x.registration r + one_of (f x).registration r) → CountsUsers after now
given_counted n f es after counts now x keeps sound there is shifted =
    let apart = subst (IsDistinct nat_eq) (sym (ap keys_of is ∙ keys-set_value (nat_eq n) es (f x))) sound.keyed.apart in
    let found : find (is_open n) (values_of es) ≡ Some x = sym (found_by n es sound.keyed) ∙ there in
    now_counted after (changed (is_open n) f (values_of es)) now (is ∙ given n f es x keeps sound.keyed there) apart
    (λ r. omega (arith, shifted r, sound.users r, count_least number (uses r) n (values_of es) x found, count_changed number (uses r) f n (values_of es) x (apart_now es sound.keyed) found))
    (omega (arith, sound.few, length-map (values_of es) (λ row. if is_open n row then f row else row)))

pub given_rows : (n : ℕ) (f : OpenClient → OpenClient) (es after : Entries) (x : OpenClient) → ((row : OpenClient) → number (f row) ≡ number row) → IsKeyed number es → lookup (nat_eq n) es ≡ Some x → after ≡ set_value (nat_eq n) es (f x)
    → values_of after ≡ changed (is_open n) f (values_of es)
given_rows n f es after x keeps sound there is = ap values_of (is ∙ given n f es x keeps sound there) ∙ values_keyed number (changed (is_open n) f (values_of es))

-- without its controller, a client uses no registration
pub released_users : (n r : ℕ) (rows : List OpenClient) → users_of r (changed (is_open n) uncontrolled rows) ≤ users_of r rows
released_users n r [] = omega arith
released_users n r (x ∷ xs) = grind (arith, nat_tests, released_users n r xs)

-- where no client has the number, nothing is changed
pub unchanged : (n : ℕ) (f : OpenClient → OpenClient) (rows : List OpenClient) → find (is_open n) rows ≡ None → changed (is_open n) f rows ≡ rows
unchanged n f [] none = refl
unchanged n f (x ∷ xs) none = grind (arith, nat_tests, unchanged n f xs)

-- how many clients use a registration, without one
module _ (n r : ℕ) (es : Entries) (rows : List OpenClient) (found : Option OpenClient) (keys : IsKeyed number es) (are : values_of es ≡ rows) (is : found ≡ lookup (nat_eq n) es) where
  abbrev count : List OpenClient → Bool → Type 0
  count of passes = users_of r (changed (is_open n) uncontrolled of) + (if passes then 1 else 0) ≡ users_of r of

  others_in : count rows (option_map_or (uses r) found false)
  others_in =
      subst (λ (of : List OpenClient). count of (option_map_or (uses r) found false)) are
      (by found (sym (found_by n es keys) ∙ sym is))
    where
      by : (o : Option OpenClient) → find (is_open n) (values_of es) ≡ o → count (values_of es) (option_map_or (uses r) o false)
      by None none =
          let same = ap (users_of r) (unchanged n uncontrolled (values_of es) none) in
          omega (arith, same)
      by (Some x) there =
          let less = count_changed number (uses r) uncontrolled n (values_of es) x (apart_now es keys) there in
          omega (arith, less)

  -- one client more uses it, where this one does
  pub others_with : {b : Bool} → b ≡ option_map_or (uses r) found false → b ≡ true → users_of r (changed (is_open n) uncontrolled rows) + 1 ≡ users_of r rows
  others_with same does = subst (count rows) (sym same ∙ does) others_in

  -- and none where it doesn't
  pub others_without : {b : Bool} → b ≡ option_map_or (uses r) found false → b ≡ false → users_of r (changed (is_open n) uncontrolled rows) ≡ users_of r rows
  others_without same not_so =
      let all = subst (count rows) (sym same ∙ not_so) others_in in
      omega (arith, all)

-- ---- clients

pub removed_clients : (n : ℕ) (es after : Entries) → IsKeyed number es → after ≡ remove_entry (nat_eq n) es → map client (values_of after) ≡ without (is_client n) (map client (values_of es))
removed_clients n es after sound is = ap (map client) (removed_rows n es after sound is) ∙ without_clients n (values_of es)

pub given_clients : (n : ℕ) (c : ℕ × ℕ) (es after : Entries) (x : OpenClient) → IsKeyed number es → lookup (nat_eq n) es ≡ Some x → after ≡ set_value (nat_eq n) es (controlled_by c x)
    → map client (values_of after) ≡ changed (is_client n) (λ row. record row { controller = Some c.0 }) (map client (values_of es))
given_clients n c es after x sound there is = ap (map client) (given_rows n (controlled_by c) es after x (λ _. refl) sound there is) ∙ changed_clients n c (values_of es)
