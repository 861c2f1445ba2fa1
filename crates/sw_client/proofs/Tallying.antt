-- The tally of the keys of the clients: what each call does to it.
use Rattle.std.proofs.Common.{◌≡◌, ◌∙◌, ◌+◌, ◌-◌, ℕ, nat_eq, List, [], ◌∷◌, ◌++◌, map, filter, length, slice_get, slice_index_or, take, Some, refl, sym, ap, subst, arith, if◌then◌else◌}
use Rattle.std.specs.Prelude.{bytes_eq, nat_lt}
use Rattle.std.specs.List.{IsDistinct, list_any}
use Rattle.std.specs.Map.{lookup, remove_entry, set_value, values_of}
use Rattle.std.proofs.lemmas.List.{take_more}
use Rattle.std.proofs.lemmas.Option.{get_or_from_slice_get, slice_get_within}
use Rattle.sw_data.specs.declared.rows.ClientRow.{ClientRow}
use Rattle.sw_list.proofs.Tallies.{any_passes, passing_more}
use Rattle.sw_list.specs.Tally.{Tally, Tallies, count_of}
use Rattle.sw_client.specs.declared.OpenClient.{OpenClient}
use Rattle.sw_client.specs.Table.{CountsUsers, IsKept, handed, is_of}
use Rattle.sw_client.proofs.KeyedRows.{count_changed, count_removed}
use Rattle.sw_client.proofs.OfClients.{Entries, added_rows, apart_now, found_by, given_rows, now_counted, number, removed_rows}
use Rattle.sw_client.proofs.TakeOver.{edited, edited_values}

-- no clients, no counts and no keys
pub none_kept : (es : Entries) (counts : List ℕ) (keys : Tally) → es ≡ [] → counts ≡ [] → ((key : List ℕ) → count_of keys key ≡ 0) → IsKept es counts keys
unfolding IsDistinct
none_kept es counts keys no_rows no_counts none =
    subst (λ (all : Entries). IsKept all counts keys) (sym no_rows) (record {
      counted = now_counted [] [] counts refl tt (λ registration. ap (λ (all : List ℕ). slice_index_or all registration 0) no_counts) (omega arith);
      tallied = none;
    })

-- a client of a key is open where the tally has the key
pub any_of : (key : List ℕ) (es : Entries) (keys : Tally) → Tallies is_of (values_of es) keys
    → nat_lt 0 (count_of keys key) ≡ list_any (λ (row : ClientRow). bytes_eq row.key key) (map (λ (row : OpenClient). row.client) (values_of es))
any_of key es keys tallied = ap (nat_lt 0) (tallied key) ∙ (any_passes (is_of key) (values_of es) ∙ of_clients (values_of es))
  where
    of_clients : (rows : List OpenClient) → list_any (is_of key) rows ≡ list_any (λ (row : ClientRow). bytes_eq row.key key) (map (λ (row : OpenClient). row.client) rows)
    of_clients [] = refl
    of_clients (row ∷ rows) = grind (arith, of_clients rows)

pub added_tallied : (new : OpenClient) (es after : Entries) (keys now : Tally) → Tallies is_of (values_of es) keys → after ≡ es ++ (number new, new) ∷ []
    → ((key : List ℕ) → count_of now key ≡ count_of keys key + (if is_of key new then 1 else 0)) → Tallies is_of (values_of after) now
added_tallied new es after keys now tallied is more key =
    let rows = ap (λ (rows : List OpenClient). length (filter (is_of key) rows)) (added_rows new es after is) in
    omega (arith, more key, tallied key, rows, passing_more (is_of key) (values_of es) new)

-- the tally has the keys of the clients to a place and of the one at it
pub keys_at : (rows : List OpenClient) (i : ℕ) (row : OpenClient) (keys now : Tally) → slice_get rows i ≡ Some row → Tallies is_of (take i rows) keys
    → ((key : List ℕ) → count_of now key ≡ count_of keys key + (if is_of key row then 1 else 0)) → Tallies is_of (take (i + 1) rows) now
keys_at rows i row keys now at have more key =
    let front : take (i + 1) rows ≡ take i rows ++ row ∷ [] =
    take_more rows i row (slice_get_within rows i row at) ∙ ap (λ (last : OpenClient). take i rows ++ last ∷ []) (get_or_from_slice_get rows i row row at) in
    let many = ap (λ (all : List OpenClient). length (filter (is_of key) all)) front in
    omega (arith, more key, have key, many, passing_more (is_of key) (take i rows) row)

pub removed_tallied : (n : ℕ) (es after : Entries) (counts : List ℕ) (keys now : Tally) (x : OpenClient) → CountsUsers es counts → Tallies is_of (values_of es) keys → lookup (nat_eq n) es ≡ Some x
    → after ≡ remove_entry (nat_eq n) es → ((key : List ℕ) → count_of now key ≡ count_of keys key - (if is_of key x then 1 else 0)) → Tallies is_of (values_of after) now
removed_tallied n es after counts keys now x sound tallied there is less key =
    let rows = ap (λ (rows : List OpenClient). length (filter (is_of key) rows)) (removed_rows n es after sound.keyed is) in
    omega (arith, less key, tallied key, rows, count_removed number (is_of key) n (values_of es) x (apart_now es sound.keyed) (sym (found_by n es sound.keyed) ∙ there))

-- a client keeps its key
pub given_tallied : (n : ℕ) (f : OpenClient → OpenClient) (es after : Entries) (counts : List ℕ) (keys : Tally) (x : OpenClient) → ((row : OpenClient) → number (f row) ≡ number row)
    → ((row : OpenClient) → (f row).client.key ≡ row.client.key) → CountsUsers es counts → Tallies is_of (values_of es) keys → lookup (nat_eq n) es ≡ Some x
    → after ≡ set_value (nat_eq n) es (f x) → Tallies is_of (values_of after) keys
given_tallied n f es after counts keys x same_number same_key sound tallied there is key =
    let rows = ap (λ (rows : List OpenClient). length (filter (is_of key) rows)) (given_rows n f es after x same_number sound.keyed there is) in
    let same : ◌≡◌ {A = ℕ} (if is_of key (f x) then 1 else 0) (if is_of key x then 1 else 0) = λ i. if bytes_eq (same_key x i) key then 1 else 0 in
    omega (arith, tallied key, rows, same, count_changed number (is_of key) f n (values_of es) x (apart_now es sound.keyed) (sym (found_by n es sound.keyed) ∙ there))

pub handed_tallied : (r w : ℕ) (es after : Entries) (keys : Tally) → Tallies is_of (values_of es) keys → after ≡ edited (handed r w) es → Tallies is_of (values_of after) keys
handed_tallied r w es after keys tallied is key =
    tallied key ∙ sym (ap (λ (rows : List OpenClient). length (filter (is_of key) rows)) (ap values_of is ∙ edited_values (handed r w) es) ∙ same (values_of es))
  where
    same : (rows : List OpenClient) → length (filter (is_of key) (map (handed r w) rows)) ≡ length (filter (is_of key) rows)
    same [] = refl
    same (row ∷ rows) = grind (arith, same rows)
