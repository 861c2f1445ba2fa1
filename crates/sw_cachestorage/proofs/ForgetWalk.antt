-- A walk over the registrations of a key that counts the mapped ones, or forgets one after another.
use Rattle.std.proofs.Common.{◌≡◌, ◌∙◌, ◌+◌, ◌-◌, ◌*◌, ◌<◌, ◌≤◌, ◌&&◌, ℕ, Bool, true, false, List, ◌∷◌, ◌++◌, bytes_eq, filter, map, drop, length, is_some, Option, Some, None, option_map, refl, sym, ap, subst, arith, if◌then◌else◌}
use Rattle.std.specs.Int.{from_bool}
use Rattle.std.specs.Prelude.{not, slice_get}
use Rattle.std.specs.Option.{IfSome}
use Rattle.std.proofs.lemmas.List.{length-map}
use Rattle.std.proofs.lemmas.Option.{slice_get-map}
use Rattle.sw_cachestorage.proofs.ForgetPlaces.{IsLeft, all_left, asked_of, next_left, none_left, room_here, same_keys}
use Rattle.sw_cachestorage.proofs.Walks.{HasKeyAt, ahead, at_end, at_one, first_passed, first_stands, next_further, next_passed, next_stands, place_of, shown_here, stands_at}
use Rattle.sw_cachestorage.specs.Forgetting.{forget_at, has_pending_of, mapped_at, mapped_of, room_of}
use Rattle.sw_data.specs.declared.rows.RegistrationRow.{RegistrationRow}
use Rattle.sw_data.specs.declared.storage.KeptCache.{KeptCache}
use Rattle.sw_reg.specs.Table.{first_of, next_of}
use Rattle.sw_rules.specs.Forgetting.{forget_key, forget_registrations, is_mapped_of}
use Rattle.sw_rules.specs.Noticing.{Did, NoticeList}
use Rattle.sw_rules.specs.State.{State, Registration}
use Rattle.sw_state.specs.Hosted.{Hosted, shown_of, state_of}
use Rattle.sw_tables.specs.Linked.{ArePlaces}

and_false : (a b : Bool) → b ≡ false → (a && b) ≡ false
and_false true b is = is
and_false false b is = refl

-- a registration of another key is not a mapped one of the key
skips : (key : List ℕ) (row : Registration) (rows : List Registration) → bytes_eq row.key key ≡ false → filter (is_mapped_of key) (row ∷ rows) ≡ filter (is_mapped_of key) rows
skips key row rows other =
    ap (λ (b : Bool). if b then row ∷ filter (is_mapped_of key) rows else filter (is_mapped_of key) rows) (and_false row.mapped (bytes_eq row.key key) other)

-- ---- the mapped ones are counted

-- own: the walk stands here, and this many mapped registrations of the key are behind it
pub record CountsMapped (key : List ℕ) (host : Hosted) (many : ℕ) (at : Option ℕ) : Type 0 where
  pub stands : IfSome at (HasKeyAt key host.registrations.rows)
  pub counted : length (mapped_of key (state_of host)) ≡ many + length (filter (is_mapped_of key) (ahead host at))
  pub few : many ≤ place_of host.registrations.rows at

pub none_counted : (key : List ℕ) (host : Hosted) (at : Option ℕ) → at ≡ first_of key host.registrations.rows → CountsMapped key host 0 at
none_counted key host at is = record {
  stands = first_stands key host.registrations.rows at is;
  counted =
      let passed : length (filter (is_mapped_of key) (state_of host).registrations) ≡ length (filter (is_mapped_of key) (ahead host at)) = ap length (first_passed key host (filter (is_mapped_of key)) (skips key) at is) in
      omega (arith, passed);
  few = omega arith;
}

pub one_most : (b : Bool) → from_bool b ≤ 1
one_most true = omega arith
one_most false = omega arith

module _ (key : List ℕ) (host : Hosted) (many : ℕ) (at : Option ℕ) (n : ℕ) (so_far : CountsMapped key host many at) (is : at ≡ Some n) where
  here : HasKeyAt key host.registrations.rows n
  here = stands_at key host.registrations.rows at n so_far.stands is

  pub few_behind : many ≤ n
  few_behind =
      let few = so_far.few in
      let place : place_of host.registrations.rows at ≡ n = ap (place_of host.registrations.rows) is in
      omega (arith, few, place)

  -- the one here counts where it is mapped
  count_here : (rest : List Registration) (row : Registration) (all more left next : ℕ) (b : Bool) → all ≡ many + left → left ≡ length (if b then row ∷ rest else rest)
      → more ≡ from_bool (is_some (if b then Some row.number else None)) → length rest ≡ next → all ≡ many + more + next
  count_here rest row all more left next true counted count own passed = omega (arith, counted, count, own, passed)
  count_here rest row all more left next false counted count own passed = omega (arith, counted, count, own, passed)

  pub one_counted : (next : Option ℕ) → next ≡ next_of n host.registrations.rows → (more : ℕ) → more ≡ from_bool (is_some (mapped_at key (state_of host) n)) → CountsMapped key host (many + more) next
  one_counted next goes_to more one = record {
    stands = next_stands key host.registrations.rows n next here goes_to;
    counted =
        count_here (filter (is_mapped_of key) (drop (n + 1) (state_of host).registrations)) (shown_of host here.row) (length (mapped_of key (state_of host))) more
        (length (filter (is_mapped_of key) (ahead host at))) (length (filter (is_mapped_of key) (ahead host next))) (is_mapped_of key (shown_of host here.row)) so_far.counted
        (ap (λ (rows : List Registration). length (filter (is_mapped_of key) rows)) (at_one key host at n here is))
        (one ∙ ap (λ (o : Option ℕ). from_bool (is_some o)) (asked_of key (state_of host) n (shown_of host here.row) (shown_here host n here.row here.here)))
        (ap length (next_passed key host (filter (is_mapped_of key)) (skips key) n next here goes_to));
    few =
        let few = few_behind in
        let further = (next_further key host.registrations.rows n next here goes_to).0 in
        let most = one_most (is_some (mapped_at key (state_of host) n)) in
        omega (arith, few, further, one, most);
  }

pub all_counted : (key : List ℕ) (host : Hosted) (many : ℕ) (at : Option ℕ) → CountsMapped key host many at → at ≡ None → many ≡ length (mapped_of key (state_of host))
all_counted key host many at so_far is =
    let none : length (filter (is_mapped_of key) (ahead host at)) ≡ 0 = ap (λ (rows : List Registration). length (filter (is_mapped_of key) rows)) (at_end host at is) in
    let all = so_far.counted in
    omega (arith, all, none)

-- ---- one after another is forgotten

-- own: the walk stands here, and the mapped registrations of the key behind it are forgotten
pub record IsForgotten (key : List ℕ) (old : State) (first : NoticeList) (host : Hosted) (last : NoticeList) (at : Option ℕ) : Type 0 where
  pub stands : IfSome at (HasKeyAt key host.registrations.rows)
  pub left : IsLeft key old first (state_of host) last (place_of host.registrations.rows at)

-- the same are left to be forgotten
moved : (key : List ℕ) (old new : State) (first last : NoticeList) (p q : ℕ) → filter (is_mapped_of key) (drop p new.registrations) ≡ filter (is_mapped_of key) (drop q new.registrations)
    → IsLeft key old first new last p → IsLeft key old first new last q
moved key old new first last p q same left = record {
  state = left.state ∙ ap (λ (rows : List Registration). (forget_registrations new rows).state) same;
  notices = left.notices ∙ ap (λ (rows : List Registration). last.rows ++ (forget_registrations new rows).notices) same;
  quiet = left.quiet;
  room = subst (λ (rows : List Registration). 4 * length rows ≤ last.spare) same left.room;
  places = left.places;
  many = left.many;
}

pub none_forgotten : (key : List ℕ) (host : Hosted) (first : NoticeList) (at : Option ℕ) → at ≡ first_of key host.registrations.rows → has_pending_of key (state_of host) ≡ false
    → 4 * length (mapped_of key (state_of host)) ≤ first.spare → ArePlaces (λ (row : Registration). row.number) (state_of host).registrations
    → IsForgotten key (state_of host) first host first at
none_forgotten key host first at is quiet room places = record {
  stands = first_stands key host.registrations.rows at is;
  left =
      moved key (state_of host) (state_of host) first first 0 (place_of host.registrations.rows at) (first_passed key host (filter (is_mapped_of key)) (skips key) at is)
      (none_left key (state_of host) first quiet room places);
}

-- the keys of the rows are those of the state
key_shown : (host : Hosted) (n : ℕ) → slice_get (map (λ (row : Registration). row.key) (state_of host).registrations) n ≡ option_map (λ (row : RegistrationRow). row.key) (slice_get host.registrations.rows n)
key_shown host n =
    slice_get-map (λ (row : Registration). row.key) (state_of host).registrations n
    ∙ (ap (option_map (λ (row : Registration). row.key)) (slice_get-map (shown_of host) host.registrations.rows n)
    ∙ by (slice_get host.registrations.rows n))
  where
    by : (o : Option RegistrationRow) → option_map (λ (row : Registration). row.key) (option_map (shown_of host) o) ≡ option_map (λ (row : RegistrationRow). row.key) o
    by None = refl
    by (Some row) = refl

module _ (key : List ℕ) (old : State) (first : NoticeList) (from : Hosted) (before : NoticeList) (at : Option ℕ) (n : ℕ) (so_far : IsForgotten key old first from before at) (is : at ≡ Some n) where
  stands_here : HasKeyAt key from.registrations.rows n
  stands_here = stands_at key from.registrations.rows at n so_far.stands is

  abbrev row_here : Registration
  row_here = shown_of from stands_here.row

  at_row : slice_get (state_of from).registrations n ≡ Some row_here
  at_row = shown_here from n stands_here.row stands_here.here

  left_here : IsLeft key old first (state_of from) before n
  left_here = subst (λ (o : Option ℕ). IsLeft key old first (state_of from) before (place_of from.registrations.rows o)) is so_far.left

  -- there is room for the registration here
  pub room_for : room_of (mapped_at key (state_of from) n) ≤ before.spare
  room_for = room_here key old first (state_of from) before n left_here row_here at_row

  module _ (to : Hosted) (after : NoticeList) (did : Did (forget_at key (state_of from) n) before after (state_of to)) where
    -- a registration of the key stands where one stood
    still : HasKeyAt key to.registrations.rows n
    still = by (slice_get to.registrations.rows n) refl key_at
      where
        key_at : option_map (λ (row : RegistrationRow). row.key) (slice_get to.registrations.rows n) ≡ Some stands_here.row.key
        key_at =
            sym (key_shown to n)
            ∙ (ap (λ (keys : List (List ℕ)). slice_get keys n) (same_keys key n (state_of from) (state_of to) before after row_here left_here.places at_row did)
            ∙ (key_shown from n
            ∙ ap (option_map (λ (row : RegistrationRow). row.key)) stands_here.here))

        by : (o : Option RegistrationRow) → slice_get to.registrations.rows n ≡ o → option_map (λ (row : RegistrationRow). row.key) o ≡ Some stands_here.row.key → HasKeyAt key to.registrations.rows n
        by None there of_key = absurd cc
        by (Some now) there of_key =
            let same : now.key ≡ stands_here.row.key = cc in
            record { row = now; here = there; own = ap (λ (k : List ℕ). bytes_eq k key) same ∙ stands_here.own }

    module _ (used : before.spare ≤ after.spare + room_of (mapped_at key (state_of from) n)) (next : Option ℕ) (goes_to : next ≡ next_of n to.registrations.rows) where
      behind : IsLeft key old first (state_of to) after (n + 1)
      behind = next_left key n (state_of from) (state_of to) before after row_here left_here.places at_row did used old first left_here

      pub one_forgotten : IsForgotten key old first to after next
      one_forgotten = record {
        stands = next_stands key to.registrations.rows n next still goes_to;
        left = moved key old (state_of to) first after (n + 1) (place_of to.registrations.rows next) (next_passed key to (filter (is_mapped_of key)) (skips key) n next still goes_to) behind;
      }

      -- the walk is nearer to the end
      pub nearer_now : length to.registrations.rows - place_of to.registrations.rows next < length from.registrations.rows - place_of from.registrations.rows at
      nearer_now =
          let further = next_further key to.registrations.rows n next still goes_to in
          let place : place_of from.registrations.rows at ≡ n = ap (place_of from.registrations.rows) is in
          let many_before = left_here.many in
          let many_behind = behind.many in
          let rows_before = length-map from.registrations.rows (shown_of from) in
          let rows_behind = length-map to.registrations.rows (shown_of to) in
          omega (arith, further.0, further.1, place, many_before, many_behind, rows_before, rows_behind)

-- at the end all are forgotten, and the caches of the key are removed
pub all_forgotten : (key : List ℕ) (old : State) (first : NoticeList) (host : Hosted) (last : NoticeList) (at : Option ℕ) (caches : List KeptCache)
    → IsForgotten key old first host last at → at ≡ None → caches ≡ filter (λ row. not (bytes_eq row.key key)) host.caches.rows
    → Did (forget_key old key) first last (record (state_of host) { caches = caches })
all_forgotten key old first host last at caches so_far is removed =
    let place : place_of host.registrations.rows at ≡ length host.registrations.rows = ap (place_of host.registrations.rows) is in
    let many = so_far.left.many in
    let rows = length-map host.registrations.rows (shown_of host) in
    all_left key old (state_of host) first last (place_of host.registrations.rows at) caches so_far.left (omega (arith, place, many, rows)) removed
