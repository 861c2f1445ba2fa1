-- Registrations that are forgotten place by place.
use Rattle.std.proofs.Common.{◌≡◌, ◌∙◌, ◌+◌, ◌*◌, ◌<◌, ◌≤◌, ◌&&◌, ◌==◌, ℕ, zero, suc, Bool, true, false, List, [], ◌∷◌, ◌++◌, bytes_eq, filter, map, drop, get_or, length, Option, Some, None, option_map, option_and_then, is_some, refl, sym, ap, subst, arith, if◌then◌else◌}
use Rattle.std.specs.Prelude.{not, slice_get}
use Rattle.std.specs.List.{list_any, range_with_len}
use Rattle.std.specs.Option.{option_map_or}
use Rattle.std.proofs.lemmas.Bool.{and_parts}
use Rattle.std.proofs.lemmas.Bool.Decides.{nat_tests}
use Rattle.std.proofs.lemmas.List.{append-nil, append_assoc, drop_all, length-map}
use Rattle.std.proofs.lemmas.Option.{slice_get-get_or, slice_get-map}
use Rattle.sw_cachestorage.proofs.Scans.{none_at, past_stay}
use Rattle.sw_cachestorage.proofs.Walks.{front}
use Rattle.sw_cachestorage.specs.Forgetting.{forget_at, forget_one, has_pending_of, mapped_at, mapped_of, room_of}
use Rattle.sw_data.specs.declared.answers.Notice.{Notice}
use Rattle.sw_data.specs.declared.rows.RegistrationRow.{RegistrationRow}
use Rattle.sw_data.specs.declared.storage.KeptCache.{KeptCache}
use Rattle.sw_data.specs.declared.workers.Slot.{Slot}
use Rattle.sw_data.specs.declared.workers.Slot.TheVariants as slot
use Rattle.sw_data.specs.declared.workers.WorkerState.TheVariants as worker_state
use Rattle.sw_reg.specs.Table.{is_there, registration_at}
use Rattle.sw_rules.specs.Forgetting.{forget_key, forget_registrations, is_mapped_of}
use Rattle.sw_rules.specs.Noticing.{Did, NoticeList}
use Rattle.sw_rules.specs.Registrations.{become, clear, retire, unmap}
use Rattle.sw_rules.specs.Rows.{changed, has_pending, has_pending_worker, is_registration, is_worker, slot_worker}
use Rattle.sw_rules.specs.State.{State, Registration, Worker}
use Rattle.sw_rules.specs.Told.{Told, followed, quiet}
use Rattle.sw_state.specs.Hosted.{Hosted, shown_of, state_of}
use Rattle.sw_tables.proofs.Rows.{any_same}
use Rattle.sw_tables.specs.Linked.{ArePlaces}

-- ---- what stays

-- own: registrations stay, and what is pending on their workers
record StayCalm (old : State) (told : Told) : Type 0 where
  registrations : told.state.registrations ≡ old.registrations
  pending : (m : ℕ) → has_pending_worker told.state m ≡ has_pending_worker old m

retire_calm : (from : State) (place : Slot) (registration : ℕ) → StayCalm from (retire from place registration)
unfolding retire become
retire_calm from place registration = by (slot_worker from place registration)
  where
    by : (o : Option Worker) → StayCalm from (elim o [ None ↦ quiet from | Some old ↦ become from old.number worker_state.Redundant ])
    by None = record { registrations = refl; pending = λ m. refl }
    by (Some old) = record {
      registrations = refl;
      pending = λ m. any_same (λ row. row.registration == m && has_pending from row) (λ row. if is_worker old.number row then record row { state = worker_state.Redundant } else row) (λ row. grind arith) from.workers;
    }

clear_calm : (from : State) (registration : ℕ) → StayCalm from (clear from registration)
unfolding clear followed
clear_calm from registration =
    let one = (retire from slot.Installing registration).state in
    let two = (retire one slot.Waiting registration).state in
    let first = retire_calm from slot.Installing registration in
    let second = retire_calm one slot.Waiting registration in
    let third = retire_calm two slot.Active registration in
    record {
      registrations = third.registrations ∙ (second.registrations ∙ first.registrations);
      pending = λ m. third.pending m ∙ (second.pending m ∙ first.pending m);
    }

-- the registrations when this one has left the map
abbrev left_map : ℕ → List Registration → List Registration
left_map number rows = changed (is_registration number) (λ row. record row { mapped = false }) rows

one_registrations : (from : State) (number : ℕ) → (forget_one from number).state.registrations ≡ left_map number from.registrations
unfolding unmap followed
one_registrations from number = (clear_calm (unmap from number).state number).registrations

one_pending : (from : State) (number m : ℕ) → has_pending_worker (forget_one from number).state m ≡ has_pending_worker from m
unfolding unmap followed
one_pending from number = (clear_calm (unmap from number).state number).pending

-- what is pending on the workers of a key stays
pending_stays : (key : List ℕ) (from : State) (number : ℕ) → has_pending_of key (forget_one from number).state ≡ has_pending_of key from
pending_stays key from number =
    ap (list_any (λ row. bytes_eq row.key key && has_pending_worker (forget_one from number).state row.number)) (one_registrations from number)
    ∙ (any_same (λ row. bytes_eq row.key key && has_pending_worker (forget_one from number).state row.number)
    (λ row. if is_registration number row then record row { mapped = false } else row) (λ row. unmapped row (is_registration number row)) from.registrations
    ∙ (λ i. list_any (λ row. bytes_eq row.key key && one_pending from number row.number i) from.registrations))
  where
    unmapped : (row : Registration) (b : Bool)
        → (let same = if b then record row { mapped = false } else row in bytes_eq same.key key && has_pending_worker (forget_one from number).state same.number)
        ≡ (bytes_eq row.key key && has_pending_worker (forget_one from number).state row.number)
    unmapped row true = refl
    unmapped row false = refl

-- and what is read of the registrations does, where it isn't whether they are mapped
reads_stay : {Y : Type 0} (read : Registration → Y) → ((row : Registration) → read (record row { mapped = false }) ≡ read row) → (number : ℕ) (rows : List Registration)
    → map read (left_map number rows) ≡ map read rows
reads_stay read same number [] = refl
reads_stay read same number (row ∷ rows) = by (is_registration number row) (reads_stay read same number rows)
  where
    by : (b : Bool) → map read (left_map number rows) ≡ map read rows
        → read (if b then record row { mapped = false } else row) ∷ map read (left_map number rows) ≡ read row ∷ map read rows
    by true later = (λ i. same row i ∷ later i)
    by false later = ap (λ rest. read row ∷ rest) later

-- ---- the registration at a place

-- a registration leaves the map and is cleared, where it is a mapped one of the key
unfoldable forget_row : List ℕ → State → Registration → Told
forget_row key state row = if is_mapped_of key row then forget_one state row.number else quiet state

at_row : (key : List ℕ) (state : State) (place : ℕ) (row : Registration) → slice_get state.registrations place ≡ Some row → forget_at key state place ≡ forget_row key state row
unfolding forget_row
at_row key state place row here =
    ap (λ o. option_map_or (forget_one state) (option_and_then (λ r. if is_mapped_of key r then Some r.number else None) o) (quiet state)) here
    ∙ by (is_mapped_of key row)
  where
    by : (b : Bool) → option_map_or (forget_one state) (if b then Some row.number else None) (quiet state) ≡ (if b then forget_one state row.number else quiet state)
    by true = refl
    by false = refl

pub asked_of : (key : List ℕ) (state : State) (place : ℕ) (row : Registration) → slice_get state.registrations place ≡ Some row
    → mapped_at key state place ≡ (if is_mapped_of key row then Some row.number else None)
asked_of key state place row here = ap (option_and_then (λ r. if is_mapped_of key r then Some r.number else None)) here

-- where nothing is pending on the workers of a key, nothing is on those of its registration at a place
pub quiet_here : (key : List ℕ) (state : State) (place number : ℕ) → has_pending_of key state ≡ false → mapped_at key state place ≡ Some number → has_pending_worker state number ≡ false
quiet_here key state place number quiet is = by (slice_get state.registrations place) refl is
  where
    one : (row : Registration) (b : Bool) → slice_get state.registrations place ≡ Some row → is_mapped_of key row ≡ b → (if b then Some row.number else None) ≡ Some number → has_pending_worker state number ≡ false
    one row true here passes same =
        let own : row.number ≡ number = cc in
        let of_key = (and_parts row.mapped (bytes_eq row.key key) passes).1 in
        let none = none_at (λ r. bytes_eq r.key key && has_pending_worker state r.number) state.registrations quiet place row here in
        ap (has_pending_worker state) (sym own) ∙ grind (arith, of_key, none)
    one row false here fails same = absurd cc

    by : (o : Option Registration) → slice_get state.registrations place ≡ o → option_and_then (λ r. if is_mapped_of key r then Some r.number else None) o ≡ Some number → has_pending_worker state number ≡ false
    by None here same = absurd cc
    by (Some row) here same = one row (is_mapped_of key row) here refl same

-- ---- the rows behind a place stay

behind_from : (base place : ℕ) (rows : List Registration) (row : Registration) → map (λ row. row.number) rows ≡ range_with_len base (length rows) → slice_get rows place ≡ Some row
    → drop (suc place) (left_map row.number rows) ≡ drop (suc place) rows
behind_from base place [] row are is = absurd cc
behind_from base zero (first ∷ rows) row are is =
    let here : row.number ≡ base = cc in
    past_stay (λ (r : Registration). r.number) (λ r. record r { mapped = false }) row.number (base + 1) (omega (arith, here)) rows cc
behind_from base (suc place) (first ∷ rows) row are is = behind_from (base + 1) place rows row (cc) is

behind : (place : ℕ) (rows : List Registration) (row : Registration) → ArePlaces (λ row. row.number) rows → slice_get rows place ≡ Some row
    → drop (place + 1) (left_map row.number rows) ≡ drop (place + 1) rows
behind place rows row are is =
    let next : place + 1 ≡ suc place = omega arith in
    ap (λ n. drop n (left_map row.number rows)) next ∙ behind_from 0 place rows row are is ∙ ap (λ n. drop n rows) (sym next)

-- ---- one place after another

-- the mapped registrations of a key among these are forgotten
abbrev forget_of : List ℕ → State → List Registration → Told
forget_of key state rows = forget_registrations state (filter (is_mapped_of key) rows)

-- own: the registrations are forgotten up to this place, nothing is pending on the workers of the key, and there is room for those that are left
pub record IsLeft (key : List ℕ) (old : State) (before : NoticeList) (new : State) (after : NoticeList) (place : ℕ) : Type 0 where
  pub state : (forget_of key old old.registrations).state ≡ (forget_of key new (drop place new.registrations)).state
  pub notices : before.rows ++ (forget_of key old old.registrations).notices ≡ after.rows ++ (forget_of key new (drop place new.registrations)).notices
  pub quiet : has_pending_of key new ≡ false
  pub room : 4 * length (filter (is_mapped_of key) (drop place new.registrations)) ≤ after.spare
  pub places : ArePlaces (λ (row : Registration). row.number) new.registrations
  pub many : length new.registrations ≡ length old.registrations

pub none_left : (key : List ℕ) (old : State) (before : NoticeList) → has_pending_of key old ≡ false → 4 * length (mapped_of key old) ≤ before.spare
    → ArePlaces (λ (row : Registration). row.number) old.registrations → IsLeft key old before old before 0
none_left key old before quiet room places = record {
  state = refl;
  notices = refl;
  quiet = quiet;
  room = room;
  places = places;
  many = refl;
}

module _ (key : List ℕ) (from : State) (row : Registration) (rows : List Registration) where
  first_state : (forget_of key from (row ∷ rows)).state ≡ (forget_of key (forget_row key from row).state rows).state
  unfolding forget_registrations forget_row followed
  first_state = by (is_mapped_of key row) refl
    where
      by : (b : Bool) → is_mapped_of key row ≡ b → (forget_of key from (row ∷ rows)).state ≡ (forget_of key (forget_row key from row).state rows).state
      by true is = rw is refl
      by false is = rw is refl

  first_notices : (forget_of key from (row ∷ rows)).notices ≡ (forget_row key from row).notices ++ (forget_of key (forget_row key from row).state rows).notices
  unfolding forget_registrations forget_row unmap followed
  first_notices = by (is_mapped_of key row) refl
    where
      by : (b : Bool) → is_mapped_of key row ≡ b → (forget_of key from (row ∷ rows)).notices ≡ (forget_row key from row).notices ++ (forget_of key (forget_row key from row).state rows).notices
      by true is = rw is refl
      by false is = rw is refl

module _ (key : List ℕ) (place : ℕ) (from to : State) (before after : NoticeList) (row : Registration) (are : ArePlaces (λ (r : Registration). r.number) from.registrations)
    (here : slice_get from.registrations place ≡ Some row) (did : Did (forget_at key from place) before after to) where
  told : forget_at key from place ≡ forget_row key from row
  told = at_row key from place row here

  becomes : (forget_row key from row).state ≡ to
  becomes = sym (did.state ∙ ap (λ (t : Told). t.state) told)

  others_stay : drop (place + 1) to.registrations ≡ drop (place + 1) from.registrations
  unfolding forget_row
  others_stay = ap (λ (s : State). drop (place + 1) s.registrations) (sym becomes) ∙ by (is_mapped_of key row) refl
    where
      by : (b : Bool) → is_mapped_of key row ≡ b → drop (place + 1) (forget_row key from row).state.registrations ≡ drop (place + 1) from.registrations
      by true is = rw is (ap (drop (place + 1)) (one_registrations from row.number) ∙ behind place from.registrations row are here)
      by false is = rw is refl

  same_reads : {Y : Type 0} (read : Registration → Y) → ((r : Registration) → read (record r { mapped = false }) ≡ read r) → map read to.registrations ≡ map read from.registrations
  unfolding forget_row
  same_reads read same = ap (λ (s : State). map read s.registrations) (sym becomes) ∙ by (is_mapped_of key row) refl
    where
      by : (b : Bool) → is_mapped_of key row ≡ b → map read (forget_row key from row).state.registrations ≡ map read from.registrations
      by true is = rw is (ap (map read) (one_registrations from row.number) ∙ reads_stay read same row.number from.registrations)
      by false is = rw is refl

  same_numbers : map (λ (r : Registration). r.number) to.registrations ≡ map (λ (r : Registration). r.number) from.registrations
  same_numbers = same_reads (λ (r : Registration). r.number) (λ r. refl)

  pub same_keys : map (λ (r : Registration). r.key) to.registrations ≡ map (λ (r : Registration). r.key) from.registrations
  same_keys = same_reads (λ (r : Registration). r.key) (λ r. refl)

  same_many : length to.registrations ≡ length from.registrations
  same_many =
      sym (length-map to.registrations (λ (r : Registration). r.number))
      ∙ (ap length same_numbers ∙ length-map from.registrations (λ (r : Registration). r.number))

  still_quiet : has_pending_of key to ≡ has_pending_of key from
  unfolding forget_row
  still_quiet = ap (has_pending_of key) (sym becomes) ∙ by (is_mapped_of key row) refl
    where
      by : (b : Bool) → is_mapped_of key row ≡ b → has_pending_of key (forget_row key from row).state ≡ has_pending_of key from
      by true is = rw is (pending_stays key from row.number)
      by false is = rw is refl

  abbrev left : List Registration
  left = drop (place + 1) from.registrations

  then_forgotten : forget_of key (forget_row key from row).state left ≡ forget_of key to (drop (place + 1) to.registrations)
  then_forgotten = (λ i. forget_of key (becomes i) (sym others_stay i))

  state_step : (forget_of key from (drop place from.registrations)).state ≡ (forget_of key to (drop (place + 1) to.registrations)).state
  state_step =
      ap (λ rows. (forget_of key from rows).state) (front from.registrations place row here)
      ∙ (first_state key from row left ∙ ap (λ (t : Told). t.state) then_forgotten)

  notices_step : before.rows ++ (forget_of key from (drop place from.registrations)).notices ≡ after.rows ++ (forget_of key to (drop (place + 1) to.registrations)).notices
  notices_step =
      ap (λ rows. before.rows ++ (forget_of key from rows).notices) (front from.registrations place row here)
      ∙ (ap (λ (notices : List Notice). before.rows ++ notices) (first_notices key from row left ∙ ap (λ (t : Told). (forget_row key from row).notices ++ t.notices) then_forgotten)
      ∙ (sym (append_assoc before.rows (forget_row key from row).notices (forget_of key to (drop (place + 1) to.registrations)).notices)
      ∙ ap (λ (rows : List Notice). rows ++ (forget_of key to (drop (place + 1) to.registrations)).notices) (sym (did.notices ∙ ap (λ (t : Told). before.rows ++ t.notices) told))))

  -- those that are left, with this one where it is mapped
  count_here : length (filter (is_mapped_of key) (drop place from.registrations)) ≡ length (if is_mapped_of key row then row ∷ filter (is_mapped_of key) left else filter (is_mapped_of key) left)
  count_here = ap (λ rows. length (filter (is_mapped_of key) rows)) (front from.registrations place row here)

  room_step : 4 * length (filter (is_mapped_of key) (drop place from.registrations)) ≤ before.spare → before.spare ≤ after.spare + room_of (mapped_at key from place)
      → 4 * length (filter (is_mapped_of key) (drop (place + 1) to.registrations)) ≤ after.spare
  room_step room used =
      by (is_mapped_of key row) count_here (ap room_of (asked_of key from place row here)) (ap (λ rows. length (filter (is_mapped_of key) rows)) others_stay)
    where
      by : (b : Bool) → length (filter (is_mapped_of key) (drop place from.registrations)) ≡ length (if b then row ∷ filter (is_mapped_of key) left else filter (is_mapped_of key) left)
          → room_of (mapped_at key from place) ≡ room_of (if b then Some row.number else None)
          → length (filter (is_mapped_of key) (drop (place + 1) to.registrations)) ≡ length (filter (is_mapped_of key) left)
          → 4 * length (filter (is_mapped_of key) (drop (place + 1) to.registrations)) ≤ after.spare
      by true count ask same = omega (arith, count, ask, same, room, used)
      by false count ask same = omega (arith, count, ask, same, room, used)

  pub next_left : before.spare ≤ after.spare + room_of (mapped_at key from place) → (old : State) (first : NoticeList) → IsLeft key old first from before place → IsLeft key old first to after (place + 1)
  next_left used old first so_far = record {
    state = so_far.state ∙ state_step;
    notices = so_far.notices ∙ notices_step;
    quiet = still_quiet ∙ so_far.quiet;
    room = room_step so_far.room used;
    places = same_numbers ∙ (are ∙ ap (range_with_len 0) (sym same_many));
    many = same_many ∙ so_far.many;
  }

module _ (key : List ℕ) (old : State) (first : NoticeList) (from : State) (before : NoticeList) (place : ℕ) (so_far : IsLeft key old first from before place) (row : Registration)
    (here : slice_get from.registrations place ≡ Some row) where
  -- there is room for the registration at this place
  pub room_here : room_of (mapped_at key from place) ≤ before.spare
  room_here =
      by (is_mapped_of key row) (ap (λ rows. length (filter (is_mapped_of key) rows)) (front from.registrations place row here)) (ap room_of (asked_of key from place row here)) so_far.room
    where
      by : (b : Bool) → length (filter (is_mapped_of key) (drop place from.registrations))
          ≡ length (if b then row ∷ filter (is_mapped_of key) (drop (place + 1) from.registrations) else filter (is_mapped_of key) (drop (place + 1) from.registrations))
          → room_of (mapped_at key from place) ≡ room_of (if b then Some row.number else None)
          → 4 * length (filter (is_mapped_of key) (drop place from.registrations)) ≤ before.spare → room_of (mapped_at key from place) ≤ before.spare
      by true count ask room = omega (arith, count, ask, room)
      by false count ask room = omega (arith, ask)

-- all places are done, and the caches of the key are removed
pub all_left : (key : List ℕ) (old new : State) (first last : NoticeList) (place : ℕ) (caches : List KeptCache)
    → IsLeft key old first new last place → length old.registrations ≤ place → caches ≡ filter (λ row. not (bytes_eq row.key key)) new.caches
    → Did (forget_key old key) first last (record new { caches = caches })
unfolding forget_key forget_registrations
all_left key old new first last place caches left far removed =
    let many = left.many in
    let none = drop_all place new.registrations (omega (arith, many, far)) in
    let done : (forget_of key old old.registrations).state ≡ new = left.state ∙ ap (λ rows. (forget_of key new rows).state) none in
    record {
      state = sym (ap (λ (s : State). record s { caches = filter (λ row. not (bytes_eq row.key key)) s.caches }) done ∙ (λ i. record new { caches = sym removed i }));
      notices = sym (append-nil last.rows) ∙ sym (left.notices ∙ ap (λ rows. last.rows ++ (forget_of key new rows).notices) none);
    }

-- ---- on the tables

here_from : (base place : ℕ) (rows : List RegistrationRow) (row : RegistrationRow) → map (λ r. r.number) rows ≡ range_with_len base (length rows) → slice_get rows place ≡ Some row
    → (base ≤ row.number) × (registration_at row.number rows ≡ Some row)
here_from base place [] row are is = absurd cc
here_from base zero (first ∷ rows) row are is =
    let here : first.number ≡ base = cc in
    let same : first ≡ row = cc in
    let own : row.number ≡ base = cc in (
      omega (arith, own),
      grind (arith, nat_tests, own, here, same),
    )
here_from base (suc place) (first ∷ rows) row are is =
    let here : first.number ≡ base = cc in
    let later = here_from (base + 1) place rows row (cc) is in
    let above = later.0 in
    let found = later.1 in (
      omega (arith, above),
      grind (arith, nat_tests, here, above, found),
    )

-- the registration at a place is that of its number
pub there_at : (rows : List RegistrationRow) (place : ℕ) (row : RegistrationRow) → ArePlaces (λ r. r.number) rows → slice_get rows place ≡ Some row → is_there row.number rows ≡ true
there_at rows place row are is = ap is_some (here_from 0 place rows row are is).1

-- a row that is read at a place is there
pub read_at : (xs ys : List RegistrationRow) (place : ℕ) (row : RegistrationRow) → xs ≡ ys → place < length xs → row ≡ get_or xs place row → slice_get ys place ≡ Some row
read_at xs ys place row same within is =
    subst (λ (zs : List RegistrationRow). slice_get zs place ≡ Some row) same (slice_get-get_or xs place row within ∙ ap Some (sym is))

-- it is the mapped one of the key, or it isn't
pub shown_at : (host : Hosted) (key : List ℕ) (place : ℕ) (found : Option RegistrationRow) → slice_get host.registrations.rows place ≡ found
    → mapped_at key (state_of host) place ≡ option_and_then (λ row. if is_mapped_of key (shown_of host row) then Some row.number else None) found
shown_at host key place found is =
    ap (option_and_then (λ (row : Registration). if is_mapped_of key row then Some row.number else None)) (slice_get-map (shown_of host) host.registrations.rows place ∙ ap (option_map (shown_of host)) is)
    ∙ by found
  where
    by : (o : Option RegistrationRow) → option_and_then (λ (row : Registration). if is_mapped_of key row then Some row.number else None) (option_map (shown_of host) o)
        ≡ option_and_then (λ row. if is_mapped_of key (shown_of host row) then Some row.number else None) o
    by None = refl
    by (Some row) = refl
