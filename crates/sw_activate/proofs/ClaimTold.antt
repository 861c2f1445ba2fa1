-- The durable changes of claims are those of the registrations whose workers their notices make active.
use Rattle.std.proofs.Common.{◌≡◌, ◌∙◌, ◌<◌, ◌+◌, ◌==◌, ◌&&◌, ◌||◌, ℕ, Bool, true, false, true≢false, List, [], ◌∷◌, ◌++◌, map, filter, find, length, get_or, take, is_some, Option, Some, None, option_and_then, refl, sym, ap, arith, if◌then◌else◌}
use Rattle.std.specs.List.{filter_map, flat_map, list_any}
use Rattle.std.specs.Option.{option_map_or}
use Rattle.std.specs.Prelude.{option_to_list}
use Rattle.std.proofs.lemmas.Bool.Decides.{nat_tests}
use Rattle.std.proofs.lemmas.Grind.{flat_map-append}
use Rattle.std.proofs.lemmas.List.{append-nil, take_more}
use Rattle.std.proofs.lemmas.List.Elements.{filter_map-append}
use Rattle.sw_data.specs.declared.answers.Notice.{Notice}
use Rattle.sw_data.specs.declared.answers.Notice.TheVariants as notice
use Rattle.sw_data.specs.declared.rows.ClientRow.{ClientRow}
use Rattle.sw_data.specs.declared.storage.Change.{Change}
use Rattle.sw_data.specs.declared.storage.Change.TheVariants as change
use Rattle.sw_data.specs.declared.workers.Phase.{Phase}
use Rattle.sw_data.specs.declared.workers.Phase.TheVariants as phase
use Rattle.sw_data.specs.declared.workers.Slot.{Slot}
use Rattle.sw_data.specs.declared.workers.Slot.TheVariants as place
use Rattle.sw_data.specs.declared.workers.WorkerState.{WorkerState}
use Rattle.sw_data.specs.declared.workers.WorkerState.TheVariants as worker_state
use Rattle.sw_rules.specs.Clients.{claim_client, claim_clients, claims, take_control}
use Rattle.sw_rules.specs.Registrations.{activate, become, clear, controlled_by, left_by, may_replace, new_handler, recheck, release, retire, start_handler, take_over, try_activate, try_clear, unload, used_registration}
use Rattle.sw_rules.specs.Rows.{changed, client_row, has_pending_worker, has_worker, in_slot, is_client, is_mapped, is_number, is_registration, is_used, is_worker, registration_of, registration_row, slot_worker, uses}
use Rattle.sw_rules.specs.State.{State, Registration, Worker}
use Rattle.sw_rules.specs.Told.{Told, followed, is_kept, keep, kept_change, quiet}
use Rattle.sw_tables.proofs.Pending.{any_here}
use Rattle.sw_tables.proofs.Rows.{any_map, find_passes, found_number}
use Rattle.sw_activate.specs.Claiming.{activated_by, activated_in, activation_change}
use Rattle.sw_activate.proofs.Names.{of_worker, seen_same}

-- own: a worker is found under its number as one of its registration
abbrev pub IsOwned : State → Type 0
IsOwned state = (registration number : ℕ) → has_worker (λ row. row.registration == registration) state.workers number ≡ is_number (registration_of state number) registration

-- own: no worker waits
abbrev pub NoneWait : State → Type 0
NoneWait state = (registration : ℕ) → is_some (slot_worker state place.Waiting registration) ≡ false

is_one : (o : Option ℕ) (n : ℕ) → is_number o n ≡ true → o ≡ Some n
is_one None n is = absurd cc
is_one (Some m) n is = ap (λ (k : ℕ). Some k) (grind (arith, nat_tests, is))

abbrev names_one : ℕ → ℕ → ℕ × ℕ → Bool
names_one number registration pair = pair.0 == number && pair.1 == registration

abbrev waits : ℕ → Worker → Bool
waits registration row = row.registration == registration && in_slot place.Waiting row.state

waited_in : (registration : ℕ) (old new : Worker) → new.registration ≡ old.registration → (in_slot place.Waiting new.state ≡ true → in_slot place.Waiting old.state ≡ true)
    → waits registration new ≡ true → waits registration old ≡ true
waited_in registration old new same waited is = grind (arith, nat_tests, same, waited, is)

-- one that passes after a change passed before
some_before : {X : Type 0} (p test : X → Bool) (f : X → X) → ((x : X) → p (f x) ≡ true → p x ≡ true) → (xs : List X) → is_some (find p (changed test f xs)) ≡ true → is_some (find p xs) ≡ true
some_before p test f passed [] is = is
some_before p test f passed (x ∷ xs) is = grind (arith, passed x, is, some_before p test f passed xs)

-- no worker is activated where controllers change
none_changed : (state : State) (clients : List ClientRow) → activated_in state (map (λ client. notice.ControllerChange client.number) clients) ≡ []
none_changed state [] = refl
none_changed state (client ∷ clients) = none_changed state clients

-- ---- one notice more

as_list : (o : Option ℕ) → option_to_list o ≡ filter_map (λ (p : Option ℕ). p) (o ∷ [])
as_list None = refl
as_list (Some number) = refl

pub one_more : (state : State) (notices : List Notice) (i : ℕ) (d : Notice) → i < length notices → (one : Option ℕ) → one ≡ activated_by state (get_or notices i d)
    → activated_in state (take i notices) ++ option_to_list one ≡ activated_in state (take (i + 1) notices)
one_more state notices i d below one is =
    ap (λ (xs : List ℕ). activated_in state (take i notices) ++ xs) (ap option_to_list is ∙ as_list (activated_by state (get_or notices i d)))
    ∙ (sym (filter_map-append (activated_by state) (take i notices) (get_or notices i d ∷ []))
    ∙ ap (activated_in state) (sym (take_more notices i d below)))

-- ---- parts of a claim

module _ (first : State) (owned : IsOwned first) where
  abbrev has_waiting : State → ℕ → Bool
  has_waiting state registration = is_some (slot_worker state place.Waiting registration)

  -- own: a state with the registrations of the first one and workers of the same names, where none waits but those that did
  record Stands (state : State) : Type 0 where
    registrations : state.registrations ≡ first.registrations
    names : map of_worker state.workers ≡ map of_worker first.workers
    waiting : (registration : ℕ) → has_waiting state registration ≡ true → has_waiting first registration ≡ true

  begins : Stands first
  begins = record { registrations = refl; names = refl; waiting = λ registration is. is }

  -- controllers are nothing to it
  still : (state : State) (clients : List ClientRow) → Stands state → Stands (record state { clients = clients })
  still state clients stands = record { registrations = stands.registrations; names = stands.names; waiting = stands.waiting }

  -- own: a part activates these registrations, by what it tells, and has these durable changes
  record Comes (numbers : List ℕ) (kept : List Change) (told : Told) : Type 0 where
    stands : Stands told.state
    made : activated_in first told.notices ≡ numbers
    changes : told.changes ≡ kept

  comes_then : (one other : List ℕ) (less more : List Change) (told : Told) (next : State → Told) → Comes one less told → (Stands told.state → Comes other more (next told.state))
      → Comes (one ++ other) (less ++ more) (followed told next)
  unfolding followed
  comes_then one other less more told next before after =
      let later = after before.stands in record {
        stands = later.stands;
        made = filter_map-append (activated_by first) told.notices (next told.state).notices ∙ (λ i. before.made i ++ later.made i);
        changes = λ i. before.changes i ++ later.changes i;
      }

  quietly : (state : State) → Stands state → Comes [] [] (quiet state)
  quietly state stands = record { stands = stands; made = refl; changes = refl }

  -- ---- Activate

  workers_changed : (state : State) (test : Worker → Bool) (f : Worker → Worker) → ((row : Worker) → of_worker (f row) ≡ of_worker row)
      → ((row : Worker) → in_slot place.Waiting (f row).state ≡ true → in_slot place.Waiting row.state ≡ true) → Stands state
      → Stands (record state { workers = changed test f state.workers })
  workers_changed state test f keeps waited stands = record {
    registrations = stands.registrations;
    names = seen_same of_worker test f keeps state.workers ∙ stands.names;
    waiting = λ registration is. stands.waiting registration
        (some_before (waits registration) test f (λ row. waited_in registration row (f row) (ap (λ (pair : ℕ × ℕ). pair.1) (keeps row)) (waited row)) state.workers is);
  }

  becomes : (state : State) (worker : ℕ) (to : WorkerState) → in_slot place.Waiting to ≡ false → Stands state
      → Comes (activated_in first (notice.Worker worker to ∷ [])) [] (become state worker to)
  unfolding become
  becomes state worker to other stands = record {
    stands = workers_changed state (is_worker worker) (λ row. record row { state = to }) (λ row. refl) (λ row is. absurd (cc (other, is))) stands;
    made = refl;
    changes = refl;
  }

  retires : (state : State) (p : Slot) (registration : ℕ) → Stands state → Comes [] [] (retire state p registration)
  unfolding retire
  retires state p registration stands = by (slot_worker state p registration)
    where
      by : (o : Option Worker) → Comes [] [] (elim o [ None ↦ quiet state | Some old ↦ become state old.number worker_state.Redundant ])
      by None = quietly state stands
      by (Some old) = becomes state old.number worker_state.Redundant refl stands

  takes_over : (state : State) (registration worker : ℕ) → Stands state → Comes [] [] (take_over state registration worker)
  unfolding take_over
  takes_over state registration worker stands = record {
    stands = still state (changed (uses state.workers registration) (controlled_by worker) state.clients) stands;
    made = none_changed first (filter (uses state.workers registration) state.clients);
    changes = refl;
  }

  starts : (state : State) (worker : ℕ) (in_phase : Phase) → Stands state → Comes [] [] (start_handler state worker in_phase)
  unfolding start_handler
  starts state worker in_phase stands = record {
    stands = workers_changed state (is_worker worker) (λ row. record row { handler = Some (new_handler in_phase) }) (λ row. refl) (λ row is. is) stands;
    made = refl;
    changes = refl;
  }

  -- a waiting worker of a registration is one of it
  waits_in : (state : State) (registration : ℕ) (waiting : Worker) → Stands state → slot_worker state place.Waiting registration ≡ Some waiting → registration_of first waiting.number ≡ Some registration
  waits_in state registration waiting stands found =
      let here = λ (row : Worker). row.registration == registration && in_slot place.Waiting row.state in
      let passes = find_passes here state.workers waiting found in
      let there : has_worker (λ row. row.registration == registration) state.workers waiting.number ≡ true =
      any_here here (λ row. row.number == waiting.number && row.registration == registration) state.workers waiting found (grind (arith, nat_tests, passes)) in
      is_one (registration_of first waiting.number) registration
      (sym (owned registration waiting.number)
      ∙ (sym (any_map (names_one waiting.number registration) of_worker first.workers)
      ∙ (ap (list_any (names_one waiting.number registration)) (sym stands.names)
      ∙ (any_map (names_one waiting.number registration) of_worker state.workers ∙ there))))

  abbrev active_of : Registration → Change
  active_of row = change.Active row.key row.scope

  -- a registration with a waiting worker is kept where it is mapped, and was so in the first state
  change_is : (state : State) (registration : ℕ) (waiting : Worker) → Stands state → slot_worker state place.Waiting registration ≡ Some waiting
      → activation_change state registration ≡ activation_change first registration
  change_is state registration waiting stands found =
      ap (λ (rows : List Registration). option_map_or (told state) (find (is_registration registration) rows) []) stands.registrations
      ∙ by (registration_row first registration) refl
    where
      told : State → Registration → List Change
      told at row = if is_kept at row then active_of row ∷ [] else []

      kept_where : (at : State) (row : Registration) → has_waiting at row.number ≡ true → is_kept at row ≡ row.mapped
      kept_where at row waits = grind (arith, waits)

      same : (row : Registration) → row.number ≡ registration → is_kept state row ≡ is_kept first row
      same row own =
          let now : has_waiting state row.number ≡ true = ap (has_waiting state) own ∙ ap is_some found in
          kept_where state row now ∙ sym (kept_where first row (stands.waiting row.number now))

      by : (o : Option Registration) → registration_row first registration ≡ o → option_map_or (told state) o [] ≡ option_map_or (told first) o []
      by None is = refl
      by (Some row) is =
          ap (λ (b : Bool). if b then active_of row ∷ [] else [])
          (same row (found_number (λ (r : Registration). r.number) registration first.registrations row is))

  keeps : (state : State) (registration : ℕ) (of : Registration → Change) → Stands state → Comes [] (kept_change state registration of) (keep state registration of)
  unfolding keep
  keeps state registration of stands = record { stands = stands; made = refl; changes = refl }

  activates : (state : State) (registration : ℕ) (waiting : Worker) → Stands state → slot_worker state place.Waiting registration ≡ Some waiting
      → Comes (registration ∷ []) (activation_change first registration) (activate state registration waiting.number)
  unfolding activate
  activates state registration waiting stands found =
      let number = waiting.number in
      let made : List ℕ = activated_in first (notice.Worker number worker_state.Activating ∷ []) in
      let kept : List Change = kept_change state registration active_of in
      let all : Comes ([] ++ ([] ++ (made ++ ([] ++ [])))) (kept ++ ([] ++ ([] ++ ([] ++ [])))) (activate state registration number) =
      comes_then [] ([] ++ (made ++ ([] ++ []))) kept ([] ++ ([] ++ ([] ++ []))) (keep state registration active_of) _ (keeps state registration active_of stands) (λ one.
      comes_then [] (made ++ ([] ++ [])) [] ([] ++ ([] ++ [])) _ _ (retires _ place.Active registration one) (λ two.
      comes_then made ([] ++ []) [] ([] ++ []) _ _ (becomes _ number worker_state.Activating refl two) (λ three.
      comes_then [] [] [] [] _ _ (takes_over _ registration number three) (λ four. starts _ number phase.Activate four)))) in
      let own : made ≡ registration ∷ [] = ap (λ (o : Option ℕ). filter_map (λ (p : Option ℕ). p) (o ∷ [])) (waits_in state registration waiting stands found) in
      record {
        stands = all.stands;
        made = all.made ∙ (append-nil made ∙ own);
        changes = all.changes ∙ (append-nil kept ∙ change_is state registration waiting stands found);
      }

  -- ---- parts whose changes are those of what they activate

  -- own: a part has the durable changes of the registrations that it activates, by what it tells, and activates none
  -- where none waits
  record Follows (told : Told) : Type 0 where
    stands : Stands told.state
    changes : told.changes ≡ flat_map (activation_change first) (activated_in first told.notices)
    idle : NoneWait first → activated_in first told.notices ≡ []

  follows : (made : List ℕ) (told : Told) → (NoneWait first → made ≡ []) → Comes made (flat_map (activation_change first) made) told → Follows told
  follows made told idle comes = record {
    stands = comes.stands;
    changes = comes.changes ∙ ap (flat_map (activation_change first)) (sym comes.made);
    idle = λ none. comes.made ∙ idle none;
  }

  follows_then : (told : Told) (next : State → Told) → Follows told → (Stands told.state → Follows (next told.state)) → Follows (followed told next)
  unfolding followed
  follows_then told next before after =
      let later = after before.stands in record {
        stands = later.stands;
        changes =
            (λ i. before.changes i ++ later.changes i)
            ∙ (sym (flat_map-append (activation_change first) (activated_in first told.notices) (activated_in first (next told.state).notices))
            ∙ ap (flat_map (activation_change first)) (sym (filter_map-append (activated_by first) told.notices (next told.state).notices)));
        idle = λ none.
            filter_map-append (activated_by first) told.notices (next told.state).notices
            ∙ (λ i. before.idle none i ++ later.idle none i);
      }

  nothing : (state : State) → Stands state → Follows (quiet state)
  nothing state stands = follows [] (quiet state) (λ none. refl) (quietly state stands)

  tries : (state : State) (registration : ℕ) → Stands state → Follows (try_activate state registration)
  unfolding try_activate
  tries state registration stands = by (slot_worker state place.Waiting registration) refl
    where
      tried : Option ℕ → Told
      tried o = elim o [ None ↦ quiet state | Some worker ↦ activate state registration worker ]

      one : (waiting : Worker) → slot_worker state place.Waiting registration ≡ Some waiting → (b : Bool) → Follows (tried (if b then Some waiting.number else None))
      one waiting found true =
          let comes = activates state registration waiting stands found in
          let waits = stands.waiting registration (ap is_some found) in
          follows (registration ∷ []) (activate state registration waiting.number) (λ none. absurd (true≢false (sym waits ∙ none registration))) (record {
            stands = comes.stands;
            made = comes.made;
            changes = comes.changes ∙ sym (append-nil (activation_change first registration));
          })
      one waiting found false = nothing state stands

      by : (o : Option Worker) → slot_worker state place.Waiting registration ≡ o
          → Follows (tried (option_and_then (λ waiting. if may_replace state registration waiting (slot_worker state place.Active registration) then Some waiting.number else None) o))
      by None none = nothing state stands
      by (Some waiting) found = one waiting found (may_replace state registration waiting (slot_worker state place.Active registration))

  clears : (state : State) (registration : ℕ) → Stands state → Follows (clear state registration)
  unfolding clear
  clears state registration stands =
      follows [] (clear state registration) (λ none. refl)
      (comes_then [] [] [] [] _ _ (retires state place.Installing registration stands) (λ one.
      comes_then [] [] [] [] _ _ (retires _ place.Waiting registration one) (λ two. retires _ place.Active registration two)))

  tries_clear : (state : State) (registration : ℕ) → Stands state → Follows (try_clear state registration)
  unfolding try_clear
  tries_clear state registration stands = by (is_used state registration || has_pending_worker state registration)
    where
      by : (b : Bool) → Follows (if b then quiet state else clear state registration)
      by true = nothing state stands
      by false = clears state registration stands

  rechecks : (state : State) (registration : ℕ) → Stands state → Follows (recheck state registration)
  unfolding recheck
  rechecks state registration stands =
      follows_then _ (λ cleared. try_activate cleared registration) (by (is_mapped state registration)) (λ one. tries _ registration one)
    where
      by : (b : Bool) → Follows (if b then quiet state else try_clear state registration)
      by true = nothing state stands
      by false = tries_clear state registration stands

  releases : (state : State) (registration : ℕ) → Stands state → Follows (release state registration)
  unfolding release
  releases state registration stands = by (is_used state registration)
    where
      by : (b : Bool) → Follows (if b then quiet state else recheck state registration)
      by true = nothing state stands
      by false = rechecks state registration stands

  unloads : (state : State) (client : ℕ) → Stands state → Follows (unload state client)
  unfolding unload
  unloads state client stands = by (used_registration state client)
    where
      by : (o : Option ℕ) → Follows (elim o [ None ↦ quiet state | Some registration ↦ followed (quiet (left_by client state)) (λ left. release left registration) ])
      by None = nothing state stands
      by (Some registration) =
          follows_then (quiet (left_by client state)) (λ left. release left registration)
          (nothing (left_by client state) (still state (left_by client state).clients stands))
          (λ one. releases _ registration one)

  -- ---- clients that are claimed

  takes : (state : State) (worker client : ℕ) → Stands state → Follows (take_control state worker client)
  unfolding take_control
  takes state worker client stands = record { stands = still state (changed (is_client client) (controlled_by worker) state.clients) stands; changes = refl; idle = λ none. refl }

  claims_one : (state : State) (worker registration client : ℕ) → Stands state → Follows (claim_client state worker registration client)
  unfolding claim_client
  claims_one state worker registration client stands = by (option_map_or (claims state worker registration) (client_row state client) false)
    where
      by : (b : Bool) → Follows (if b then followed (unload state client) (λ left. take_control left worker client) else quiet state)
      by true = follows_then (unload state client) (λ left. take_control left worker client) (unloads state client stands) (λ one. takes _ worker client one)
      by false = nothing state stands

  claims_all : (numbers : List ℕ) (state : State) (worker registration : ℕ) → Stands state → Follows (claim_clients state worker registration numbers)
  unfolding claim_clients
  claims_all [] state worker registration stands = nothing state stands
  claims_all (number ∷ numbers) state worker registration stands =
      follows_then (claim_client state worker registration number) (λ after. claim_clients after worker registration numbers)
      (claims_one state worker registration number stands) (λ one. claims_all numbers _ worker registration one)

  pub claims_told : (worker registration : ℕ) (numbers : List ℕ) → flat_map (activation_change first) (activated_in first (claim_clients first worker registration numbers).notices)
      ≡ (claim_clients first worker registration numbers).changes
  claims_told worker registration numbers = sym (claims_all numbers first worker registration begins).changes

  -- where none waits, none is activated
  pub none_told : NoneWait first → (worker registration : ℕ) (numbers : List ℕ) → activated_in first (claim_clients first worker registration numbers).notices ≡ []
  none_told none worker registration numbers = (claims_all numbers first worker registration begins).idle none
