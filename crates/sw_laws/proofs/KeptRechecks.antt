-- What is kept where a registration is rechecked and where clients leave it.
use Rattle.std.proofs.Common.{◌≡◌, ◌∙◌, ℕ, Bool, true, false, not, ◌&&◌, ◌||◌, ◌==◌, List, [], ◌∷◌, Option, Some, None, option_map, refl, sym, ap, subst, arith}
use Rattle.std.specs.List.{list_all, list_any}
use Rattle.std.specs.Prelude.{is_some, option_and_then}
use Rattle.std.specs.Option.{option_map_or}
use Rattle.std.proofs.lemmas.Bool.Decides.{nat_tests}
use Rattle.std.proofs.lemmas.List.Sums.{fold-append}
use Rattle.sw_data.specs.declared.rows.JobRow.{JobRow}
use Rattle.sw_data.specs.declared.storage.Change.TheVariants as change
use Rattle.sw_data.specs.declared.storage.Kept.{Kept}
use Rattle.sw_data.specs.declared.storage.KeptWorker.{KeptWorker}
use Rattle.sw_data.specs.declared.workers.Slot.TheVariants as slot
use Rattle.sw_rules.specs.Clients.{claim_clients, leave, remove_client, take_control}
use Rattle.sw_rules.specs.Installing.{kept_worker}
use Rattle.sw_rules.specs.Registrations.{activate, chosen, clear, left_by, unload}
use Rattle.sw_rules.specs.Rows.{changed, has_worker, is_active, is_mapped, is_registration, is_unfinished, is_waiting, slot_worker}
use Rattle.sw_rules.specs.State.{State, Registration, Worker}
use Rattle.sw_rules.specs.Storage.{applied, kept_after, promoted}
use Rattle.sw_rules.specs.Told.{Told, followed, quiet}
use Rattle.sw_laws.proofs.ActivateSteps.{is_chosen}
use Rattle.sw_laws.proofs.AtOnce.{activate_changes, activated_at_once, are_apart, clear_only, clear_state, cleared_at_once, promote, shift}
use Rattle.sw_laws.proofs.ClaimSteps.{Beside, claims-law, rechecks_coherently, unload-beside}
use Rattle.sw_laws.proofs.Contents.{Slots, contents, found_in, is_worked, kept_in, kept_with, slots_in}
use Rattle.sw_laws.proofs.Lists.{all_not, all_true, by_test}
use Rattle.sw_laws.proofs.Ordered.{ChangesOne, Ordered, contents_still, ordered_still, recorded, with_only}
use Rattle.sw_laws.proofs.SlotMoves.{promote_registration, slots_apart, slots_promoted, slots_with}
use Rattle.sw_laws.proofs.Split.{IsRecheckLaw}
use Rattle.sw_laws.specs.Coherent.{Coherent}

-- ---- what a step keeps

-- a job that joined no other is past waiting and not over
abbrev pub is_underway : JobRow → Bool
is_underway row = is_unfinished row && not (is_waiting row.phase)

-- the registration of such a job is mapped
abbrev pub has_mapped : List Registration → JobRow → Bool
has_mapped rows row = not (is_underway row) || option_map_or (λ number. list_any (λ found. found.number == number && found.mapped) rows) row.registration true

-- own: registrations have their places, and those of jobs that are underway are mapped
pub record Orderly (state : State) : Type 0 where
  pub order : Ordered state.registrations state.workers
  pub jobs : list_all (has_mapped state.registrations) state.jobs ≡ true

-- the changes make the registrations that are kept after a step of those that were kept before it
abbrev pub KeepsRows : State → Told → Type 0
KeepsRows state told = (kept : Kept) → kept.registrations ≡ contents state.workers state.registrations → (kept_after kept told.changes).registrations ≡ contents told.state.workers told.state.registrations

abbrev pub KeepsOrder : State → Told → Type 0
KeepsOrder state told = Orderly state → Orderly told.state × KeepsRows state told

pub rows_further : (state : State) (told : Told) (next : State → Told) → KeepsRows state told → KeepsRows told.state (next told.state) → KeepsRows state (followed told next)
unfolding followed
rows_further state told next one other kept is =
    ap (λ (k : Kept). k.registrations) (fold-append applied kept told.changes (next told.state).changes) ∙ other (kept_after kept told.changes) (one kept is)

pub followed_orderly : (state : State) (told : Told) (next : State → Told) → Orderly (next told.state).state → Orderly (followed told next).state
unfolding followed
followed_orderly state told next orderly = record { order = orderly.order; jobs = orderly.jobs }

pub further : (state : State) (told : Told) (next : State → Told) → KeepsOrder state told → KeepsOrder told.state (next told.state) → KeepsOrder state (followed told next)
further state told next one other orderly =
    let first = one orderly in
    let second = other first.0 in
    (followed_orderly state told next second.0, rows_further state told next first.1 second.1)

-- ---- Activate

pub unchanged : {X : Type 0} (test : X → Bool) (xs : List X) → changed test (λ x. x) xs ≡ xs
unchanged test [] = refl
unchanged test (x ∷ xs) = by_test (λ y. y ∷ changed test (λ z. z) xs ≡ x ∷ xs) (test x) x x (λ is. ap (λ rest. x ∷ rest) (unchanged test xs)) (λ other. ap (λ rest. x ∷ rest) (unchanged test xs))

waiting_of : {A : Type 0} (o : Option Worker) (f : Worker → Option A) (a : A) → option_and_then f o ≡ Some a → is_some o ≡ true
waiting_of None f a is = absurd cc
waiting_of (Some w) f a is = refl

promoted_plain : (x : Registration) (waiting active : Option KeptWorker) (activated : Bool) → is_some waiting ≡ true → kept_with x (slots_with None waiting false) ≡ option_and_then (λ k. Some (promoted k)) (kept_with x (slots_with waiting active activated))
promoted_plain x None active activated is = absurd cc
promoted_plain x (Some w) active activated is = grind arith

promoted_worked : (waiting active : Option KeptWorker) (activated : Bool) → is_some waiting ≡ true → is_worked (slots_with None waiting false) ≡ is_worked (slots_with waiting active activated)
promoted_worked waiting active activated is = grind (arith, is)

pub mapped_some : {X Y : Type 0} (f : X → Y) (o : Option X) → is_some (option_map f o) ≡ is_some o
mapped_some f None = refl
mapped_some f (Some x) = refl

seen_some : (workers : List Worker) (registration : ℕ) → is_some (slots_in workers registration).waiting ≡ is_some (found_in workers slot.Waiting registration)
unfolding slots_in
seen_some workers registration = mapped_some kept_worker (found_in workers slot.Waiting registration)

pub number_is : (a b : ℕ) → (a == b) ≡ true → a ≡ b
number_is a b is = grind (arith, nat_tests, is)

module _ (state : State) (registration worker : ℕ) (is : chosen state registration ≡ Some worker) where
  abbrev now : List Worker
  now = changed (λ row. row.registration == registration) promote state.workers

  waits : is_some (slots_in state.workers registration).waiting ≡ true
  waits = seen_some state.workers registration ∙ waiting_of (slot_worker state slot.Waiting registration) _ worker is

  now_apart : (n : ℕ) → (n == registration) ≡ false → slots_in now n ≡ slots_in state.workers n
  now_apart n other = slots_apart registration promote (λ x. promote_registration x.state x) state.workers n other

  now_here : (n : ℕ) → (n == registration) ≡ true → slots_in now n ≡ slots_with None (slots_in state.workers n).waiting false
  now_here n same = subst (λ m. slots_in now m ≡ slots_with None (slots_in state.workers m).waiting false) (sym (number_is n registration same)) (slots_promoted state.workers registration)

  waits_here : (n : ℕ) → (n == registration) ≡ true → is_some (slots_in state.workers n).waiting ≡ true
  waits_here n same = subst (λ m. is_some (slots_in state.workers m).waiting ≡ true) (sym (number_is n registration same)) waits

  promotes : ChangesOne state.workers now registration (λ x. x) (λ k. Some (promoted k)) (λ x. true)
  promotes = record {
    here = λ x same know. ap (kept_with x) (now_here x.number same) ∙ promoted_plain x (slots_in state.workers x.number).waiting (slots_in state.workers x.number).active (slots_in state.workers x.number).activated (waits_here x.number same);
    others = now_apart;
  }

  still_worked : (n : ℕ) → is_worked (slots_in now n) ≡ is_worked (slots_in state.workers n)
  still_worked n =
      elim (n == registration) as (λ b. (n == registration) ≡ b → is_worked (slots_in now n) ≡ is_worked (slots_in state.workers n)) [
        | true ↦ λ same. ap is_worked (now_here n same) ∙ promoted_worked (slots_in state.workers n).waiting (slots_in state.workers n).active (slots_in state.workers n).activated (waits_here n same)
        | false ↦ λ other. ap is_worked (now_apart n other)
      ] refl

  pub activate_keeps : Coherent state → KeepsOrder state (activate state registration worker)
  activate_keeps sound orderly =
      let picked = is_chosen state registration worker is sound in
      let at_once = activated_at_once state registration worker picked.waiting (are_apart state.registrations state.workers sound.workers) picked.found picked.number in (
        subst Orderly (sym at_once) (record { order = ordered_still state.workers now (λ x. true) (λ x know mapped. still_worked x.number) state.registrations (all_true state.registrations) orderly.order; jobs = orderly.jobs }),
        λ kept same.
            ap (λ changes. (kept_after kept changes).registrations) (activate_changes state registration worker)
            ∙ (recorded state now registration (λ x. x) (λ k. Some (promoted k)) (λ x. true) promotes (λ x. refl) (all_true state.registrations) orderly.order (λ row. change.Active row.key row.scope) (λ row k. with_only row.key row.scope promoted k.registrations) kept same
            ∙ (ap (contents now) (unchanged (is_registration registration) state.registrations)
            ∙ ap (λ (s : State). contents s.workers s.registrations) (sym at_once))),
      )

-- ---- Clear

pub unkept : (x : Registration) (slots : Slots) → x.mapped ≡ false → kept_with x slots ≡ None
unkept x slots is = grind (arith, is)

module _ (state : State) (registration : ℕ) (gone : is_mapped state registration ≡ false) where
  abbrev cleared : List Worker
  cleared = shift registration clear_state state.workers

  cleared_apart : (n : ℕ) → (n == registration) ≡ false → slots_in cleared n ≡ slots_in state.workers n
  cleared_apart n other = slots_apart registration (λ row. record row { state = clear_state row.state }) (λ x. refl) state.workers n other

  cleared_kept : (x : Registration) → not (x.number == registration && x.mapped) ≡ true → kept_in cleared x ≡ kept_in state.workers x
  cleared_kept x is =
      elim (x.number == registration) as (λ b. (x.number == registration) ≡ b → kept_in cleared x ≡ kept_in state.workers x) [
        | true ↦ λ same. let unmapped : x.mapped ≡ false = grind (arith, is, same) in unkept x _ unmapped ∙ sym (unkept x _ unmapped)
        | false ↦ λ other. ap (kept_with x) (cleared_apart x.number other)
      ] refl

  cleared_worked : (x : Registration) → not (x.number == registration && x.mapped) ≡ true → x.mapped ≡ true → is_worked (slots_in cleared x.number) ≡ is_worked (slots_in state.workers x.number)
  cleared_worked x is mapped = ap is_worked (cleared_apart x.number (grind (arith, is, mapped)))

  pub clear_keeps : Coherent state → KeepsOrder state (clear state registration)
  clear_keeps sound orderly =
      let at_once = cleared_at_once state registration (are_apart state.registrations state.workers sound.workers) in
      let knows = all_not (λ (x : Registration). x.number == registration && x.mapped) state.registrations gone in (
        subst Orderly (sym at_once) (record { order = ordered_still state.workers cleared _ cleared_worked state.registrations knows orderly.order; jobs = orderly.jobs }),
        λ kept same.
            ap (λ changes. (kept_after kept changes).registrations) (clear_only state registration).changes
            ∙ (same ∙ (sym (contents_still state.workers cleared _ cleared_kept state.registrations knows orderly.order.firsts)
            ∙ ap (λ (s : State). contents s.workers s.registrations) (sym at_once))),
      )

-- ---- leaving and claiming

pub nothing_keeps : (state : State) → KeepsOrder state (quiet state)
nothing_keeps state orderly = (orderly, λ kept same. same)

-- a coherent and orderly state stays so, and the changes make what is kept after the step
abbrev pub KeepsAll : State → Told → Type 0
KeepsAll = Beside KeepsOrder

all_further : (state : State) (told : Told) (next : State → Told) → KeepsAll state told → KeepsAll told.state (next told.state) → KeepsAll state (followed told next)
unfolding followed
all_further state told next one other sound =
    let first = one sound in
    let second = other first.0 in
    (second.0, further state told next first.1 second.1)

pub rechecks_keep : IsRecheckLaw KeepsAll
rechecks_keep = record {
  nothing = λ state sound. (sound, nothing_keeps state);
  further = all_further;
  activating = λ state registration worker is sound. (rechecks_coherently.activating state registration worker is sound, activate_keeps state registration worker is sound);
  clearing = λ state registration gone unused calm sound. (rechecks_coherently.clearing state registration gone unused calm sound, clear_keeps state registration gone sound);
}

same_rows : (state : State) → Orderly state → (after : State) → after.registrations ≡ state.registrations → after.workers ≡ state.workers → after.jobs ≡ state.jobs → Orderly after
same_rows state orderly after registrations workers jobs = record { order = rw (registrations, workers) orderly.order; jobs = rw (registrations, jobs) orderly.jobs }

left_keeps : (state : State) (client : ℕ) → KeepsOrder state (quiet (left_by client state))
left_keeps state client orderly = (same_rows state orderly (left_by client state) refl refl refl, λ kept same. same)

control_keeps : (state : State) (worker client : ℕ) → KeepsOrder state (take_control state worker client)
unfolding take_control
control_keeps state worker client orderly = (same_rows state orderly _ refl refl refl, λ kept same. same)

remove_keeps : (state : State) (client : ℕ) → KeepsOrder state (remove_client state client)
unfolding remove_client
remove_keeps state client orderly = (same_rows state orderly _ refl refl refl, λ kept same. same)

pub leave_keeps : (state : State) (client : ℕ) → Coherent state → KeepsOrder state (leave state client)
unfolding leave
leave_keeps state client sound = further state (unload state client) _ (unload-beside KeepsOrder rechecks_keep left_keeps control_keeps state client sound).1 (remove_keeps (unload state client).state client)

pub claims_keep : (numbers : List ℕ) (state : State) (worker registration : ℕ) → has_worker (λ row. row.registration == registration && is_active row.state) state.workers worker ≡ true → Coherent state → KeepsOrder state (claim_clients state worker registration numbers)
claims_keep = claims-law KeepsOrder rechecks_keep left_keeps control_keeps
