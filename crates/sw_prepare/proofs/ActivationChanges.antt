-- What the parts of an activation tell as durable changes.
use Rattle.std.proofs.Common.{◌≡◌, ◌∙◌, ℕ, Bool, true, false, ◌==◌, ◌&&◌, ◌||◌, List, [], ◌∷◌, ◌++◌, Option, Some, None, option_map, option_and_then, is_some, refl, sym, ap, arith, if◌then◌else◌}
use Rattle.std.specs.Prelude.{find, IfSome}
use Rattle.std.specs.List.{list_any}
use Rattle.std.specs.Option.{option_map_or}
use Rattle.std.proofs.lemmas.List.{append-nil}
use Rattle.sw_activate.specs.Claiming.{activation_change}
use Rattle.sw_data.specs.declared.storage.Change.{Change}
use Rattle.sw_data.specs.declared.storage.Change.TheVariants as change
use Rattle.sw_rules.specs.Activating as activating
use Rattle.sw_rules.specs.Clients as clients
use Rattle.sw_rules.specs.Installing as installing
use Rattle.sw_rules.specs.Registrations as rules
use Rattle.sw_rules.specs.Registrations.{become}
use Rattle.sw_rules.specs.Rows.{has_pending_worker, is_event, is_mapped, is_registration, is_used, registration_row, without}
use Rattle.sw_rules.specs.State.{State, Registration}
use Rattle.sw_rules.specs.Told.{Told, Outcome, followed, is_kept, keep, kept_change, quiet}
use Rattle.sw_laws.proofs.AtOnce.{activate_changes, clear_only}
use Rattle.sw_tables.proofs.Rows.{at_changed}
use Rattle.sw_prepare.specs.Kept.{activation_changes, kept_registration}

-- ---- Try Activate, and what comes before it

-- a Try Activate tells the change of the registration's active worker
tried : (state : State) (registration : ℕ) → (rules.try_activate state registration).changes ≡ activation_changes state registration
unfolding rules.try_activate
tried state registration = by (rules.chosen state registration)
  where
    by : (o : Option ℕ)
        → (let told : Told = elim o [ None ↦ quiet state | Some worker ↦ rules.activate state registration worker ] in told.changes)
        ≡ (if is_some o then kept_change state registration (λ row. change.Active row.key row.scope) else [])
    by None = refl
    by (Some worker) = activate_changes state registration worker

any_mapped : (registration : ℕ) (rows : List Registration) → list_any (λ row. row.number == registration && row.mapped) rows ≡ false
    → option_map_or (λ (row : Registration). row.mapped) (find (is_registration registration) rows) false ≡ false
any_mapped registration [] none = refl
any_mapped registration (x ∷ xs) none = grind (arith, none, any_mapped registration xs)

-- of a registration that isn't mapped nothing is told
pub unmapped : (state : State) (registration : ℕ) → is_mapped state registration ≡ false → activation_change state registration ≡ []
unmapped state registration none = by (registration_row state registration) (any_mapped registration state.registrations none)
  where
    by : (o : Option Registration) → option_map_or (λ (row : Registration). row.mapped) o false ≡ false
        → option_map_or (λ row. if is_kept state row then change.Active row.key row.scope ∷ [] else []) o [] ≡ []
    by None not_mapped = refl
    by (Some row) not_mapped = cc not_mapped

pub unmapped_activation : (state : State) (registration : ℕ) → is_mapped state registration ≡ false → activation_changes state registration ≡ []
unmapped_activation state registration none = by (is_some (rules.chosen state registration))
  where
    by : (b : Bool) → (if b then activation_change state registration else []) ≡ []
    by true = unmapped state registration none
    by false = refl

-- Try Clear changes no registration
try_cleared : (state : State) (registration : ℕ) → is_mapped state registration ≡ false
    → activation_changes (rules.try_clear state registration).state registration ≡ activation_changes state registration
unfolding rules.try_clear
try_cleared state registration none = by (is_used state registration || has_pending_worker state registration)
  where
    by : (b : Bool) → activation_changes (if b then quiet state else rules.clear state registration).state registration ≡ activation_changes state registration
    by true = refl
    by false =
        unmapped_activation (rules.clear state registration).state registration (ap (λ (s : State). is_mapped s registration) (clear_only state registration).rest ∙ none)
        ∙ sym (unmapped_activation state registration none)

-- and tells no change
pub clears_quietly : (state : State) (registration : ℕ) → (rules.try_clear state registration).changes ≡ []
unfolding rules.try_clear
clears_quietly state registration = by (is_used state registration || has_pending_worker state registration)
  where
    by : (b : Bool) → (if b then quiet state else rules.clear state registration).changes ≡ []
    by true = refl
    by false = (clear_only state registration).changes

-- what is looked at again tells what a Try Activate tells
pub rechecked : (state : State) (registration : ℕ) → (rules.recheck state registration).changes ≡ activation_changes state registration
unfolding rules.recheck followed
rechecked state registration = by (is_mapped state registration) refl
  where
    by : (b : Bool) → is_mapped state registration ≡ b
        → (let first : Told = if b then quiet state else rules.try_clear state registration in first.changes ++ (rules.try_activate first.state registration).changes)
        ≡ activation_changes state registration
    by true mapped = tried state registration
    by false none =
        let quietly = clears_quietly state registration in
        let same = tried (rules.try_clear state registration).state registration ∙ try_cleared state registration none in
        ap (λ (l : List Change). l ++ (rules.try_activate (rules.try_clear state registration).state registration).changes) quietly ∙ same

-- ---- a fetch event that ends

pub event_ended : (state : State) (event registration : ℕ) → (clients.end_event state event registration).changes
    ≡ activation_changes (record state { fetch_events = without (is_event event) state.fetch_events }) registration
unfolding clients.end_event clients.remove_event followed
event_ended state event registration = rechecked (record state { fetch_events = without (is_event event) state.fetch_events }) registration

-- ---- a client that leaves

-- the changes where a client has left a registration, which is used or not
abbrev pub left_changes : State → ℕ → Bool → List Change
left_changes left registration used = if used then [] else activation_changes left registration

released : (left : State) (registration : ℕ) → (rules.release left registration).changes ≡ left_changes left registration (is_used left registration)
unfolding rules.release
released left registration = by (is_used left registration)
  where
    by : (b : Bool) → (if b then quiet left else rules.recheck left registration).changes ≡ left_changes left registration b
    by true = refl
    by false = rechecked left registration

pub unloaded : (state : State) (client : ℕ) (o : Option ℕ) → rules.used_registration state client ≡ o
    → (rules.unload state client).changes
    ≡ (elim o [ None ↦ [] | Some registration ↦ left_changes (rules.left_by client state) registration (is_used (rules.left_by client state) registration) ])
unfolding rules.unload followed
unloaded state client None is =
    ap (λ (o : Option ℕ). let told : Told = elim o [ None ↦ quiet state | Some registration ↦ followed (quiet (rules.left_by client state)) (λ left. rules.release left registration) ] in told.changes) is
unloaded state client (Some registration) is =
    ap (λ (o : Option ℕ). let told : Told = elim o [ None ↦ quiet state | Some number ↦ followed (quiet (rules.left_by client state)) (λ left. rules.release left number) ] in told.changes) is
    ∙ released (rules.left_by client state) registration

pub client_left : (state : State) (client : ℕ) (o : Option ℕ) → rules.used_registration state client ≡ o
    → (clients.leave state client).changes
    ≡ (elim o [ None ↦ [] | Some registration ↦ left_changes (rules.left_by client state) registration (is_used (rules.left_by client state) registration) ])
unfolding clients.leave clients.remove_client followed
client_left state client o is = append-nil (rules.unload state client).changes ∙ unloaded state client o is

-- ---- a worker that waits no longer

pub skipped : (state : State) (registration worker : ℕ) → (clients.skip_waiting state registration worker).changes ≡ activation_changes (clients.flagged worker state) registration
unfolding clients.skip_waiting followed
skipped state registration worker = tried (clients.flagged worker state) registration

-- ---- an activate handler that ends

abbrev pub ended_state : ℕ → State → State
ended_state worker state = (installing.end_handler state worker).state

abbrev pub activated_state : ℕ → ℕ → State → State
activated_state registration worker state = (activating.become_activated state registration worker).state

-- a worker that becomes activated tells that its registration has it
becomes_activated : (state : State) (registration worker : ℕ) → (activating.become_activated state registration worker).changes ≡ kept_change state registration (λ row. change.Activated row.key row.scope)
unfolding activating.become_activated followed keep become
becomes_activated state registration worker = append-nil (kept_change state registration (λ row. change.Activated row.key row.scope))

pub finished : (state : State) (registration worker : ℕ) → (activating.finish_activate state registration worker).changes
    ≡ kept_change (ended_state worker state) registration (λ row. change.Activated row.key row.scope)
    ++ activation_changes (activated_state registration worker (ended_state worker state)) registration
unfolding activating.finish_activate installing.end_handler followed
finished state registration worker =
    λ i. becomes_activated (ended_state worker state) registration worker i
    ++ rechecked (activated_state registration worker (ended_state worker state)) registration i

-- ---- the owed Try Activate

-- a Try Activate that is no longer owed tells the same
pub paid_same : (state : State) (registration : ℕ) → activation_changes (activating.paid registration state) registration ≡ activation_changes state registration
paid_same state registration =
    ap (λ (l : List Change). if is_some (rules.chosen state registration) then l else [])
    (ap (λ (o : Option Registration). option_map_or told o [])
    (at_changed (λ (row : Registration). row.number) (λ (row : Registration). record row { owed = false }) (λ row. refl) registration state.registrations)
    ∙ by (registration_row state registration))
  where
    told : Registration → List Change
    told row = if is_kept state row then change.Active row.key row.scope ∷ [] else []

    by : (o : Option Registration) → option_map_or told (option_map (λ (row : Registration). record row { owed = false }) o) [] ≡ option_map_or told o []
    by None = refl
    by (Some row) = refl

pub paid : (state : State) (registration : ℕ) → (activating.pay state registration).told.changes ≡ activation_changes state registration
unfolding activating.pay
paid state registration = tried (activating.paid registration state) registration ∙ paid_same state registration

-- what is told where there is an outcome
pub where_some : (all : List Change) (b : Bool) (outcome : Outcome) → all ≡ outcome.told.changes → IfSome (if b then Some outcome else None) (λ one. all ≡ one.told.changes)
where_some all true outcome is = is
where_some all false outcome is = tt

-- ---- registrations that are kept

-- the change of a registration that is kept
kept_changes : (state : State) (registration : ℕ) (change_of : Registration → Change)
    → kept_change state registration change_of ≡ option_map_or (λ row. change_of row ∷ []) (kept_registration state registration) []
kept_changes state registration change_of = by (registration_row state registration)
  where
    by : (o : Option Registration) → option_map_or (λ row. if is_kept state row then change_of row ∷ [] else []) o []
        ≡ option_map_or (λ row. change_of row ∷ []) (option_and_then (λ row. if is_kept state row then Some row else None) o) []
    by None = refl
    by (Some row) = one row (is_kept state row)
      where
        one : (row : Registration) (b : Bool) → (if b then change_of row ∷ [] else []) ≡ option_map_or (λ r. change_of r ∷ []) (if b then Some row else None) []
        one row true = refl
        one row false = refl

module _ (first second : State) (registration : ℕ) where
  -- what is told of a registration that is kept before and after
  pub both_kept : (row : Registration) (takes : Bool) → kept_registration first registration ≡ Some row → kept_registration second registration ≡ Some row
      → takes ≡ is_some (rules.chosen second registration)
      → change.Activated row.key row.scope ∷ (if takes then change.Active row.key row.scope ∷ [] else [])
      ≡ kept_change first registration (λ row. change.Activated row.key row.scope) ++ activation_changes second registration
  both_kept row takes is later taking =
      let one = kept_changes first registration (λ row. change.Activated row.key row.scope) ∙ ap (λ o. option_map_or (λ (row : Registration). change.Activated row.key row.scope ∷ []) o []) is in
      let two = kept_changes second registration (λ row. change.Active row.key row.scope) ∙ ap (λ o. option_map_or (λ (row : Registration). change.Active row.key row.scope ∷ []) o []) later in
      λ i. sym one i ++ (if taking i then sym two i else [])

  -- and of one that isn't
  pub none_kept : kept_registration first registration ≡ None → kept_registration second registration ≡ None
      → [] ≡ kept_change first registration (λ row. change.Activated row.key row.scope) ++ activation_changes second registration
  none_kept is later =
      let one = kept_changes first registration (λ row. change.Activated row.key row.scope) ∙ ap (λ o. option_map_or (λ (row : Registration). change.Activated row.key row.scope ∷ []) o []) is in
      let two = kept_changes second registration (λ row. change.Active row.key row.scope) ∙ ap (λ o. option_map_or (λ (row : Registration). change.Active row.key row.scope ∷ []) o []) later in
      by (is_some (rules.chosen second registration)) ∙ (λ i. sym one i ++ (if is_some (rules.chosen second registration) then sym two i else []))
    where
      nothing : List Change
      nothing = []

      by : (b : Bool) → nothing ≡ (nothing ++ (if b then nothing else nothing))
      by true = refl
      by false = refl
