-- A client leaves the registration that it uses, where it uses one; it is claimed, where it is to be.
use Rattle.std.proofs.Common.{◌≡◌, ℕ, Bool, true, false, Option, Some, None, refl, sym, subst, if◌then◌else◌}
use Rattle.std.specs.Option.{option_map_or}
use Rattle.sw_rules.specs.Clients as clients
use Rattle.sw_rules.specs.Noticing.{Did, NoticeList}
use Rattle.sw_rules.specs.Registrations as rules
use Rattle.sw_rules.specs.Rows.{client_row}
use Rattle.sw_rules.specs.State.{State}
use Rattle.sw_rules.specs.Told.{followed, quiet}
use Rattle.sw_tables.proofs.Chain.{did_quietly, did_then}

pub stays : (state : State) (client : ℕ) (list : NoticeList) → rules.used_registration state client ≡ None → Did (rules.unload state client) list list state
unfolding rules.unload
stays state client list is =
    subst (λ (o : Option ℕ). Did (elim o [ None ↦ quiet state | Some registration ↦ followed (quiet (rules.left_by client state)) (λ left. rules.release left registration) ]) list list state)
    (sym is) (did_quietly (quiet state) list state refl refl)

pub leaves : (state : State) (client registration : ℕ) (before after : NoticeList) (new : State) → rules.used_registration state client ≡ Some registration
    → Did (rules.release (rules.left_by client state) registration) before after new → Did (rules.unload state client) before after new
unfolding rules.unload
leaves state client registration before after new is did =
    subst (λ (o : Option ℕ). Did (elim o [ None ↦ quiet state | Some number ↦ followed (quiet (rules.left_by client state)) (λ left. rules.release left number) ]) before after new)
    (sym is)
    (did_then (quiet (rules.left_by client state)) (λ left. rules.release left registration) before before after (rules.left_by client state) new
    (did_quietly (quiet (rules.left_by client state)) before (rules.left_by client state) refl refl) did)

-- ---- a claim

pub not_claimed : (state : State) (worker registration client : ℕ) (list : NoticeList)
    → option_map_or (clients.claims state worker registration) (client_row state client) false ≡ false
    → Did (clients.claim_client state worker registration client) list list state
unfolding clients.claim_client
not_claimed state worker registration client list is =
    subst (λ (b : Bool). Did (if b then followed (rules.unload state client) (λ left. clients.take_control left worker client) else quiet state) list list state)
    (sym is) (did_quietly (quiet state) list state refl refl)

pub claimed : (state : State) (worker registration client : ℕ) (before middle after : NoticeList) (one two : State)
    → option_map_or (clients.claims state worker registration) (client_row state client) false ≡ true
    → Did (rules.unload state client) before middle one → Did (clients.take_control one worker client) middle after two
    → Did (clients.claim_client state worker registration client) before after two
unfolding clients.claim_client
claimed state worker registration client before middle after one two is left taken =
    subst (λ (b : Bool). Did (if b then followed (rules.unload state client) (λ left. clients.take_control left worker client) else quiet state) before after two)
    (sym is) (did_then (rules.unload state client) (λ left. clients.take_control left worker client) before middle after one two left taken)
