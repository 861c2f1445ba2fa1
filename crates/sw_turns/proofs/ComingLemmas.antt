-- Entries that go by the pick order, and the action of an event that goes back to its lane.
use Rattle.std.proofs.Common.{◌≡◌, ◌∙◌, ℕ, List, [], ◌∷◌, ◌++◌, Option, Some, None, slice_get, slice_set, refl, sym, ap, subst, append_assoc, append-nil}
use Rattle.std.proofs.lemmas.List.Sums.{fold-append}
use Rattle.sw_data.specs.declared.events.Event.{Event}
use Rattle.sw_data.specs.declared.events.Who.{Who}
use Rattle.sw_data.specs.declared.events.Who.TheVariants as who
use Rattle.sw_data.specs.declared.histories.Entry.{Entry}
use Rattle.sw_data.specs.declared.histories.Task.{Task}
use Rattle.sw_data.specs.declared.recordings.Action.{Action}
use Rattle.sw_data.specs.declared.recordings.Action.TheVariants as action
use Rattle.sw_data.specs.declared.recordings.FetchLine.{FetchLine}
use Rattle.sw_data.specs.Events.{action_of_event, event_of_action}
use Rattle.sw_lane.specs.Left.{Left, action_of, taken}
use Rattle.sw_rules.specs.History.{after_entries, moved}
use Rattle.sw_rules.specs.State.{State}
use Rattle.sw_rules.specs.Step.{state_after}
use Rattle.sw_store.specs.Stores.{StoreState, all_stamped}
use Rattle.sw_turns.proofs.FlightLemmas.{flies_not_free}
use Rattle.sw_turns.specs.Coming.{AreOfTurn, ArePicked, GrowsByPick, HaveLanded, IsPickedNext, IsTaking}
use Rattle.sw_turns.specs.Flights.{Flies}
use Rattle.sw_core.specs.Machines.{IsEventOf}
use Rattle.sw_state.specs.Hosted.{state_of}

-- ---- an action that goes back

-- the event of an action is that action
action_back : (maker : Who) (taking : Action) → action_of_event (event_of_action maker taking) ≡ Some taking
unfolding event_of_action action_of_event
action_back maker (action.Open client url partition) = refl
action_back maker _ = refl

module _ (before : List Left) (lane : ℕ) (happened : Event) (left : List Left) (takes : IsTaking before lane happened left) where
  taken_back : action_of_event happened ≡ Some takes.taking
  taken_back = ap action_of_event takes.event ∙ action_back (who.Lane lane takes.at) takes.taking

  -- what the event is of was the next action of the lane
  pub goes_back : (given : Action) → Some given ≡ action_of_event happened → (taken lane before ≡ left) × (action_of before lane ≡ Some given)
  goes_back given is = (sym takes.is_taken, takes.was_next ∙ sym taken_back ∙ sym is)

  -- it is of some action
  pub has_action : None ≡ action_of_event happened → ⊥
  has_action is = let clash : None ≡ Some takes.taking = is ∙ taken_back in absurd cc

-- ---- entries by the pick order

module _ (lines : List FetchLine) (flights : List (Option Task)) where
  -- entries behind entries
  picked_then : (state : State) (lanes middle left : List Left) (one two : List Entry) → ArePicked lines state flights lanes one middle
      → ArePicked lines (after_entries state one) flights middle two left → ArePicked lines state flights lanes (one ++ two) left
  picked_then state lanes middle left [] two first second = subst (λ (from : List Left). ArePicked lines state flights from two left) first second
  picked_then state lanes middle left (entry ∷ one) two first second =
      (first.0, first.1, picked_then (moved state entry) first.0 middle left one two first.2 second)

  -- stamps change nothing
  picked_stamped : (clock : ℕ) (state : State) (lanes left : List Left) (entries : List Entry) → ArePicked lines state flights lanes entries left
      → ArePicked lines state flights lanes (all_stamped clock entries) left
  picked_stamped clock state lanes left [] picks = picks
  picked_stamped clock state lanes left (entry ∷ entries) picks =
      (picks.0, picks.1, picked_stamped clock (moved state entry) picks.0 left entries picks.2)

  landed_stamped : (clock : ℕ) (state : State) (lanes left : List Left) (flown : Task) (entries : List Entry) → HaveLanded lines state flights lanes flown entries left
      → HaveLanded lines state flights lanes flown (all_stamped clock entries) left
  landed_stamped clock state lanes left flown [] lands = lands
  landed_stamped clock state lanes left flown (first ∷ others) lands =
      (lands.0, picked_stamped clock (moved state first) lanes left others lands.1)

  -- ---- what waits grows

  -- nothing joins
  pub grows_none : (lanes : List Left) (old new : StoreState) → new.staged ≡ old.staged → state_of new.core ≡ state_of old.core
      → GrowsByPick lines flights lanes lanes old new
  grows_none lanes old new same still = record {
    more = [];
    staged = same ∙ sym (append-nil old.staged);
    entries = refl;
    state = sym still;
  }

  -- what the pick order has next joins
  pub grows_one : (lanes left : List Left) (old new : StoreState) (happened : Event) → IsPickedNext lines (state_of old.core) flights lanes happened left
      → (entry : Entry) × (entry.event ≡ happened) × (new.staged ≡ old.staged ++ entry ∷ []) → state_after (state_of old.core) happened ≡ state_of new.core
      → GrowsByPick lines flights lanes left old new
  grows_one lanes left old new happened next joins moves = record {
    more = joins.0 ∷ [];
    staged = joins.2;
    entries = (
      left,
      subst (λ (e : Event). IsPickedNext lines (state_of old.core) flights lanes e left) (sym joins.1) next,
      refl,
    );
    state = ap (state_after (state_of old.core)) joins.1 ∙ moves;
  }

  pub grows_then : (lanes middle left : List Left) (old between new : StoreState) → GrowsByPick lines flights lanes middle old between
      → GrowsByPick lines flights middle left between new → GrowsByPick lines flights lanes left old new
  grows_then lanes middle left old between new one two = record {
    more = one.more ++ two.more;
    staged = two.staged ∙ ap (λ (entries : List Entry). entries ++ two.more) one.staged ∙ append_assoc old.staged one.more two.more;
    entries =
        picked_then (state_of old.core) lanes middle left one.more two.more one.entries
        (subst (λ (state : State). ArePicked lines state flights middle two.more left) (sym one.state) two.entries);
    state =
        fold-append moved (state_of old.core) one.more two.more ∙ ap (λ (state : State). after_entries state two.more) one.state ∙ two.state;
  }

  -- a refusal leaves what waits
  pub grows_still : (lanes left : List Left) (old between new : StoreState) → GrowsByPick lines flights lanes left old between
      → new.staged ≡ between.staged → state_of new.core ≡ state_of between.core → GrowsByPick lines flights lanes left old new
  grows_still lanes left old between new one same still =
      grows_then lanes left left old between new one (grows_none left between new same still)

-- ---- the entries of a turn

module _ (lines : List FetchLine) (state : State) (flights : List (Option Task)) (lanes : List Left) (pass : ℕ) where
  -- none
  pub of_turn_none : (entries : List Entry) → entries ≡ [] → AreOfTurn lines state flights lanes pass entries lanes
  of_turn_none entries none =
      subst (λ (all : List Entry). AreOfTurn lines state flights lanes pass all lanes) (sym none)
      (record { free = λ free. refl; landed = λ flown flies. refl })

  pub of_turn_stamped : (clock : ℕ) (entries : List Entry) (left : List Left) → AreOfTurn lines state flights lanes pass entries left
      → AreOfTurn lines state flights lanes pass (all_stamped clock entries) left
  of_turn_stamped clock entries left made = record {
    free = λ free. picked_stamped lines flights clock state lanes left entries (made.free free);
    landed = λ flown flies. landed_stamped lines (slice_set flights pass None) clock state lanes left flown entries (made.landed flown flies);
  }

module _ (lines : List FetchLine) (flights : List (Option Task)) (lanes left : List Left) (pass : ℕ) (old : StoreState) (none : old.staged ≡ []) where
  -- of a pass that had taken up nothing
  pub of_turn_free : (new : StoreState) → slice_get flights pass ≡ Some None → GrowsByPick lines flights lanes left old new
      → AreOfTurn lines (state_of old.core) flights lanes pass new.staged left
  of_turn_free new free grows =
      let waits : new.staged ≡ grows.more = grows.staged ∙ ap (λ (entries : List Entry). entries ++ grows.more) none in
      record {
        free = λ same. subst (λ (entries : List Entry). ArePicked lines (state_of old.core) flights lanes entries left) (sym waits) grows.entries;
        landed = λ flown flies. absurd (flies_not_free flights pass flown flies free);
      }

  -- of one that had taken up a fetch
  pub of_turn_landed : (middle new : StoreState) (happened : Event) → (slice_get flights pass ≡ Some None → ⊥)
      → (entry : Entry) × (entry.event ≡ happened) × (middle.staged ≡ old.staged ++ entry ∷ []) → state_after (state_of old.core) happened ≡ state_of middle.core
      → ((flown : Task) → Flies flights pass flown → IsEventOf lines (state_of old.core) flown happened)
      → GrowsByPick lines (slice_set flights pass None) lanes left middle new
      → AreOfTurn lines (state_of old.core) flights lanes pass new.staged left
  of_turn_landed middle new happened busy joins moves gives grows =
      let laid = slice_set flights pass None in
      let waits : new.staged ≡ joins.0 ∷ grows.more =
      grows.staged
      ∙ ap (λ (entries : List Entry). entries ++ grows.more) (joins.2 ∙ ap (λ (entries : List Entry). entries ++ joins.0 ∷ []) none) in
      let to : moved (state_of old.core) joins.0 ≡ state_of middle.core = ap (state_after (state_of old.core)) joins.1 ∙ moves in
      record {
        free = λ free. absurd (busy free);
        landed = λ flown flies.
            subst (λ (entries : List Entry). HaveLanded lines (state_of old.core) laid lanes flown entries left) (sym waits) (
              subst (λ (e : Event). IsEventOf lines (state_of old.core) flown e) (sym joins.1) (gives flown flies),
              subst (λ (state : State). ArePicked lines state laid lanes grows.more left) (sym to) grows.entries,
            );
      }
