-- Groups of events: their changes are written as one record.
use Rattle.std.specs.Prelude.{◌≡◌, ◌≢◌, ◌<◌, ◌+◌, ℕ, true, List, [], ◌∷◌, ◌++◌, length, Some, IfSome}
use Rattle.sw_codec.specs.Spelling.{spelled_all}
use Rattle.sw_data.specs.declared.events.Event.{Event}
use Rattle.sw_data.specs.declared.histories.Entry.{Entry}
use Rattle.sw_data.specs.declared.storage.Change.{Change}
use Rattle.sw_data.specs.Events.{who_of}
use Rattle.sw_journal.specs.Format.{format_2, needed_length}
use Rattle.sw_laws.specs.Coherent.{Coherent}
use Rattle.sw_laws.specs.Laws.{changes_along}
use Rattle.sw_rules.specs.History.{after_entries}
use Rattle.sw_rules.specs.State.{State}
use Rattle.sw_rules.specs.Step.{Step, changes_of, enabled, step}
use Rattle.sw_store.specs.Stores.{GroupState, StoreState, same_but_room}
use Rattle.sw_twin.specs.Twin.{TwinState}
use Rattle.sw_state.specs.Hosted.{Hosted, state_of}
use Rattle.sw_work.specs.Plans.{Means}
use Rattle.sw_work.specs.Planned.{Fits}
use Rattle.sw_work.specs.declared.plan.Plan.{Plan}

-- own: an event is enabled, and this plan was made for it
pub record IsWorkedOut (happened : Event) (plan : Plan) (host : Hosted) : Type 0 where
  pub coherent : Coherent (state_of host)
  pub is_enabled : enabled (state_of host) happened ≡ true
  pub fits : Fits plan host
  pub means : IfSome (step (state_of host) happened) (Means plan.work host)

-- own: the entry of an event that this pass made, which is one step
pub record IsEntry (happened : Event) (pass : ℕ) (old : State) (entry : Entry) (new : State) : Type 0 where
  pub pass_is : entry.pass ≡ pass
  pub maker : entry.who ≡ who_of happened
  pub event : entry.event ≡ happened
  pub step : Step old happened entry.answer entry.notices new

-- own: an event has happened: its entry waits behind the others, and the spellings of its changes behind theirs
pub record IsStaged (happened : Event) (pass : ℕ) (old new : StoreState) : Type 0 where
  pub entry : Entry
  pub more : List ℕ
  pub is_entry : IsEntry happened pass (state_of old.core) entry (state_of new.core)
  pub spelled : spelled_all (changes_of (state_of old.core) happened) ≡ Some more
  pub rest : new ≡ record (same_but_room old new) {
    staged = old.staged ++ entry ∷ [];
    payload = old.payload ++ more;
  }

-- own: an entry stands behind the others, and these bytes behind theirs
pub record IsPlaced (happened : Event) (pass : ℕ) (old : State) (before : GroupState) (more : List ℕ) (after : GroupState) (new : State) : Type 0 where
  pub entry : Entry
  pub is_entry : IsEntry happened pass old entry new
  pub entries : after.entries ≡ before.entries ++ entry ∷ []
  pub payload : after.payload ≡ before.payload ++ more

-- own: a record with these changes behind the payload that waits needs so much that it passes the limit
pub record IsTooLong (changes : List Change) (payload : List ℕ) (twin : TwinState) (needed : ℕ) : Type 0 where
  pub more : List ℕ
  pub spelled : spelled_all changes ≡ Some more
  pub some : more ≢ []
  pub needs : needed ≡ needed_length format_2 (length (payload ++ more))
  pub passes : twin.journal.limit < twin.journal.gate + 1 + needed

-- own: what waits began at this state: its entries lead to the state now, and the payload spells their changes
pub record IsGroup (begun : State) (store : StoreState) : Type 0 where
  pub now : after_entries begun store.staged ≡ state_of store.core
  pub spelled : spelled_all (changes_along begun store.staged) ≡ Some store.payload
