-- What a mark names is found where it may happen.
use Rattle.std.proofs.Common.{◌≡◌, ◌∙◌, ℕ, Bool, true, false, List, [], Option, Some, None, is_some, option_map, option_and_then, slice_get, if◌then◌else◌, refl, sym, ap, subst}
use Rattle.std.specs.List.{list_any}
use Rattle.std.specs.Option.{option_map_or}
use Rattle.std.proofs.lemmas.Option.{option_and_then_some}
use Rattle.sw_audit.specs.Running.{event_of_row, running_event}
use Rattle.sw_audit.specs.Taking.{IsFound, allowed}
use Rattle.sw_audit.specs.declared.marks.Kind.{Kind}
use Rattle.sw_audit.specs.declared.marks.Mark.{Mark}
use Rattle.sw_audit.specs.declared.marks.Mark.TheVariants as mark
use Rattle.sw_audit.specs.Named.{call_event, called_event, host_event, named}
use Rattle.sw_audit.specs.Taken.{IsTaken}
use Rattle.sw_audit.proofs.Determined.{is_called}
use Rattle.sw_audit.proofs.Others.{call_taken, host_taken}
use Rattle.sw_data.specs.declared.events.Event.{Event}
use Rattle.sw_data.specs.declared.events.Event.TheVariants as event
use Rattle.sw_data.specs.declared.events.Who.TheVariants as who
use Rattle.sw_data.specs.declared.histories.Entry.{Entry}
use Rattle.sw_data.specs.declared.recordings.Call.{Call}
use Rattle.sw_data.specs.declared.recordings.FetchLine.{FetchLine}
use Rattle.sw_data.specs.declared.recordings.Recording.{Recording}
use Rattle.sw_data.specs.declared.rows.WorkerRow.{WorkerRow}
use Rattle.sw_data.specs.declared.workers.Phase.{Phase}
use Rattle.sw_lane.specs.Left.{Left}
use Rattle.sw_lane.specs.Recorded.{AreLanesOf}
use Rattle.sw_audit.proofs.OneHistory.{some_same}
use Rattle.sw_rules.specs.Calls.{make_call}
use Rattle.sw_rules.specs.Installing.{calls_of}
use Rattle.sw_rules.specs.Rows.{is_unsettled_of, worker_row}
use Rattle.sw_rules.specs.State.{State, AddAll, Handler, Worker}
use Rattle.sw_rules.specs.Step.{enabled, step}
use Rattle.sw_rules.specs.Tasks.{add_all_lines}
use Rattle.sw_rules.specs.Told.{Outcome}
use Rattle.sw_tables.specs.Lent.{shown_worker}
use Rattle.sw_tables.proofs.Lookups.{worker_shown}
use Rattle.sw_state.specs.Hosted.{Hosted, state_of}
use Rattle.sw_worker.specs.Table.{worker_at}

-- ---- calls

there : (o : Option Outcome) → is_some o ≡ true → (outcome : Outcome) × (o ≡ Some outcome)
there None some = absurd cc
there (Some outcome) some = (outcome, refl)

-- a call that may happen is the one that comes next
call_comes : (state : State) (worker : ℕ) (p : Phase) (number : ℕ) (called : Option Call) (happened : Event)
    → option_map (event.Call (who.Handler worker p number)) called ≡ Some happened → enabled state happened ≡ true → called_event state worker ≡ Some happened
unfolding step
call_comes state worker p number None happened is may = cc
call_comes state worker p number (Some call) happened is may =
    let same : event.Call (who.Handler worker p number) call ≡ happened = some_same (event.Call (who.Handler worker p number) call) happened is in
    let goes : is_some (make_call state (who.Handler worker p number) call) ≡ true = subst (λ (e : Event). enabled state e ≡ true) (sym same) may in
    let comes = there (make_call state (who.Handler worker p number) call) goes in
    is_called state worker p number call comes.0 comes.1 ∙ ap (λ (e : Event). Some e) same

module _ (state : State) (worker : ℕ) (happened : Event) where
  -- so the next call of a handler that runs is that of one that may go on, where it may happen
  running_called : running_event state worker ≡ Some happened → enabled state happened ≡ true → called_event state worker ≡ Some happened
  running_called is may =
      option_and_then_some (event_of_row worker) (worker_row state worker) happened is
      (λ row found comes.
      option_and_then_some (λ (handler : Handler). option_map (event.Call (who.Handler worker handler.phase handler.made)) (slice_get (calls_of row handler.phase) handler.made))
      row.handler happened comes
      (λ handler runs calls. call_comes state worker handler.phase handler.made (slice_get (calls_of row handler.phase) handler.made) happened calls may))

  -- and the next call of a handler that may go on is that of one that runs
  called_running : called_event state worker ≡ Some happened → running_event state worker ≡ Some happened
  called_running is = by (list_any (is_unsettled_of worker) state.tasks) is
    where
      handled : (row : Worker) (o : Option Handler) → worker_row state worker ≡ Some row
          → option_and_then (call_event state worker) o
          ≡ option_and_then (λ (handler : Handler). option_map (event.Call (who.Handler worker handler.phase handler.made)) (slice_get (calls_of row handler.phase) handler.made)) o
      handled row None found = refl
      handled row (Some handler) found =
          ap (λ (o : Option Worker). option_map (event.Call (who.Handler worker handler.phase handler.made)) (option_and_then (λ (maker : Worker). slice_get (calls_of maker handler.phase) handler.made) o))
          found

      runs : (o : Option Worker) → worker_row state worker ≡ o
          → option_and_then (call_event state worker) (option_and_then (λ (row : Worker). row.handler) o) ≡ option_and_then (event_of_row worker) o
      runs None found = refl
      runs (Some row) found = handled row row.handler found

      by : (b : Bool) → option_and_then (call_event state worker) (if b then None else option_and_then (λ (row : Worker). row.handler) (worker_row state worker)) ≡ Some happened
          → running_event state worker ≡ Some happened
      by true none = cc
      by false comes = sym (runs (worker_row state worker) refl) ∙ comes

-- the next call of the handler that runs on the worker of a row
pub row_running : (host : Hosted) (worker : ℕ) (row : WorkerRow) → Some row ≡ worker_at worker host.workers.rows
    → event_of_row worker (shown_worker row) ≡ running_event (state_of host) worker
row_running host worker row is =
    ap (λ (o : Option WorkerRow). option_and_then (event_of_row worker) (option_map shown_worker o)) is
    ∙ ap (option_and_then (event_of_row worker)) (sym (worker_shown worker host.workers.rows))

-- and there is none where there is no such worker
pub none_running : (host : Hosted) (worker : ℕ) → None ≡ worker_at worker host.workers.rows → None ≡ running_event (state_of host) worker
none_running host worker is =
    ap (λ (o : Option WorkerRow). option_and_then (event_of_row worker) (option_map shown_worker o)) is
    ∙ ap (option_and_then (event_of_row worker)) (sym (worker_shown worker host.workers.rows))

-- ---- addAlls

-- the end of the fetches of an addAll that has a key
pub added_there : (recording : Recording) (task : ℕ) (key : List ℕ) (o : Option AddAll) → Some key ≡ option_map (λ (row : AddAll). row.key) o
    → Some (event.Added who.Host task (option_map_or (add_all_lines recording) o [])) ≡ option_map (λ (row : AddAll). event.Added who.Host task (add_all_lines recording row)) o
added_there recording task key None is = absurd cc
added_there recording task key (Some row) is = refl

-- ---- what is found

not_enabled : (o : Option Outcome) → is_some o ≡ false → o ≡ None
not_enabled None fails = refl
not_enabled (Some x) fails = cc

module _ (state : State) (lanes : List Left) (net : List FetchLine) where
  -- what a mark names is found where it may happen
  found_allowed : (marked : Mark) (found : Option Event)
      → ((recording : Recording) (before : List Entry) (happened : Event) → AreLanesOf recording before lanes → recording.fetches ≡ net → found ≡ Some happened → enabled state happened ≡ true
      → IsTaken recording before state marked lanes happened)
      → ((recording : Recording) (before : List Entry) (happened : Event) → recording.fetches ≡ net → named recording before state marked ≡ Some happened → found ≡ Some happened)
      → IsFound state lanes net marked (allowed state found) lanes
  found_allowed marked None takes names = record {
    some = λ recording before ours lines. tt;
    none = λ recording before ours lines none happened is. let never : None ≡ Some happened = names recording before happened lines is in absurd cc;
    same = λ none. refl;
  }
  found_allowed marked (Some event) takes names = by (enabled state event) refl
    where
      by : (b : Bool) → enabled state event ≡ b → IsFound state lanes net marked (if b then Some event else None) lanes
      by true may = record {
        some = λ recording before ours lines. takes recording before event ours lines refl may;
        none = λ recording before ours lines none happened is. absurd cc;
        same = λ none. refl;
      }
      by false fails = record {
        some = λ recording before ours lines. tt;
        none = λ recording before ours lines none happened is.
            let same : event ≡ happened = some_same event happened (names recording before happened lines is) in
            not_enabled (step state happened) (subst (λ (e : Event). enabled state e ≡ false) same fails);
        same = λ none. refl;
      }

  -- an event of the host
  pub host_found : (what : Kind) (number : ℕ) (found : Option Event) → ((recording : Recording) → recording.fetches ≡ net → found ≡ host_event recording state what number)
      → IsFound state lanes net (mark.Host what number) (allowed state found) lanes
  host_found what number found is =
      found_allowed (mark.Host what number) found
      (λ recording before happened ours lines found_is may. host_taken recording before state lanes happened ours may what number (sym (is recording lines) ∙ found_is))
      (λ recording before happened lines names. is recording lines ∙ names)

  -- the next call of a worker's handler
  pub call_found : (worker : ℕ) (found : Option Event) → found ≡ running_event state worker → IsFound state lanes net (mark.Handler worker) (allowed state found) lanes
  call_found worker found is =
      found_allowed (mark.Handler worker) found
      (λ recording before happened ours lines found_is may. call_taken recording before state lanes happened ours may worker (running_called state worker happened (sym is ∙ found_is) may))
      (λ recording before happened lines names. is ∙ called_running state worker happened names)
