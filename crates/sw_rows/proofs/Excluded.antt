-- What wrong definitions would allow, computed not to be. Above each situation stands the wrong definition that it excludes.
use Rattle.std.proofs.Common.{ap, true≢false}
use Rattle.std.specs.Prelude.{◌≡◌, ℕ, Bool, true, false, take, length, List, [], ◌∷◌, ◌++◌, map, filter, find, codes, is_none, is_some, Option, Some, None, option_map, option_and_then, refl}
use Rattle.std.specs.Fmt.{digits}
use Rattle.std.specs.List.{list_all, list_any}
use Rattle.std.specs.Option.{option_map_or}
use Rattle.json.specs.Print.{escape_byte}
use Rattle.sw_data.specs.declared.answers.Answer.TheVariants as answer
use Rattle.sw_data.specs.declared.answers.Notice.TheVariants as notice
use Rattle.sw_data.specs.declared.answers.Settlement.TheVariants as settlement
use Rattle.sw_data.specs.declared.events.Event.{Event}
use Rattle.sw_data.specs.declared.events.Event.TheVariants as event
use Rattle.sw_data.specs.declared.events.Who.TheVariants as who
use Rattle.sw_data.specs.declared.histories.End.TheVariants as end
use Rattle.sw_data.specs.declared.histories.Entry.{Entry}
use Rattle.sw_data.specs.declared.recordings.FetchLine.{FetchLine}
use Rattle.sw_data.specs.declared.rows.ClientRow.{ClientRow}
use Rattle.sw_data.specs.declared.rows.JobKind.{JobKind}
use Rattle.sw_data.specs.declared.rows.JobKind.TheVariants as job_kind
use Rattle.sw_data.specs.declared.rows.JobPhase.TheVariants as job_phase
use Rattle.sw_data.specs.declared.rows.JobRow.{JobRow}
use Rattle.sw_data.specs.declared.storage.Change.TheVariants as change
use Rattle.sw_data.specs.declared.storage.Kept.{Kept}
use Rattle.sw_data.specs.declared.workers.Kind.TheVariants.{Classic}
use Rattle.sw_data.specs.declared.workers.Mode.TheVariants.{Imports}
use Rattle.sw_data.specs.declared.workers.Phase.TheVariants as phase
use Rattle.sw_data.specs.declared.workers.Slot.TheVariants as slot
use Rattle.sw_data.specs.declared.workers.WorkerState.{WorkerState}
use Rattle.sw_data.specs.declared.workers.WorkerState.TheVariants as worker_state
use Rattle.sw_data.specs.Events.{who_of}
use Rattle.sw_laws.specs.Coherent.{apart, is_controlled, is_settled_phase, share_slot}
use Rattle.sw_laws.specs.Laws.{changes_of_history, is_fetching_job, next_state}
use Rattle.sw_print.specs.Transcript.{transcript}
use Rattle.sw_record.proofs.OnLiterals.{grammar_on_literals}
use Rattle.sw_rows.specs.Replays.{has_lines, replayed}
use Rattle.sw_rules.proofs.OnLiterals.{steps_on_literals}
use Rattle.sw_rules.specs.Durable.{durable}
use Rattle.sw_rules.specs.History.{after}
use Rattle.sw_rules.specs.Rows.{client_row, in_slot, is_number, is_unfinished, worker_row}
use Rattle.sw_rules.specs.State.{State, Registration, Worker, initial}
use Rattle.sw_rules.specs.Step.{Step, changes_of, state_after, step}
use Rattle.sw_rules.specs.Storage.{applied, kept_after, nothing}
use Rattle.sw_rules.specs.Told.{Outcome}

-- ---- a history: a page opens and registers a script, which installs and is activated

abbrev root : List ℕ
root = codes "https://a.test/"

abbrev script : List ℕ
script = codes "https://a.test/sw.js"

abbrev register : ℕ → ℕ → Event
register client at =
    event.Register (who.Lane 0 at)
    (record { client = client; script = codes "/sw.js"; scope = None; kind = Classic; mode = Imports })

abbrev line : FetchLine
line = record {
  fetch = script;
  fetched =
      Some (record {
        response = record {
          status = 200;
          headers = record { name = codes "content-type"; value = codes "text/javascript" } ∷ [];
          body = codes "// v1";
        };
        handlers = record { throws = false; install = []; install_fails = false; activate = [] };
      });
}

-- an entry without answer and notices, on which no state rests
abbrev entry : ℕ → Event → Entry
entry stamp happened =
    record { pass = 0; who = who_of happened; event = happened; answer = answer.None; notices = []; stamp = stamp }

-- the entries of these events, up to the first that isn't enabled
abbrev entries_from : State → List Event → List Entry
entries_from state [] = []
entries_from state (happened ∷ later) =
    elim (step state happened) [
      | None ↦ []
      | Some outcome ↦
          record (entry 0 happened) { answer = outcome.answer; notices = outcome.told.notices }
          ∷ entries_from outcome.told.state later
    ]

abbrev history : List Entry
history =
    record (entry 0 (event.Restarted who.Host)) { answer = answer.Restarted 0 0 }
    ∷ entries_from initial
    (event.Open (who.Lane 0 0) 1 root None ∷ register 1 1 ∷ event.Run who.Host 0
    ∷ event.Fetched who.Host 0 (Some line) ∷ event.Evaluated who.Host 0 ∷ event.Installed who.Host 0
    ∷ event.TryActivate who.Host 0 ∷ event.Activated who.Host 0 ∷ [])

each_event_is_a_step : length history ≡ 9
unfolding steps_on_literals
each_event_is_a_step = refl

-- the state after so many entries
abbrev state_at : ℕ → State
state_at n = after nothing (take n history)

-- ---- rows of other situations

abbrev registration : ℕ → List ℕ → Registration
registration number scope = record {
  number = number;
  key = codes "https://a.test";
  scope = scope;
  mode = Imports;
  mapped = true;
  first = Some number;
  owed = true;
  preload = false;
  preload_value = codes "true";
}

abbrev worker : ℕ → ℕ → WorkerState → Worker
worker number of state = record {
  number = number;
  registration = of;
  script = script;
  kind = Classic;
  body = codes "// v1";
  state = state;
  skip_waiting = true;
  fetch = Some 0;
  handlers = record { throws = false; install = []; install_fails = false; activate = [] };
  handler = None;
}

abbrev client : ℕ → List ℕ → Option ℕ → ClientRow
client number url controller =
    record { number = number; url = url; key = codes "https://a.test"; secure = true; controller = controller }

abbrev job : JobKind → JobRow
job what = record {
  job = record {
    number = 0;
    what = what;
    key = codes "https://a.test";
    scope = root;
    script = script;
    kind = Classic;
    mode = Imports;
    has_client = true;
    referrer = root;
  };
  leader = None;
  phase = job_phase.Waiting;
  settled = None;
  registration = None;
  fetch = None;
  remembered = None;
  worker = None;
}

-- a job installs a worker of registration 0, its promise settled
abbrev installing : ℕ → JobRow
installing made = record (job job_kind.Register) {
  phase = job_phase.Installing;
  settled = Some (settlement.Registration 0);
  registration = Some 0;
  fetch = Some 0;
  worker = Some made;
}

-- the state of a worker
abbrev state_of : State → ℕ → Option WorkerState
state_of state number = option_map (λ row. row.state) (worker_row state number)

-- the controller of a client
abbrev controller_of : State → ℕ → Option ℕ
controller_of state number = option_and_then (λ row. row.controller) (client_row state number)

-- ---- Try Activate

-- a client uses the active worker, and the waiting one skips waiting
abbrev skipping : State
skipping = record initial {
  registrations = registration 0 root ∷ [];
  workers = worker 0 0 worker_state.Activated ∷ worker 1 0 worker_state.Installed ∷ [];
  clients = client 2 root (Some 0) ∷ [];
}

abbrev try : Event
try = event.TryActivate who.Host 0

-- excludes: activating leaves a client with the old worker
no_client_keeps_the_old_worker : is_number (controller_of (state_after skipping try) 2) 0 ≡ false
unfolding steps_on_literals
no_client_keeps_the_old_worker = refl

-- the active worker has a fetch event too
abbrev busy : State
busy = record skipping { fetch_events = record { number = 5; worker = 0 } ∷ [] }

-- excludes: a worker is activated while an event of the active one is pending
nothing_activates_under_an_event : state_of (state_after busy try) 1 ≡ Some worker_state.Installed
unfolding steps_on_literals
nothing_activates_under_an_event = refl

abbrev tells_nothing : Option Outcome → Bool
tells_nothing outcome = option_map_or (λ found. is_none (find (λ told. true) found.told.notices)) outcome false

-- excludes: a step tells whatever it likes
no_notice_is_made_up :
    (new : State) → Step busy try answer.None (notice.Worker 0 worker_state.Redundant ∷ []) new → ⊥
unfolding steps_on_literals
no_notice_is_made_up new is = true≢false (ap tells_nothing is.1)

-- ---- the install of a worker

-- excludes: a worker is kept as the waiting one when it is evaluated, before its install has ended
nothing_is_kept_at_the_evaluation : length (changes_of (state_at 5) (event.Evaluated who.Host 0)) ≡ 0
unfolding steps_on_literals
nothing_is_kept_at_the_evaluation = refl

-- one worker waits, and the next one installs
abbrev two : State
two = record initial {
  registrations = registration 0 root ∷ [];
  workers =
      worker 0 0 worker_state.Installed
      ∷ record (worker 1 0 worker_state.Installing) {
        handler = Some (record { phase = phase.Install; made = 0; faulted = false });
      }
      ∷ [];
  jobs = installing 1 ∷ [];
}

abbrev after_install : State
after_install = state_after two (event.Installed who.Host 0)

-- excludes: the old waiting worker goes on waiting beside the new one
no_old_worker_waits : filter (λ row. in_slot slot.Waiting row.state) after_install.workers ≡ worker 1 0 worker_state.Installed ∷ []
unfolding steps_on_literals
no_old_worker_waits = refl

-- excludes: a registration has one worker in all, whatever its slot
slots_are_apart : apart share_slot two.workers ≡ true
slots_are_apart = refl

-- excludes: a worker's state only stays or goes on to the next one
a_worker_becomes_redundant : state_of after_install 0 ≡ Some worker_state.Redundant
unfolding steps_on_literals
a_worker_becomes_redundant = refl

-- the same worker was installed, behind which comes activating
it_was_installed : option_map next_state (state_of two 0) ≡ Some worker_state.Activating
it_was_installed = refl

-- ---- clients

abbrev inner : List ℕ
inner = codes "https://a.test/in/"

-- the scope of one registration lies in that of another
abbrev nested : State
nested = record initial {
  registrations = registration 0 root ∷ registration 1 inner ∷ [];
  workers = worker 0 0 worker_state.Activated ∷ worker 1 1 worker_state.Activated ∷ [];
  clients = client 0 inner (Some 1) ∷ client 1 root None ∷ [];
}

-- excludes: a claim takes a client of whatever registration matches it
no_client_of_another_is_claimed :
    controller_of
    (state_after nested (event.Claim (who.Lane 0 0) (record { client = 1; scope = codes "/" }) slot.Active)) 0
    ≡ Some 1
unfolding steps_on_literals
no_client_of_another_is_claimed = refl

-- excludes: every client has a controller
a_first_client_has_none : controller_of (state_at 2) 1 ≡ None
unfolding steps_on_literals
a_first_client_has_none = refl

it_counts_as_controlled : list_all (is_controlled (state_at 2).workers) (state_at 2).clients ≡ true
unfolding steps_on_literals
it_counts_as_controlled = refl

-- a registration that a client uses is to be unregistered
abbrev used : State
used = record initial {
  registrations = registration 0 root ∷ [];
  workers = worker 0 0 worker_state.Activated ∷ [];
  clients = client 0 root (Some 0) ∷ [];
  jobs = job job_kind.Unregister ∷ [];
}

-- excludes: a registration is cleared under a client
nothing_is_cleared_under_a_client :
    state_of (state_after used (event.Run who.Host 0)) 0 ≡ Some worker_state.Activated
unfolding steps_on_literals
nothing_is_cleared_under_a_client = refl

-- ---- jobs

-- a job whose promise has settled installs
abbrev settled_job : State
settled_job = record initial { clients = client 0 root None ∷ []; jobs = installing 0 ∷ [] }

-- excludes: an equal job joins one whose promise has settled
none_joins_a_settled_job : list_any (λ row. is_some row.leader) (state_after settled_job (register 0 7)).jobs ≡ false
unfolding steps_on_literals
none_joins_a_settled_job = refl

-- excludes: every job has a value, and after each history no work is left
a_first_job_waits :
    map (λ row. row.settled) (filter is_unfinished (state_at 3).jobs) ≡ None ∷ []
unfolding steps_on_literals
a_first_job_waits = refl

its_phase_has_no_value : is_settled_phase job_phase.Waiting ≡ false
its_phase_has_no_value = refl

-- excludes: a fetch outlasts the event that ends it
a_fetch_ends : map (λ n. is_fetching_job (state_at n) 0) (3 ∷ 4 ∷ 5 ∷ []) ≡ false ∷ true ∷ false ∷ []
unfolding steps_on_literals
a_fetch_ends = refl

-- ---- what is kept

-- the content after the changes of so many entries, and the durable part of the state after these
abbrev registrations_kept : ℕ → List ℕ
registrations_kept n =
    length (kept_after nothing (changes_of_history nothing (take n history))).registrations
    ∷ length (durable (state_at n)).registrations ∷ []

-- excludes: what is kept is the durable part of the state before the last entry
the_install_is_kept : map registrations_kept (6 ∷ 7 ∷ []) ≡ (0 ∷ 0 ∷ []) ∷ (1 ∷ 1 ∷ []) ∷ []
unfolding steps_on_literals
the_install_is_kept = refl

abbrev waiting_kept : Kept
waiting_kept = durable (state_at 7)

-- excludes: a restart changes nothing of what is kept
a_restart_takes_the_waiting_worker :
    map (λ kept. map (λ row. is_some row.waiting) kept.registrations)
    (waiting_kept ∷ applied waiting_kept change.Restarted ∷ [])
    ≡ (true ∷ []) ∷ (false ∷ []) ∷ []
unfolding steps_on_literals
a_restart_takes_the_waiting_worker = refl

-- ---- transcripts

-- excludes: a transcript tells the stamps
stamps_are_not_told :
    transcript (map (entry 0) (register 1 0 ∷ [])) end.Done ≡ transcript (map (entry 7) (register 1 0 ∷ [])) end.Done
unfolding digits
stamps_are_not_told = refl

-- excludes: a page is ready with another registration than its own
ready_with_its_own :
    has_lines (codes "L0.2 ready -> r1\n" ∷ [])
    (replayed
    (codes "{\"fetch\":\"https://a.test/sw.js\",\"status\":200,\"headers\":[[\"Content-Type\",\"text/javascript\"]],\"text\":\"// v1\"}\n"
    ++ codes "{\"lane\":0,\"do\":\"open\",\"client\":1,\"url\":\"https://a.test/\"}\n"
    ++ codes "{\"lane\":0,\"do\":\"register\",\"client\":1,\"script\":\"/sw.js\"}\n"
    ++ codes "{\"lane\":0,\"do\":\"ready\",\"client\":1}\n")).transcript
    ≡ false
unfolding digits escape_byte grammar_on_literals steps_on_literals
ready_with_its_own = refl
