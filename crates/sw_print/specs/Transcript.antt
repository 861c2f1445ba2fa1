-- The transcript: the text of a history and its end.
use Rattle.std.specs.Prelude.{ℕ, ◌==◌, Bool, true, false, List, [], ◌∷◌, ◌++◌, take, length, flat_map, codes, decimal, Option, Some, None}
use Rattle.std.specs.List.{before_last}
use Rattle.json.specs.Print.{quoted}
use Rattle.sw_data.specs.declared.answers.Answer.{Answer}
use Rattle.sw_data.specs.declared.answers.Answer.TheVariants as answer
use Rattle.sw_data.specs.declared.answers.Cause.{Cause}
use Rattle.sw_data.specs.declared.answers.Cause.TheVariants as cause
use Rattle.sw_data.specs.declared.answers.Fault.{Fault}
use Rattle.sw_data.specs.declared.answers.Fault.TheVariants as fault
use Rattle.sw_data.specs.declared.answers.Notice.{Notice}
use Rattle.sw_data.specs.declared.answers.Notice.TheVariants as notice
use Rattle.sw_data.specs.declared.answers.SecurityCause.{SecurityCause}
use Rattle.sw_data.specs.declared.answers.SecurityCause.TheVariants as security
use Rattle.sw_data.specs.declared.answers.Settlement.{Settlement}
use Rattle.sw_data.specs.declared.answers.Settlement.TheVariants as settlement
use Rattle.sw_data.specs.declared.answers.StateCause.{StateCause}
use Rattle.sw_data.specs.declared.answers.StateCause.TheVariants as state_cause
use Rattle.sw_data.specs.declared.events.Event.{Event}
use Rattle.sw_data.specs.declared.events.Event.TheVariants as event
use Rattle.sw_data.specs.declared.events.Who.{Who}
use Rattle.sw_data.specs.declared.events.Who.TheVariants as who
use Rattle.sw_data.specs.declared.histories.End.{End}
use Rattle.sw_data.specs.declared.histories.End.TheVariants as end
use Rattle.sw_data.specs.declared.histories.Entry.{Entry}
use Rattle.sw_data.specs.declared.recordings.Call.{Call}
use Rattle.sw_data.specs.declared.recordings.Call.TheVariants as call
use Rattle.sw_data.specs.declared.recordings.Place.{Place}
use Rattle.sw_data.specs.declared.workers.Phase.{Phase}
use Rattle.sw_data.specs.declared.workers.Phase.TheVariants as phase
use Rattle.sw_data.specs.declared.workers.WorkerState.{WorkerState}
use Rattle.sw_data.specs.declared.workers.WorkerState.TheVariants as worker_state
use Rattle.sw_data.specs.Events.{who_of}
use Rattle.sw_data.specs.Keys.{partitioned}

-- ---- numbers, names and lists

-- a letter and a number, as `r0`
abbrev pub numbered : List ℕ → ℕ → List ℕ
numbered letter number = letter ++ decimal number

-- a text behind a space
abbrev pub spaced : List ℕ → List ℕ
spaced text = codes " " ++ text

-- a text behind a point
abbrev pub pointed : List ℕ → List ℕ
pointed text = codes "." ++ text

-- the count of a list, then the texts of its first sixteen members, each behind a space (own)
abbrev pub listed : {A : Type 0} → (A → List ℕ) → List A → List ℕ
listed text members = decimal (length members) ++ flat_map (λ member. spaced (text member)) (take 16 members)

-- ---- faults and values

abbrev pub cause_word : Cause → List ℕ
cause_word cause.Unparsed = codes "unparsed"
cause_word cause.Scheme = codes "scheme"
cause_word cause.EscapedSlash = codes "escaped-slash"
cause_word cause.Method = codes "method"
cause_word cause.Partial = codes "partial"
cause_word cause.Vary = codes "vary"
cause_word cause.Network = codes "network"
cause_word cause.Status = codes "status"
cause_word cause.NoRegistration = codes "no-registration"
cause_word cause.Script = codes "script"
cause_word cause.Threw = codes "threw"

abbrev pub security_word : SecurityCause → List ℕ
security_word security.Origin = codes "origin"
security_word security.Untrusted = codes "untrusted"
security_word security.ScriptOrigin = codes "script-origin"
security_word security.ScopeOrigin = codes "scope-origin"
security_word security.Mime = codes "mime"
security_word security.Scope = codes "scope"

abbrev pub state_word : StateCause → List ℕ
state_word state_cause.NoWorker = codes "no-worker"
state_word state_cause.NotActive = codes "not-active"
state_word state_cause.Installing = codes "installing"

-- the index of a fault, where there is one, behind a space
abbrev pub index_text : Option ℕ → List ℕ
index_text None = []
index_text (Some index) = spaced (decimal index)

abbrev pub fault_text : Fault → List ℕ
fault_text (fault.TypeError why index) = codes "TypeError " ++ cause_word why ++ index_text index
fault_text (fault.SecurityError why) = codes "SecurityError " ++ security_word why
fault_text (fault.InvalidState why) = codes "InvalidStateError " ++ state_word why
fault_text (fault.InvalidStateAt index) = codes "InvalidStateError " ++ decimal index
fault_text fault.Quota = codes "QuotaExceededError"
fault_text fault.CacheGone = codes "CacheGone"
fault_text fault.NoRegistration = codes "NoRegistration"

abbrev pub truth_word : Bool → List ℕ
truth_word true = codes "true"
truth_word false = codes "false"

abbrev pub settlement_text : Settlement → List ℕ
settlement_text settlement.Done = codes "ok"
settlement_text (settlement.Registration number) = numbered (codes "r") number
settlement_text (settlement.Truth truth) = truth_word truth
settlement_text (settlement.Fault why) = fault_text why

-- ---- makers and events

abbrev pub phase_word : Phase → List ℕ
phase_word phase.Install = codes "install"
phase_word phase.Activate = codes "activate"

abbrev pub who_text : Who → List ℕ
who_text who.Host = codes "-"
who_text (who.Lane lane at) = numbered (codes "L") lane ++ pointed (decimal at)
who_text (who.Handler worker phase number) = numbered (codes "w") worker ++ pointed (phase_word phase ++ pointed (decimal number))

abbrev pub call_word : Call → List ℕ
call_word call.SkipWaiting = codes "skipWaiting"
call_word call.Claim = codes "claim"
call_word call.Update = codes "update"
call_word (call.CacheOpen name) = codes "cacheOpen"
call_word (call.CacheDelete name) = codes "cacheDelete"
call_word (call.Put put) = codes "put"
call_word (call.Delete delete) = codes "delete"
call_word (call.Batch batch) = codes "batch"
call_word (call.AddAll add) = codes "addAll"

-- the key of a place at the root of an origin: what stands before its last slash, and its partition (own)
abbrev pub root_key : Place → List ℕ
root_key place = partitioned place.partition (before_last (λ b. b == 47) place.at)

-- the name of a forget, and the key of the host's as a JSON string behind a space (own)
abbrev pub forget_text : Who → Place → List ℕ
forget_text who.Host place = codes "forget" ++ spaced (quoted (root_key place))
forget_text _ place = codes "forget"

abbrev pub event_text : Event → List ℕ
event_text (event.Open who client url partition) = codes "open"
event_text (event.Close who client) = codes "close"
event_text (event.Register who register) = codes "register"
event_text (event.Update who of) = codes "update"
event_text (event.SoftUpdate who of) = codes "softUpdate"
event_text (event.Unregister who of) = codes "unregister"
event_text (event.Await who of) = codes "await"
event_text (event.Ready who client) = codes "ready"
event_text (event.Registration who client url) = codes "registration"
event_text (event.Registrations who client) = codes "registrations"
event_text (event.SkipWaiting who of slot) = codes "skipWaiting"
event_text (event.Claim who of slot) = codes "claim"
event_text (event.Begin who client number) = codes "begin"
event_text (event.End who number) = codes "end"
event_text (event.CacheOpen who place name) = codes "cacheOpen"
event_text (event.CacheHas who place name) = codes "cacheHas"
event_text (event.CacheDelete who place name) = codes "cacheDelete"
event_text (event.CacheKeys who place) = codes "cacheKeys"
event_text (event.Forget who place) = forget_text who place
event_text (event.Match who place find) = codes "match"
event_text (event.MatchAll who place query) = codes "matchAll"
event_text (event.Keys who place query) = codes "keys"
event_text (event.Put who place put) = codes "put"
event_text (event.Delete who place delete) = codes "delete"
event_text (event.Batch who place batch) = codes "batch"
event_text (event.AddAll who place add) = codes "addAll"
event_text (event.PreloadEnable who of) = codes "preloadEnable"
event_text (event.PreloadDisable who of) = codes "preloadDisable"
event_text (event.PreloadValue who of text) = codes "preloadValue"
event_text (event.PreloadState who of) = codes "preloadState"
event_text (event.Call who call) = call_word call
event_text (event.Run who job) = codes "run j" ++ decimal job
event_text (event.Fetched who job line) = codes "fetched j" ++ decimal job
event_text (event.Evaluated who job) = codes "evaluated j" ++ decimal job
event_text (event.Installed who job) = codes "installed j" ++ decimal job
event_text (event.TryActivate who registration) = codes "tryactivate r" ++ decimal registration
event_text (event.Activated who worker) = codes "activated w" ++ decimal worker
event_text (event.Added who task lines) = codes "added a" ++ decimal task
event_text (event.Restarted who) = codes "restarted"

-- ---- answers and notices

abbrev pub switch_word : Bool → List ℕ
switch_word true = codes "on"
switch_word false = codes "off"

abbrev pub answer_text : Answer → List ℕ
answer_text answer.Ok = codes "ok"
answer_text answer.None = codes "none"
answer_text answer.Undefined = codes "undefined"
answer_text (answer.Truth truth) = truth_word truth
answer_text answer.Made = codes "made"
answer_text answer.Found = codes "found"
answer_text (answer.Worker worker) = numbered (codes "w") worker
answer_text (answer.Registration number) = numbered (codes "r") number
answer_text (answer.Registrations numbers) = listed (numbered (codes "r")) numbers
answer_text (answer.Job job) = numbered (codes "j") job
answer_text (answer.Joined job leader) = numbered (codes "j") job ++ (codes " joined " ++ numbered (codes "j") leader)
answer_text (answer.Task task) = numbered (codes "a") task
answer_text (answer.Names names) = listed quoted names
answer_text (answer.Places places) = listed decimal places
answer_text (answer.Hit name place status size) =
    codes "hit " ++ quoted name ++ spaced (decimal place ++ spaced (decimal status ++ spaced (decimal size)))
answer_text (answer.Preload on text) = switch_word on ++ spaced (quoted text)
answer_text (answer.Fault why) = fault_text why
answer_text answer.InUse = codes "InUse"
answer_text answer.NoClient = codes "NoClient"
answer_text answer.NoWorker = codes "NoWorker"
answer_text answer.NoController = codes "NoController"
answer_text answer.NoEvent = codes "NoEvent"
answer_text answer.Busy = codes "Busy"
answer_text answer.Finished = codes "finished"
answer_text (answer.Fetch ordinal) = codes "fetch " ++ decimal ordinal
answer_text answer.Rejected = codes "rejected"
answer_text answer.Unchanged = codes "unchanged"
answer_text answer.Changed = codes "changed"
answer_text answer.Threw = codes "threw"
answer_text answer.Installing = codes "installing"
answer_text answer.Failed = codes "failed"
answer_text (answer.Restarted registrations caches) =
    decimal registrations ++ (codes " registrations " ++ decimal caches ++ codes " caches")

abbrev pub worker_state_word : WorkerState → List ℕ
worker_state_word worker_state.Parsed = codes "parsed"
worker_state_word worker_state.Installing = codes "installing"
worker_state_word worker_state.Installed = codes "installed"
worker_state_word worker_state.Activating = codes "activating"
worker_state_word worker_state.Activated = codes "activated"
worker_state_word worker_state.Redundant = codes "redundant"

abbrev pub notice_text : Notice → List ℕ
notice_text (notice.Mapped registration) = codes "mapped r" ++ decimal registration
notice_text (notice.Unmapped registration) = codes "unmapped r" ++ decimal registration
notice_text (notice.Worker worker state) = numbered (codes "w") worker ++ spaced (worker_state_word state)
notice_text (notice.Settled job settled) = codes "settled j" ++ decimal job ++ spaced (settlement_text settled)
notice_text (notice.UpdateFound registration) = codes "updatefound r" ++ decimal registration
notice_text (notice.ControllerChange client) = codes "controllerchange c" ++ decimal client

-- ---- lines

-- the mark of an event: its maker and its name (own)
abbrev pub mark : Event → List ℕ
mark happened = who_text (who_of happened) ++ spaced (event_text happened)

-- a notice behind its bar
abbrev pub barred : Notice → List ℕ
barred told = codes " | " ++ notice_text told

-- what a line has behind its arrow
abbrev pub rest_of_line : Entry → List ℕ
rest_of_line entry = answer_text entry.answer ++ (flat_map barred entry.notices ++ codes "\n")

-- the line of an entry (own)
abbrev pub line_of_entry : Entry → List ℕ
line_of_entry entry = mark entry.event ++ (codes " -> " ++ rest_of_line entry)

-- a refused event's mark behind the mark before it
abbrev pub further : Event → List ℕ
further happened = codes ", " ++ mark happened

-- the marks of the refused events, behind a space where there is one
abbrev pub refused_marks : List Event → List ℕ
refused_marks [] = []
refused_marks (happened ∷ rest) = spaced (mark happened) ++ flat_map further rest

-- the last line (own)
abbrev pub end_line : End → List ℕ
end_line end.Done = codes "end done\n"
end_line (end.Stalled lane) = codes "end stalled " ++ decimal lane ++ codes "\n"
end_line (end.Disk events) = codes "end disk" ++ refused_marks events ++ codes "\n"
end_line (end.Full happened) = codes "end full " ++ mark happened ++ codes "\n"
end_line end.Spent = codes "end spent\n"

-- the transcript of a history and its end (own)
abbrev pub transcript : List Entry → End → List ℕ
transcript history ending = flat_map line_of_entry history ++ end_line ending
