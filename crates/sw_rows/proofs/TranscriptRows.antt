-- The definition of the transcript, computed on examples.
use Rattle.std.specs.Prelude.{◌≡◌, List, [], ◌∷◌, map, codes, true, false, Some, None, refl}
use Rattle.std.specs.Fmt.{digits}
use Rattle.json.specs.Print.{escape_byte}
use Rattle.sw_data.specs.declared.answers.Answer.{Answer}
use Rattle.sw_data.specs.declared.answers.Answer.TheVariants as answer
use Rattle.sw_data.specs.declared.answers.Cause.TheVariants as cause
use Rattle.sw_data.specs.declared.answers.Fault.TheVariants as fault
use Rattle.sw_data.specs.declared.answers.Notice.{Notice}
use Rattle.sw_data.specs.declared.answers.Notice.TheVariants as notice
use Rattle.sw_data.specs.declared.answers.SecurityCause.TheVariants as security
use Rattle.sw_data.specs.declared.answers.Settlement.TheVariants as settlement
use Rattle.sw_data.specs.declared.answers.StateCause.TheVariants as state_cause
use Rattle.sw_data.specs.declared.events.Event.{Event}
use Rattle.sw_data.specs.declared.events.Event.TheVariants as event
use Rattle.sw_data.specs.declared.events.Who.TheVariants as who
use Rattle.sw_data.specs.declared.histories.End.TheVariants as end
use Rattle.sw_data.specs.declared.histories.Entry.{Entry}
use Rattle.sw_data.specs.declared.recordings.CacheAddAll.{CacheAddAll}
use Rattle.sw_data.specs.declared.recordings.CacheMatch.{CacheMatch}
use Rattle.sw_data.specs.declared.recordings.CachePut.{CachePut}
use Rattle.sw_data.specs.declared.recordings.Call.TheVariants as call
use Rattle.sw_data.specs.declared.recordings.Place.{Place}
use Rattle.sw_data.specs.declared.workers.Phase.TheVariants as phase
use Rattle.sw_data.specs.declared.workers.WorkerState.TheVariants as worker_state
use Rattle.sw_data.specs.Events.{who_of}
use Rattle.sw_print.specs.Transcript.{answer_text, notice_text, mark, line_of_entry, end_line, transcript}

-- an event that happened, with its answer and its notices
abbrev entry_of : Event → Answer → List Notice → Entry
entry_of happened answered told =
    record { pass = 0; who = who_of happened; event = happened; answer = answered; notices = told; stamp = 0 }

line_feed : codes "\n" ≡ 10 ∷ []
line_feed = refl

opening_row :
    transcript (entry_of (event.Restarted who.Host) (answer.Restarted 0 0) [] ∷ []) end.Done
    ≡ codes "- restarted -> 0 registrations 0 caches\nend done\n"
unfolding digits who_of
opening_row = refl

hit_row : (place : Place) (find : CacheMatch) →
    line_of_entry (entry_of (event.Match (who.Lane 0 2) place find) (answer.Hit (codes "v") 0 200 2) [])
    ≡ codes "L0.2 match -> hit \"v\" 0 200 2\n"
unfolding digits escape_byte who_of
hit_row place find = refl

call_row : (add : CacheAddAll) →
    line_of_entry (entry_of (event.Call (who.Handler 0 phase.Install 1) (call.AddAll add)) (answer.Task 0) [])
    ≡ codes "w0.install.1 addAll -> a0\n"
unfolding digits who_of
call_row add = refl

notices_row :
    line_of_entry (entry_of (event.Evaluated who.Host 0) answer.Installing
    (notice.Worker 0 worker_state.Installing ∷ notice.Settled 0 (settlement.Registration 0) ∷ notice.UpdateFound 0 ∷ []))
    ≡ codes "- evaluated j0 -> installing | w0 installing | settled j0 r0 | updatefound r0\n"
unfolding digits who_of
notices_row = refl

two_lines : (place : Place) →
    transcript (entry_of (event.Restarted who.Host) (answer.Restarted 10 2) [] ∷ entry_of (event.CacheOpen (who.Lane 63 65535) place []) answer.Made [] ∷ []) (end.Stalled 0)
    ≡ codes "- restarted -> 10 registrations 2 caches\nL63.65535 cacheOpen -> made\nend stalled 0\n"
unfolding digits who_of
two_lines place = refl

ends_row : (place : Place) (put : CachePut) →
    map end_line
    (end.Done ∷ end.Stalled 0 ∷ end.Disk [] ∷ end.Disk (event.CacheOpen (who.Lane 0 0) place [] ∷ event.Put (who.Lane 0 1) place put ∷ [])
    ∷ end.Full (event.Run who.Host 3) ∷ end.Spent ∷ [])
    ≡ codes "end done\n" ∷ codes "end stalled 0\n" ∷ codes "end disk\n" ∷ codes "end disk L0.0 cacheOpen, L0.1 put\n"
    ∷ codes "end full - run j3\n" ∷ codes "end spent\n" ∷ []
unfolding digits who_of
ends_row place put = refl

lists_row :
    map answer_text
    (answer.Places (0 ∷ 1 ∷ 2 ∷ 3 ∷ 4 ∷ 5 ∷ 6 ∷ 7 ∷ 8 ∷ 9 ∷ 10 ∷ 11 ∷ 12 ∷ 13 ∷ 14 ∷ 15 ∷ 16 ∷ []) ∷ answer.Places [] ∷ answer.Registrations (0 ∷ 2 ∷ [])
    ∷ answer.Names (codes "a" ∷ codes "b \"c\"" ∷ []) ∷ answer.Names [] ∷ [])
    ≡ codes "17 0 1 2 3 4 5 6 7 8 9 10 11 12 13 14 15" ∷ codes "0" ∷ codes "2 r0 r2" ∷ codes "2 \"a\" \"b \\\"c\\\"\"" ∷ codes "0" ∷ []
unfolding digits escape_byte who_of
lists_row = refl

faults_row :
    map answer_text
    (answer.Fault (fault.TypeError cause.Vary (Some 1)) ∷ answer.Fault (fault.TypeError cause.EscapedSlash None)
    ∷ answer.Fault (fault.SecurityError security.ScriptOrigin) ∷ answer.Fault (fault.InvalidState state_cause.NoWorker)
    ∷ answer.Fault (fault.InvalidStateAt 2) ∷ answer.Fault fault.Quota ∷ answer.Fault fault.CacheGone ∷ answer.Fault fault.NoRegistration ∷ [])
    ≡ codes "TypeError vary 1" ∷ codes "TypeError escaped-slash" ∷ codes "SecurityError script-origin" ∷ codes "InvalidStateError no-worker"
    ∷ codes "InvalidStateError 2" ∷ codes "QuotaExceededError" ∷ codes "CacheGone" ∷ codes "NoRegistration" ∷ []
unfolding digits who_of
faults_row = refl

answers_row :
    map answer_text
    (answer.Truth true ∷ answer.Worker 1 ∷ answer.Registration 2 ∷ answer.Joined 4 3 ∷ answer.Fetch 5 ∷ answer.Preload true (codes "x") ∷ answer.Preload false (codes "true") ∷ [])
    ≡ codes "true" ∷ codes "w1" ∷ codes "r2" ∷ codes "j4 joined j3" ∷ codes "fetch 5" ∷ codes "on \"x\"" ∷ codes "off \"true\"" ∷ []
unfolding digits escape_byte who_of
answers_row = refl

more_notices :
    map notice_text
    (notice.Mapped 0 ∷ notice.Unmapped 1 ∷ notice.Settled 2 (settlement.Truth false) ∷ notice.Settled 3 settlement.Done
    ∷ notice.Settled 4 (settlement.Fault (fault.TypeError cause.Network None)) ∷ notice.ControllerChange 7 ∷ [])
    ≡ codes "mapped r0" ∷ codes "unmapped r1" ∷ codes "settled j2 false" ∷ codes "settled j3 ok" ∷ codes "settled j4 TypeError network"
    ∷ codes "controllerchange c7" ∷ []
unfolding digits who_of
more_notices = refl

-- what the host forgets is told with its key
forget_row :
    map mark
    (event.Forget who.Host (record { at = codes "https://a.test/"; partition = None }) ∷ event.Forget who.Host (record { at = codes "https://a.test:8443/"; partition = Some (codes "p") })
    ∷ event.Forget (who.Lane 0 2) (record { at = codes "https://a.test/"; partition = None }) ∷ [])
    ≡ codes "- forget \"https://a.test\"" ∷ codes "- forget \"https://a.test:8443^p\"" ∷ codes "L0.2 forget" ∷ []
unfolding digits who_of escape_byte
forget_row = refl

host_row :
    map mark
    (event.Run who.Host 1 ∷ event.Fetched who.Host 1 None ∷ event.Installed who.Host 1 ∷ event.TryActivate who.Host 2 ∷ event.Activated who.Host 3
    ∷ event.Added who.Host 4 [] ∷ event.Call (who.Handler 5 phase.Activate 0) call.Claim ∷ [])
    ≡ codes "- run j1" ∷ codes "- fetched j1" ∷ codes "- installed j1" ∷ codes "- tryactivate r2" ∷ codes "- activated w3" ∷ codes "- added a4"
    ∷ codes "w5.activate.0 claim" ∷ []
unfolding digits who_of
host_row = refl
