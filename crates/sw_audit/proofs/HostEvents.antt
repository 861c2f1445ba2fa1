-- Which events a maker makes, and what the name of a host's event tells of it.
use Rattle.std.proofs.Common.{◌≡◌, ◌∙◌, ℕ, ◌<◌, ◌^◌, Bool, true, false, ◌==◌, List, [], ◌∷◌, ◌++◌, Option, Some, None, refl, sym, ap, decimal, codes, option_map, option_and_then, if◌then◌else◌}
use Rattle.std.specs.Prelude.{not}
use Rattle.std.proofs.lemmas.Fmt.{decimal_injective}
use Rattle.std.proofs.lemmas.List.{append_cancel_left}
use Rattle.sw_data.specs.declared.events.Event.{Event}
use Rattle.sw_data.specs.declared.events.Event.TheVariants as event
use Rattle.sw_data.specs.declared.events.Who.{Who}
use Rattle.sw_data.specs.declared.events.Who.TheVariants as who
use Rattle.sw_data.specs.declared.recordings.Call.{Call}
use Rattle.sw_data.specs.declared.recordings.FetchLine.{FetchLine}
use Rattle.sw_data.specs.declared.recordings.Recording.{Recording}
use Rattle.sw_data.specs.declared.workers.Phase.{Phase}
use Rattle.sw_data.specs.Events.{is_handler, is_lane, who_of}
use Rattle.sw_print.specs.Transcript.{event_text}
use Rattle.sw_rules.specs.Calls.{make_call}
use Rattle.sw_rules.specs.Picks.{HasLines, is_host_forget}
use Rattle.sw_rules.specs.Rows.{job_row, task_row}
use Rattle.sw_rules.specs.State.{State}
use Rattle.sw_rules.specs.Step.{case_of, has_its_maker, is_host, step}
use Rattle.sw_rules.specs.Tasks.{add_all_lines, job_line}
use Rattle.sw_rules.specs.Told.{Outcome}

-- ---- the kinds of the host's events

data Kind : Type 0 where
  run : Kind
  fetched : Kind
  evaluated : Kind
  installed : Kind
  try_activate : Kind
  activated : Kind
  added : Kind

abbrev word : Kind → List ℕ
word run = codes "run j"
word fetched = codes "fetched j"
word evaluated = codes "evaluated j"
word installed = codes "installed j"
word try_activate = codes "tryactivate r"
word activated = codes "activated w"
word added = codes "added a"

-- the kind of a name, by its first two letters
abbrev kind_in : List ℕ → Kind
kind_in [] = run
kind_in (x ∷ []) = run
kind_in (x ∷ y ∷ rest) =
    if x == 114 then run
    else if x == 102 then fetched
    else if x == 101 then evaluated
    else if x == 105 then installed
    else if x == 116 then try_activate
    else if y == 99 then activated
    else added

kind_in_word : (k : Kind) (tail : List ℕ) → kind_in (word k ++ tail) ≡ k
kind_in_word run tail = refl
kind_in_word fetched tail = refl
kind_in_word evaluated tail = refl
kind_in_word installed tail = refl
kind_in_word try_activate tail = refl
kind_in_word activated tail = refl
kind_in_word added tail = refl

-- names of two kinds are equal only where the kinds and the numbers are
same_name : (k l : Kind) (m n : ℕ) → m < 2 ^ 64 → n < 2 ^ 64 → word k ++ decimal m ≡ word l ++ decimal n → (k ≡ l) × (m ≡ n)
same_name k l m n a b is =
    let kinds : k ≡ l = sym (kind_in_word k (decimal m)) ∙ ap kind_in is ∙ kind_in_word l (decimal n) in
    let tails : word k ++ decimal m ≡ word k ++ decimal n = is ∙ ap (λ (j : Kind). word j ++ decimal n) (sym kinds) in
    (kinds, decimal_injective m n a b (append_cancel_left (word k) (decimal m) (decimal n) tails))

-- ---- the forms of the host's events

-- the number that the name of a host's event holds; none of the others' names holds one
abbrev pub named_number : Event → ℕ
named_number (event.Run who job) = job
named_number (event.Fetched who job line) = job
named_number (event.Evaluated who job) = job
named_number (event.Installed who job) = job
named_number (event.TryActivate who registration) = registration
named_number (event.Activated who worker) = worker
named_number (event.Added who task lines) = task
named_number _ = 0

-- an event of the host: its kind, and its maker
abbrev pub HostForm : Event → Type 0
HostForm (event.Run maker job) = maker ≡ who.Host
HostForm (event.Fetched maker job line) = maker ≡ who.Host
HostForm (event.Evaluated maker job) = maker ≡ who.Host
HostForm (event.Installed maker job) = maker ≡ who.Host
HostForm (event.TryActivate maker registration) = maker ≡ who.Host
HostForm (event.Activated maker worker) = maker ≡ who.Host
HostForm (event.Added maker task lines) = maker ≡ who.Host
HostForm _ = ⊥

abbrev kind_of : Event → Kind
kind_of (event.Run maker job) = run
kind_of (event.Fetched maker job line) = fetched
kind_of (event.Evaluated maker job) = evaluated
kind_of (event.Installed maker job) = installed
kind_of (event.TryActivate maker registration) = try_activate
kind_of (event.Activated maker worker) = activated
kind_of (event.Added maker task lines) = added
kind_of _ = run

-- the lines that the recording has for an addAll
abbrev lines_for : Option (List (Option FetchLine)) → List (Option FetchLine)
lines_for (Some lines) = lines
lines_for None = []

-- the event of a kind and a number
abbrev rebuilt : Recording → State → Kind → ℕ → Event
rebuilt recording state run job = event.Run who.Host job
rebuilt recording state fetched job = event.Fetched who.Host job (option_and_then (job_line recording) (job_row state job))
rebuilt recording state evaluated job = event.Evaluated who.Host job
rebuilt recording state installed job = event.Installed who.Host job
rebuilt recording state try_activate registration = event.TryActivate who.Host registration
rebuilt recording state activated worker = event.Activated who.Host worker
rebuilt recording state added task = event.Added who.Host task (lines_for (option_map (add_all_lines recording) (task_row state task)))

-- an event of the host is that of its kind and number
is_rebuilt : (recording : Recording) (state : State) (happened : Event) → HostForm happened → HasLines recording state happened → happened ≡ rebuilt recording state (kind_of happened) (named_number happened)
is_rebuilt recording state (event.Run maker job) host lines = ap (λ (w : Who). event.Run w job) host
is_rebuilt recording state (event.Fetched maker job line) host lines = ap (λ (w : Who). event.Fetched w job line) host ∙ ap (λ (l : Option FetchLine). event.Fetched who.Host job l) lines
is_rebuilt recording state (event.Evaluated maker job) host lines = ap (λ (w : Who). event.Evaluated w job) host
is_rebuilt recording state (event.Installed maker job) host lines = ap (λ (w : Who). event.Installed w job) host
is_rebuilt recording state (event.TryActivate maker registration) host lines = ap (λ (w : Who). event.TryActivate w registration) host
is_rebuilt recording state (event.Activated maker worker) host lines = ap (λ (w : Who). event.Activated w worker) host
is_rebuilt recording state (event.Added maker task rows) host lines = ap (λ (w : Who). event.Added w task rows) host ∙ ap (λ (l : Option (List (Option FetchLine))). event.Added who.Host task (lines_for l)) lines
is_rebuilt recording state _ host lines = absurd host

-- the name of a host's event
its_name : (happened : Event) → HostForm happened → event_text happened ≡ word (kind_of happened) ++ decimal (named_number happened)
its_name (event.Run maker job) host = refl
its_name (event.Fetched maker job line) host = refl
its_name (event.Evaluated maker job) host = refl
its_name (event.Installed maker job) host = refl
its_name (event.TryActivate maker registration) host = refl
its_name (event.Activated maker worker) host = refl
its_name (event.Added maker task lines) host = refl
its_name _ host = absurd host

-- two events of the host with one name are one, where they carry the recorded lines
pub same_host_event : (recording : Recording) (state : State) (one other : Event) → HostForm one → HostForm other
    → named_number one < 2 ^ 64 → named_number other < 2 ^ 64
    → HasLines recording state one → HasLines recording state other → event_text one ≡ event_text other → one ≡ other
same_host_event recording state one other f g a b lines others is =
    let both = same_name (kind_of one) (kind_of other) (named_number one) (named_number other) a b (sym (its_name one f) ∙ is ∙ its_name other g) in
    is_rebuilt recording state one f lines
    ∙ ap (λ (k : Kind). rebuilt recording state k (named_number one)) both.0
    ∙ ap (λ (n : ℕ). rebuilt recording state (kind_of other) n) both.1
    ∙ sym (is_rebuilt recording state other g others)

-- ---- which events a maker makes

-- what a test lets through
its_maker : (b : Bool) (x : Option Outcome) (o : Outcome) → (if b then x else None) ≡ Some o → (b ≡ true) × (x ≡ Some o)
its_maker true x o is = (refl, is)
its_maker false x o is = absurd cc

-- an event that may happen has the kind of maker that makes it, and comes to its case
pub its_case : (state : State) (happened : Event) (o : Outcome) → step state happened ≡ Some o → (has_its_maker happened ≡ true) × (case_of state happened ≡ Some o)
unfolding step
its_case state happened o is = its_maker (has_its_maker happened) (case_of state happened) o is

-- a maker of which a test says one thing is no maker of which it says the other
not_both : {P : Type 0} (test : Who → Bool) (w other : Who) → w ≡ other → test w ≡ true → test other ≡ false → P
not_both test w other same passes fails = absurd cc

host_made : (happened : Event) → has_its_maker happened ≡ true → who_of happened ≡ who.Host → is_host_forget happened ≡ false → HostForm happened
unfolding who_of
host_made (event.Forget maker place) its host unforced = not_both (λ w. not (is_host_forget (event.Forget w place))) maker who.Host host (ap not unforced) refl
host_made (event.Call maker called) its host unforced = not_both is_handler maker who.Host host its refl
host_made (event.Run maker job) its host unforced = host
host_made (event.Fetched maker job line) its host unforced = host
host_made (event.Evaluated maker job) its host unforced = host
host_made (event.Installed maker job) its host unforced = host
host_made (event.TryActivate maker registration) its host unforced = host
host_made (event.Activated maker worker) its host unforced = host
host_made (event.Added maker task lines) its host unforced = host
host_made happened its host unforced = not_both is_lane (who_of happened) who.Host host its refl

-- what the host makes, but for what it forgets, is one of its own events
pub host_form : (state : State) (happened : Event) (o : Outcome) → step state happened ≡ Some o → who_of happened ≡ who.Host → is_host_forget happened ≡ false → HostForm happened
host_form state happened o is = host_made happened (its_case state happened o is).0

-- what a handler makes is a call
handler_made : (happened : Event) (worker : ℕ) (p : Phase) (number : ℕ) → has_its_maker happened ≡ true → who_of happened ≡ who.Handler worker p number
    → (called : Call) × (happened ≡ event.Call (who.Handler worker p number) called)
unfolding who_of
handler_made (event.Call w called) worker p number its handler = (called, ap (λ (v : Who). event.Call v called) handler)
handler_made (event.Forget maker place) worker p number its handler = not_both (λ w. not (is_handler w)) maker (who.Handler worker p number) handler its refl
handler_made (event.Run maker job) worker p number its handler = not_both is_host maker (who.Handler worker p number) handler its refl
handler_made (event.Fetched maker job line) worker p number its handler = not_both is_host maker (who.Handler worker p number) handler its refl
handler_made (event.Evaluated maker job) worker p number its handler = not_both is_host maker (who.Handler worker p number) handler its refl
handler_made (event.Installed maker job) worker p number its handler = not_both is_host maker (who.Handler worker p number) handler its refl
handler_made (event.TryActivate maker registration) worker p number its handler = not_both is_host maker (who.Handler worker p number) handler its refl
handler_made (event.Activated maker row) worker p number its handler = not_both is_host maker (who.Handler worker p number) handler its refl
handler_made (event.Added maker task lines) worker p number its handler = not_both is_host maker (who.Handler worker p number) handler its refl
handler_made happened worker p number its handler = not_both is_lane (who_of happened) (who.Handler worker p number) handler its refl

pub call_form : (state : State) (happened : Event) (o : Outcome) (worker : ℕ) (p : Phase) (number : ℕ) → step state happened ≡ Some o → who_of happened ≡ who.Handler worker p number
    → (called : Call) × (happened ≡ event.Call (who.Handler worker p number) called) × (make_call state (who.Handler worker p number) called ≡ Some o)
call_form state happened o worker p number is handler =
    let its = its_case state happened o is in
    let made = handler_made happened worker p number its.0 handler in
    (made.0, made.1, ap (case_of state) (sym made.1) ∙ its.1)
