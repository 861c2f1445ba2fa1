-- A transcript names one history: its marks name the events, and the events the rest.
use Rattle.std.proofs.Common.{◌≡◌, ◌∙◌, ℕ, ◌+◌, ◌<◌, Bool, true, false, List, [], ◌∷◌, ◌++◌, Option, Some, None, refl, sym, ap, subst, arith, append_assoc, length, length-append, codes, flat_map, option_and_then, option_map, slice_get, if◌then◌else◌}
use Rattle.std.specs.Option.{option_map_or}
use Rattle.std.proofs.lemmas.Bool.{and_parts}
use Rattle.std.proofs.lemmas.Bool.Decides.{nat_tests}
use Rattle.std.proofs.lemmas.List.{append_cancel_left, append_cancel_right}
use Rattle.std.proofs.lemmas.List.Sums.{sum_by_push}
use Rattle.sw_data.specs.declared.answers.Answer.{Answer}
use Rattle.sw_data.specs.declared.answers.Notice.{Notice}
use Rattle.sw_data.specs.declared.events.Event.{Event}
use Rattle.sw_data.specs.declared.events.Event.TheVariants as event
use Rattle.sw_data.specs.declared.events.Who.{Who}
use Rattle.sw_data.specs.declared.events.Who.TheVariants as who
use Rattle.sw_data.specs.declared.histories.Entry.{Entry}
use Rattle.sw_data.specs.declared.recordings.Call.{Call}
use Rattle.sw_data.specs.declared.recordings.Recording.{Recording}
use Rattle.sw_data.specs.declared.storage.Kept.{Kept}
use Rattle.sw_data.specs.declared.workers.Phase.{Phase}
use Rattle.sw_data.specs.Events.{who_of}
use Rattle.sw_data.specs.Sameness.{same_call}
use Rattle.sw_print.specs.Transcript.{end_line, event_text, line_of_entry, mark, rest_of_line}
use Rattle.sw_rules.specs.Calls.{call_by, is_at, is_next_call}
use Rattle.sw_rules.specs.History.{EachFrom, IsOpening, IsStep, moved}
use Rattle.sw_rules.specs.Installing.{calls_of}
use Rattle.sw_rules.specs.Picks.{IsFollowing, IsNextOfLane, is_of_lane, made_by}
use Rattle.sw_rules.specs.Recordings.{recorded_event}
use Rattle.sw_rules.specs.Restart.{restart}
use Rattle.sw_rules.specs.Rows.{free_handler, worker_row}
use Rattle.sw_rules.specs.State.{State, Worker, Handler}
use Rattle.sw_rules.specs.Step.{state_after, step}
use Rattle.sw_rules.specs.Told.{Outcome}
use Rattle.sw_laws.specs.Coherent.{Coherent}
use Rattle.sw_laws.proofs.CoherentLaw.{step-coherent}
use Rattle.sw_laws.proofs.Restarts.{made_sound, restart-coherent}
use Rattle.sw_audit.specs.Naming.{IsNumberedBelow, IsSameEntry, IsSameHistory, NamesOneHistory}
use Rattle.sw_audit.proofs.Bounds.{handler_fits, lane_fits, number_fits}
use Rattle.sw_audit.proofs.Cuts.{cut, free, free-append}
use Rattle.sw_audit.proofs.HostEvents.{call_form, host_form, same_host_event}
use Rattle.sw_audit.proofs.MarkLemmas.{AreAlike, WhoFits, free_mark, same_mark}
use Rattle.sw_audit.proofs.SameCalls.{equal_calls}

-- ---- one event

pub some_same : {A : Type 0} (x y : A) → Some x ≡ Some y → x ≡ y
some_same x y is = cc

-- the lanes have made equally many of these entries as of those
abbrev pub MadeAlike : List Entry → List Entry → Type 0
MadeAlike b c = (lane : ℕ) → made_by lane b ≡ made_by lane c

same_lane_event : (recording : Recording) (b c : List Entry) (one other : Entry) (lane at next : ℕ) → MadeAlike b c → one.who ≡ who.Lane lane at → other.who ≡ who.Lane lane next
    → IsNextOfLane recording b one one.who → IsNextOfLane recording c other other.who → one.event ≡ other.event
same_lane_event recording b c one other lane at next alike is is' here there =
    let m = subst (λ (w : Who). IsNextOfLane recording b one w) is here in
    let n = subst (λ (w : Who). IsNextOfLane recording c other w) is' there in
    let same : at ≡ next = m.0 ∙ alike lane ∙ sym n.0 in
    some_same one.event other.event (sym m.1 ∙ ap (recorded_event recording lane) same ∙ n.1)

pub guard : {A : Type 0} (b : Bool) (x : Option A) (o : A) → (if b then x else None) ≡ Some o → b ≡ true
guard true x o is = refl
guard false x o is = cc

-- how many calls the handler of a worker has made
abbrev made_calls : State → Worker → Option ℕ
made_calls state row = option_map (λ handler. handler.made) (free_handler state row.number)

-- a call that is made is the one that the worker's list has, and has the number of calls before it
next_call : (state : State) (worker : ℕ) (p : Phase) (number : ℕ) (called : Call) (row : Option Worker) (o : Outcome)
    → option_and_then (λ r. if is_next_call state r p number called then call_by state (who.Handler worker p number) r p called else None) row ≡ Some o
    → (option_and_then (made_calls state) row ≡ Some number)
    × (option_map_or (same_call called) (option_and_then (λ r. slice_get (calls_of r p) number) row) false ≡ true)
next_call state worker p number called None o is = absurd cc
next_call state worker p number called (Some row) o is =
    let both = and_parts (option_map_or (is_at p number) (free_handler state row.number) false) (option_map_or (same_call called) (slice_get (calls_of row p) number) false)
    (guard (is_next_call state row p number called) (call_by state (who.Handler worker p number) row p called) o is) in
    (made_number p number (free_handler state row.number) both.0, both.1)
  where
    made_number : (p : Phase) (number : ℕ) (handler : Option Handler) → option_map_or (is_at p number) handler false ≡ true → option_map (λ h. h.made) handler ≡ Some number
    made_number p number None is = absurd cc
    made_number p number (Some handler) is = let same : handler.made ≡ number = grind (arith, nat_tests, is) in ap (λ n. Some n) same

agree : (listed : Option Call) (c d : Call) → option_map_or (same_call c) listed false ≡ true → option_map_or (same_call d) listed false ≡ true → c ≡ d
agree None c d a b = cc
agree (Some k) c d a b = equal_calls c k a ∙ sym (equal_calls d k b)

same_call_event : (state : State) (one other : Event) (o q : Outcome) (worker : ℕ) (p : Phase) (number next : ℕ) → step state one ≡ Some o → step state other ≡ Some q
    → who_of one ≡ who.Handler worker p number → who_of other ≡ who.Handler worker p next → one ≡ other
same_call_event state one other o q worker p number next is is' f g =
    let x = call_form state one o worker p number is f in
    let y = call_form state other q worker p next is' g in
    let a = next_call state worker p number x.0 (worker_row state worker) o x.2 in
    let b = next_call state worker p next y.0 (worker_row state worker) q y.2 in
    let same : next ≡ number = some_same next number (sym b.0 ∙ a.0) in
    let listed = λ (n : ℕ). option_and_then (λ (r : Worker). slice_get (calls_of r p) n) (worker_row state worker) in
    let one_call = agree (listed number) x.0 y.0 a.1 (subst (λ n. option_map_or (same_call y.0) (listed n) false ≡ true) same b.1) in
    x.1 ∙ ap (λ (c : Call). event.Call (who.Handler worker p number) c) one_call ∙ ap (λ n. event.Call (who.Handler worker p n) y.0) (sym same) ∙ sym y.1

-- what a step comes to
abbrev outcome : {before : List Entry} {old : State} {entry : Entry} → IsStep before old entry → Outcome
outcome {before} {old} {entry} step_is = record { answer = entry.answer; told = record { state = moved old entry; notices = entry.notices; changes = step_is.step.0 } }

-- the numbers of an entry's maker are below 2^64
maker_fits : (recording : Recording) (before : List Entry) (state : State) (entry : Entry) → Coherent state → IsNumberedBelow recording state → IsStep before state entry → IsFollowing recording before state entry → WhoFits (who_of entry.event)
maker_fits recording before state entry sound fits s f = by (who_of entry.event) refl
  where
    by : (w : Who) → who_of entry.event ≡ w → WhoFits w
    by who.Host is = tt
    by (who.Lane lane at) is = lane_fits recording state sound fits lane at entry.event (subst (λ (w : Who). IsNextOfLane recording before entry w) (s.maker ∙ is) f.recorded.action).1
    by (who.Handler worker p number) is =
        let call = call_form state entry.event (outcome s) worker p number s.step.1 is in
        handler_fits recording state sound fits worker p number call.0 (outcome s) call.2

-- entries of one mark that are steps of one state have one event
same_event : (recording : Recording) (b c : List Entry) (state : State) (one other : Entry) → Coherent state → IsNumberedBelow recording state → MadeAlike b c → IsStep b state one → IsStep c state other
    → IsFollowing recording b state one → IsFollowing recording c state other → mark one.event ≡ mark other.event → one.event ≡ other.event
same_event recording b c state one other sound fits alike s t r q is =
    let both = same_mark one.event other.event (maker_fits recording b state one sound fits s r) (maker_fits recording c state other sound fits t q) is in
    by (who_of one.event) (who_of other.event) refl refl both.0 both.1
  where
    by : (v w : Who) → who_of one.event ≡ v → who_of other.event ≡ w → AreAlike v w → event_text one.event ≡ event_text other.event → one.event ≡ other.event
    by who.Host who.Host h k like text =
        let f = host_form state one.event (outcome s) s.step.1 h r.unforced in
        let g = host_form state other.event (outcome t) t.step.1 k q.unforced in
        same_host_event recording state one.event other.event f g
        (number_fits recording state sound fits one.event (outcome s) f s.step.1) (number_fits recording state sound fits other.event (outcome t) g t.step.1)
        r.recorded.lines q.recorded.lines text
    by (who.Lane lane at) (who.Lane lane' next) h k like text =
        same_lane_event recording b c one other lane at next alike (s.maker ∙ h) (t.maker ∙ k ∙ ap (λ l. who.Lane l next) (sym like)) r.recorded.action q.recorded.action
    by (who.Handler worker p number) (who.Handler worker' p' next) h k like text =
        same_call_event state one.event other.event (outcome s) (outcome t) worker p number next s.step.1 t.step.1 h
        (k ∙ ap (λ w. who.Handler w p' next) (sym like.0) ∙ ap (λ x. who.Handler worker x next) (sym like.1))
    by who.Host (who.Lane lane at) h k like text = absurd like
    by who.Host (who.Handler worker p number) h k like text = absurd like
    by (who.Lane lane at) who.Host h k like text = absurd like
    by (who.Lane lane at) (who.Handler worker p number) h k like text = absurd like
    by (who.Handler worker p number) who.Host h k like text = absurd like
    by (who.Handler worker p number) (who.Lane lane at) h k like text = absurd like

-- ---- histories

reshape : (m r f t : List ℕ) → ((m ++ (codes " -> " ++ r)) ++ f) ++ t ≡ (m ++ 32 ∷ 45 ∷ []) ++ 62 ∷ (32 ∷ (r ++ (f ++ t)))
reshape m r f t = simp append_assoc

behind : (x : ℕ) (a b : List ℕ) → x ∷ a ≡ x ∷ b → a ≡ b
behind x a b is = cc

-- two texts that begin with lines: their marks are equal, and so is what follows
cut_lines : (m n r q f g t : List ℕ) → free 62 m ≡ true → free 62 n ≡ true
    → ((m ++ (codes " -> " ++ r)) ++ f) ++ t ≡ ((n ++ (codes " -> " ++ q)) ++ g) ++ t → (m ≡ n) × (r ++ (f ++ t) ≡ q ++ (g ++ t))
cut_lines m n r q f g t a b is =
    let both = cut 62 (m ++ 32 ∷ 45 ∷ []) (n ++ 32 ∷ 45 ∷ []) (32 ∷ (r ++ (f ++ t))) (32 ∷ (q ++ (g ++ t)))
    (free-append 62 m (32 ∷ 45 ∷ []) a refl) (free-append 62 n (32 ∷ 45 ∷ []) b refl) (sym (reshape m r f t) ∙ is ∙ reshape n q g t) in
    let tails : r ++ (f ++ t) ≡ q ++ (g ++ t) = behind 32 (r ++ (f ++ t)) (q ++ (g ++ t)) both.1 in
    (append_cancel_right m n (32 ∷ 45 ∷ []) both.0, tails)

longer : (line f t : List ℕ) → 0 < length line → t ≡ (line ++ f) ++ t → ⊥
longer line f t some is = omega (arith, some, ap length is, length-append (line ++ f) t, length-append line f)

pub line_length : (entry : Entry) → 0 < length (line_of_entry entry)
line_length entry = omega (arith, length-append (mark entry.event) (codes " -> " ++ rest_of_line entry))

-- steps of one state by one event have one outcome
pub same_outcome : (b c : List Entry) (state : State) (one other : Entry) → IsStep b state one → IsStep c state other → one.event ≡ other.event
    → IsSameEntry one other
same_outcome b c state one other s t is =
    let o : Outcome = record { answer = one.answer; told = record { state = moved state one; notices = one.notices; changes = s.step.0 } } in
    let q : Outcome = record { answer = other.answer; told = record { state = moved state other; notices = other.notices; changes = t.step.0 } } in
    let same = some_same o q (sym s.step.1 ∙ ap (step state) is ∙ t.step.1) in
    record {
      event = is;
      answer = ap (λ (x : Outcome). x.answer) same;
      notices = ap (λ (x : Outcome). x.told.notices) same;
    }

same_rest : (one other : Entry) → IsSameEntry one other → rest_of_line one ≡ rest_of_line other
same_rest one other same =
    ap (λ (a : Answer). rest_of_line (record one { answer = a })) same.answer
    ∙ ap (λ (n : List Notice). rest_of_line (record one { answer = other.answer; notices = n })) same.notices

-- two entries of one maker are counted alike
pub made_further : (b c : List Entry) (one other : Entry) → one.who ≡ other.who → MadeAlike b c → MadeAlike (b ++ one ∷ []) (c ++ other ∷ [])
made_further b c one other same alike lane =
    let counts = λ (entry : Entry). if is_of_lane lane entry.who then 1 else 0 in
    let last : counts one ≡ counts other = ap (λ (w : Who). if is_of_lane lane w then 1 else 0) same in
    sum_by_push counts b one ∙ ap (λ n. n + counts one) (alike lane) ∙ ap (λ n. made_by lane c + n) last ∙ sym (sum_by_push counts c other)

-- histories from one state with one text are one
named : (recording : Recording) (t : List ℕ) (b c : List Entry) (state : State) (one other : List Entry) → Coherent state → MadeAlike b c
    → EachFrom (λ before old entry. IsNumberedBelow recording old) b state one → EachFrom IsStep b state one → EachFrom IsStep c state other
    → EachFrom (IsFollowing recording) b state one → EachFrom (IsFollowing recording) c state other
    → flat_map line_of_entry one ++ t ≡ flat_map line_of_entry other ++ t → IsSameHistory one other
named recording t b c state [] [] sound alike fits s s' f f' is = tt
named recording t b c state [] (x ∷ xs) sound alike fits s s' f f' is = longer (line_of_entry x) (flat_map line_of_entry xs) t (line_length x) is
named recording t b c state (x ∷ xs) [] sound alike fits s s' f f' is = longer (line_of_entry x) (flat_map line_of_entry xs) t (line_length x) (sym is)
named recording t b c state (x ∷ xs) (y ∷ ys) sound alike fits s s' f f' is =
    let both = cut_lines (mark x.event) (mark y.event) (rest_of_line x) (rest_of_line y) (flat_map line_of_entry xs) (flat_map line_of_entry ys) t
    (free_mark x.event f.0.unforced) (free_mark y.event f'.0.unforced) is in
    let event_is = same_event recording b c state x y sound fits.0 alike s.0 s'.0 f.0 f'.0 both.0 in
    let same = same_outcome b c state x y s.0 s'.0 event_is in
    let maker : x.who ≡ y.who = s.0.maker ∙ ap who_of event_is ∙ sym s'.0.maker in
    let rests : rest_of_line x ++ (flat_map line_of_entry xs ++ t) ≡ rest_of_line x ++ (flat_map line_of_entry ys ++ t) =
    both.1 ∙ ap (λ (r : List ℕ). r ++ (flat_map line_of_entry ys ++ t)) (sym (same_rest x y same)) in
    let states : moved state y ≡ moved state x = ap (state_after state) (sym event_is) in (
      same,
      named recording t (b ++ x ∷ []) (c ++ y ∷ []) (moved state x) xs ys (step-coherent state x.event sound) (made_further b c x y maker alike) fits.1 s.1
          (subst (λ (z : State). EachFrom IsStep (c ++ y ∷ []) z ys) states s'.1) f.1
          (subst (λ (z : State). EachFrom (IsFollowing recording) (c ++ y ∷ []) z ys) states f'.1)
          (append_cancel_left (rest_of_line x) (flat_map line_of_entry xs ++ t) (flat_map line_of_entry ys ++ t) rests),
    )

pub same_opening : (base : Kept) (one other : Entry) → IsOpening base one → IsOpening base other → IsSameEntry one other
same_opening base one other a b = record {
  event = a.event ∙ sym b.event;
  answer = a.answer ∙ sym b.answer;
  notices = a.notices ∙ sym b.notices;
}

pub same_line : (one other : Entry) → IsSameEntry one other → line_of_entry one ≡ line_of_entry other
same_line one other same =
    ap (λ (e : Event). mark e ++ (codes " -> " ++ rest_of_line one)) same.event
    ∙ ap (λ (r : List ℕ). mark other.event ++ (codes " -> " ++ r)) (same_rest one other same)

pub names_one_history : NamesOneHistory
names_one_history base recording [] other ending fits legal legal' follows follows' is = absurd legal.opens
names_one_history base recording (x ∷ xs) [] ending fits legal legal' follows follows' is = absurd legal'.opens
names_one_history base recording (x ∷ xs) (y ∷ ys) ending fits legal legal' follows follows' is =
    let same = same_opening base x y legal.opens legal'.opens in
    let t = end_line ending in
    let left : (line_of_entry x ++ flat_map line_of_entry xs) ++ t ≡ line_of_entry x ++ (flat_map line_of_entry xs ++ t) = append_assoc (line_of_entry x) (flat_map line_of_entry xs) t in
    let right : (line_of_entry y ++ flat_map line_of_entry ys) ++ t ≡ line_of_entry y ++ (flat_map line_of_entry ys ++ t) = append_assoc (line_of_entry y) (flat_map line_of_entry ys) t in
    let texts : line_of_entry x ++ (flat_map line_of_entry xs ++ t) ≡ line_of_entry x ++ (flat_map line_of_entry ys ++ t) =
    sym left ∙ is ∙ right ∙ ap (λ (l : List ℕ). l ++ (flat_map line_of_entry ys ++ t)) (sym (same_line x y same)) in (
      same,
      named recording t (x ∷ []) (y ∷ []) (restart base) xs ys (restart-coherent base (made_sound base legal.made)) (made_further [] [] x y (legal.opens.maker ∙ sym legal'.opens.maker) (λ lane. refl))
          fits legal.steps legal'.steps follows follows'
          (append_cancel_left (line_of_entry x) (flat_map line_of_entry xs ++ t) (flat_map line_of_entry ys ++ t) texts),
    )
