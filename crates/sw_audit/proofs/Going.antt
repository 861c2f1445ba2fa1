-- One line more of a transcript is checked.
use Rattle.std.proofs.Common.{◌≡◌, ◌∙◌, ℕ, ◌+◌, ◌<◌, ◌^◌, Bool, List, [], ◌∷◌, ◌++◌, find, filter_map, flat_map, length, length-append, append_assoc, codes, decimal, Option, Some, None, Result, Ok, Err, if◌then◌else◌, refl, sym, ap, subst}
use Rattle.std.specs.Prelude.{IfOk, count_by}
use Rattle.std.specs.List.{range_with_len}
use Rattle.std.proofs.lemmas.List.{append_cancel_left, append-nil}
use Rattle.std.proofs.lemmas.List.Sums.{sum_by-append}
use Rattle.std.proofs.lemmas.Option.{option_and_then_some}
use Rattle.sw_data.specs.declared.events.Event.{Event}
use Rattle.sw_data.specs.declared.events.Event.TheVariants as event
use Rattle.sw_data.specs.declared.events.Who.{Who}
use Rattle.sw_data.specs.declared.events.Who.TheVariants as who
use Rattle.sw_data.specs.declared.histories.End.{End}
use Rattle.sw_data.specs.declared.histories.End.TheVariants as end
use Rattle.sw_data.specs.declared.histories.Entry.{Entry}
use Rattle.sw_data.specs.declared.recordings.Recording.{Recording}
use Rattle.sw_data.specs.declared.storage.Kept.{Kept}
use Rattle.sw_data.specs.declared.workers.Phase.{Phase}
use Rattle.sw_data.specs.Events.{who_of}
use Rattle.sw_print.specs.Transcript.{end_line, event_text, line_of_entry, mark, phase_word, rest_of_line, who_text}
use Rattle.sw_rules.specs.History.{EachFrom, IsOpening, IsStep, after_entries, moved, restart_answer}
use Rattle.sw_rules.specs.Picks.{IsFollowing, IsNextOfLane, is_of_lane, made_by, next_action}
use Rattle.sw_rules.specs.Recordings.{recorded_event}
use Rattle.sw_rules.specs.Restart.{restart}
use Rattle.sw_rules.specs.State.{State}
use Rattle.sw_rules.specs.Step.{enabled, state_after, step}
use Rattle.sw_rules.specs.Storage.{IsMade}
use Rattle.sw_audit.specs.Naming.{IsSameEntry}
use Rattle.sw_audit.proofs.OneHistory.{MadeAlike, made_further, same_line, same_opening, same_outcome, some_same}
use Rattle.sw_audit.specs.declared.machines.Ending.{Ending}
use Rattle.sw_audit.specs.declared.marks.Kind.TheVariants as kind
use Rattle.sw_audit.specs.declared.marks.Mark.{Mark}
use Rattle.sw_audit.specs.declared.marks.Mark.TheVariants as marks
use Rattle.sw_audit.specs.declared.verdicts.Verdict.{Verdict}
use Rattle.sw_audit.specs.declared.verdicts.Verdict.TheVariants as verdict
use Rattle.sw_audit.specs.Accepted.{IsAcceptedEnd, IsTold, Says}
use Rattle.sw_audit.specs.Continuing.{Continues, Decides, IsBarred, IsEnd, Opens, Reached, SameLeft, end_of}
use Rattle.sw_audit.specs.Marks.{IsRead, front, host_mark, mark_by, mark_of, number_in}
use Rattle.sw_audit.specs.Named.{AreSmall, IsNamed, named}
use Rattle.sw_audit.proofs.Determined.{is_named, is_small}

-- ---- histories in which each lane has made as many entries

count_append : {X : Type 0} (test : X → Bool) (xs ys : List X) → count_by test (xs ++ ys) ≡ count_by test xs + count_by test ys
count_append test xs ys = sum_by-append (λ (x : _). if test x then 1 else 0) xs ys

more_made : (b c xs : List Entry) → MadeAlike b c → MadeAlike (b ++ xs) (c ++ xs)
more_made b c xs same = λ lane.
    count_append (λ (entry : Entry). is_of_lane lane entry.who) b xs
    ∙ ap (λ (n : ℕ). n + made_by lane xs) (same lane)
    ∙ sym (count_append (λ (entry : Entry). is_of_lane lane entry.who) c xs)

-- ---- what holds after one of them holds after the other

steps_alike : (b c : List Entry) (state : State) (xs : List Entry) → EachFrom IsStep b state xs → EachFrom IsStep c state xs
steps_alike b c state [] steps = tt
steps_alike b c state (x ∷ xs) steps =
    (record { maker = steps.0.maker; step = steps.0.step }, steps_alike (b ++ x ∷ []) (c ++ x ∷ []) (moved state x) xs steps.1)

next_alike : (recording : Recording) (b c : List Entry) (entry : Entry) → MadeAlike b c → (w : Who) → IsNextOfLane recording b entry w → IsNextOfLane recording c entry w
next_alike recording b c entry same who.Host next = tt
next_alike recording b c entry same (who.Lane lane at) next = (next.0 ∙ same lane, next.1)
next_alike recording b c entry same (who.Handler worker p number) next = tt

follows_alike : (recording : Recording) (b c : List Entry) (state : State) (xs : List Entry) → MadeAlike b c
    → EachFrom (IsFollowing recording) b state xs → EachFrom (IsFollowing recording) c state xs
follows_alike recording b c state [] same follows = tt
follows_alike recording b c state (x ∷ xs) same follows = (
  record {
    recorded = record { action = next_alike recording b c x same x.who follows.0.recorded.action; lines = follows.0.recorded.lines };
    unforced = follows.0.unforced;
  },
  follows_alike recording (b ++ x ∷ []) (c ++ x ∷ []) (moved state x) xs (more_made b c (x ∷ []) same) follows.1,
)

actions_alike : (recording : Recording) (b c : List Entry) → MadeAlike b c → next_action recording b ≡ next_action recording c
actions_alike recording b c same = λ i lane. recorded_event recording lane (same lane i)

ended_alike : (recording : Recording) (b c : List Entry) (state : State) (ending : End) → MadeAlike b c → IsAcceptedEnd recording b state ending → IsAcceptedEnd recording c state ending
ended_alike recording b c state end.Done same ended = record {
  lanes = λ lane. ap (λ (f : ℕ → Option Event). f lane) (sym (actions_alike recording b c same)) ∙ ended.lanes lane;
  jobs = ended.jobs;
  handlers = ended.handlers;
  tasks = ended.tasks;
  owed = ended.owed;
}
ended_alike recording b c state (end.Stalled stalled) same ended = record {
  no_action = ap (λ (f : ℕ → Option Event). find (enabled state) (filter_map f (range_with_len 0 (length recording.lanes)))) (sym (actions_alike recording b c same)) ∙ ended.no_action;
  no_task = ended.no_task;
  left = λ none. ended.left (ap (λ (f : ℕ → Option Event). f stalled) (actions_alike recording b c same) ∙ none);
  lowest = λ lower below. ap (λ (f : ℕ → Option Event). f lower) (sym (actions_alike recording b c same)) ∙ ended.lowest lower below;
}
ended_alike recording b c state (end.Disk events) same ended = absurd ended
ended_alike recording b c state (end.Full happened) same ended = absurd ended
ended_alike recording b c state end.Spent same ended = absurd ended

pub goes_alike : (recording : Recording) (b c : List Entry) (state : State) (text : List ℕ) (count : ℕ) → MadeAlike b c → length b ≡ length c
    → Continues recording b state text count → Continues recording c state text count
goes_alike recording b c state text count same sizes goes = record {
  entries = goes.entries;
  ending = goes.ending;
  steps = steps_alike b c state goes.entries goes.steps;
  follows = follows_alike recording b c state goes.entries same goes.follows;
  printed = goes.printed;
  ended = ended_alike recording (b ++ goes.entries) (c ++ goes.entries) (after_entries state goes.entries) goes.ending (more_made b c goes.entries same) goes.ended;
  size = length-append c goes.entries ∙ ap (λ (n : ℕ). n + length goes.entries) (sym sizes) ∙ sym (length-append b goes.entries) ∙ goes.size;
}

-- ---- what a line begins with

spread : (word : List ℕ) (number : ℕ) (tail : List ℕ) → (word ++ decimal number) ++ 32 ∷ tail ≡ (word ++ (decimal number ++ codes " ")) ++ tail
spread word number tail = simp append_assoc

regrouped : (a d name tail : List ℕ) → ((a ++ 46 ∷ d) ++ 32 ∷ name) ++ 32 ∷ tail ≡ (a ++ 46 ∷ []) ++ (d ++ 32 ∷ (name ++ 32 ∷ tail))
regrouped a d name tail = simp append_assoc

lane_spread : (lane at : ℕ) (name tail : List ℕ)
    → (((codes "L" ++ decimal lane) ++ (codes "." ++ decimal at)) ++ (codes " " ++ name)) ++ 32 ∷ tail
    ≡ (codes "L" ++ (decimal lane ++ codes ".")) ++ (decimal at ++ 32 ∷ (name ++ 32 ∷ tail))
lane_spread lane at name tail = ap (λ (l : List ℕ). 76 ∷ l) (regrouped (decimal lane) (decimal at) name tail)

handler_spread : (worker : ℕ) (p : Phase) (number : ℕ) (name tail : List ℕ)
    → (((codes "w" ++ decimal worker) ++ (codes "." ++ (phase_word p ++ (codes "." ++ decimal number)))) ++ (codes " " ++ name)) ++ 32 ∷ tail
    ≡ (codes "w" ++ (decimal worker ++ codes ".")) ++ (phase_word p ++ 46 ∷ (decimal number ++ 32 ∷ (name ++ 32 ∷ tail)))
handler_spread worker p number name tail =
    ap (λ (l : List ℕ). 119 ∷ l)
    (regrouped (decimal worker) (phase_word p ++ 46 ∷ decimal number) name tail
    ∙ ap (λ (l : List ℕ). (decimal worker ++ 46 ∷ []) ++ l) (append_assoc (phase_word p) (46 ∷ decimal number) (32 ∷ (name ++ 32 ∷ tail))))

host_begins : (happened : Event) (marked : Mark) (tail : List ℕ) → host_mark happened ≡ Some marked
    → (rest : List ℕ) × (codes "-" ++ (32 ∷ event_text happened ++ 32 ∷ tail) ≡ front marked ++ rest)
host_begins (event.Run maker job) marked tail is = (tail, spread (codes "- run j") job tail ∙ ap (λ (m : Mark). front m ++ tail) (some_same (marks.Host kind.Run job) marked is))
host_begins (event.Fetched maker job line) marked tail is = (tail, spread (codes "- fetched j") job tail ∙ ap (λ (m : Mark). front m ++ tail) (some_same (marks.Host kind.Fetched job) marked is))
host_begins (event.Evaluated maker job) marked tail is = (tail, spread (codes "- evaluated j") job tail ∙ ap (λ (m : Mark). front m ++ tail) (some_same (marks.Host kind.Evaluated job) marked is))
host_begins (event.Installed maker job) marked tail is = (tail, spread (codes "- installed j") job tail ∙ ap (λ (m : Mark). front m ++ tail) (some_same (marks.Host kind.Installed job) marked is))
host_begins (event.TryActivate maker registration) marked tail is = (tail, spread (codes "- tryactivate r") registration tail ∙ ap (λ (m : Mark). front m ++ tail) (some_same (marks.Host kind.TryActivate registration) marked is))
host_begins (event.Activated maker worker) marked tail is = (tail, spread (codes "- activated w") worker tail ∙ ap (λ (m : Mark). front m ++ tail) (some_same (marks.Host kind.Activated worker) marked is))
host_begins (event.Added maker task lines) marked tail is = (tail, spread (codes "- added a") task tail ∙ ap (λ (m : Mark). front m ++ tail) (some_same (marks.Host kind.Added task) marked is))
host_begins _ marked tail is = cc

module _ (happened : Event) (marked : Mark) (tail : List ℕ) where
  begins_by : (w : Who) → mark_by w happened ≡ Some marked → (rest : List ℕ) × ((who_text w ++ (codes " " ++ event_text happened)) ++ 32 ∷ tail ≡ front marked ++ rest)
  begins_by who.Host is = host_begins happened marked tail is
  begins_by (who.Lane lane at) is =
      let rest = decimal at ++ 32 ∷ (event_text happened ++ 32 ∷ tail) in
      (rest, lane_spread lane at (event_text happened) tail ∙ ap (λ (m : Mark). front m ++ rest) (some_same (marks.Lane lane) marked is))
  begins_by (who.Handler worker p number) is =
      let rest = phase_word p ++ 46 ∷ (decimal number ++ 32 ∷ (event_text happened ++ 32 ∷ tail)) in
      (rest, handler_spread worker p number (event_text happened) tail ∙ ap (λ (m : Mark). front m ++ rest) (some_same (marks.Handler worker) marked is))

  -- the mark of an event begins with its front
  mark_begins : mark_of happened ≡ Some marked → (rest : List ℕ) × (mark happened ++ 32 ∷ tail ≡ front marked ++ rest)
  mark_begins is = begins_by (who_of happened) is

-- a text that begins with the line of an entry is read as the mark of that entry
reads_line : (text tail : List ℕ) (read : Option Mark) (entry : Entry) (marked : Mark) → IsRead text read → mark_of entry.event ≡ Some marked → number_in marked < 2 ^ 32
    → text ≡ line_of_entry entry ++ tail → read ≡ Some marked
reads_line text tail read entry marked is_read named small printed =
    let begun = mark_begins entry.event marked (45 ∷ 62 ∷ 32 ∷ (rest_of_line entry ++ tail)) named in
    is_read.marks marked begun.0 small (printed ∙ regroup (mark entry.event) (rest_of_line entry) tail ∙ begun.1)
  where
    regroup : (m r t : List ℕ) → (m ++ (codes " -> " ++ r)) ++ t ≡ m ++ 32 ∷ 45 ∷ 62 ∷ 32 ∷ (r ++ t)
    regroup m r t = simp append_assoc

-- ---- the first line of what is left

-- own: what is left begins with the line of an entry, which a mark names, and goes on behind it
record First (recording : Recording) (before : List Entry) (state : State) (text : List ℕ) (count : ℕ) (marked : Mark) : Type 0 where
  entry : Entry
  tail : List ℕ
  named : IsNamed recording before state marked entry
  printed : text ≡ line_of_entry entry ++ tail
  goes : Continues recording (before ++ entry ∷ []) (moved state entry) tail count

module _ (recording : Recording) (before : List Entry) (state : State) (text : List ℕ) (small : AreSmall recording state) where
  -- the mark of a step
  step_mark : (x : Entry) → IsStep before state x → IsFollowing recording before state x
      → (marked : Mark) × (mark_of x.event ≡ Some marked) × (named recording before state marked ≡ Some x.event) × (number_in marked < 2 ^ 32)
  step_mark x step follows =
      option_and_then_some (named recording before state) (mark_of x.event) x.event (is_named recording before state x step follows)
      (λ marked is name. (marked, is, name, is_small recording before state small x step follows marked is))

  first_of : (marked : Mark) (count : ℕ) (xs : List Entry) (ending : End) → IsRead text (Some marked) → EachFrom IsStep before state xs → EachFrom (IsFollowing recording) before state xs
      → text ≡ flat_map line_of_entry xs ++ end_line ending → IsAcceptedEnd recording (before ++ xs) (after_entries state xs) ending → length (before ++ xs) ≡ count
      → First recording before state text count marked
  first_of marked count [] ending read steps follows printed ended size = let none : Some marked ≡ None = read.ends ending printed in cc
  first_of marked count (x ∷ xs) ending read steps follows printed ended size =
      let tail = flat_map line_of_entry xs ++ end_line ending in
      let whole : text ≡ line_of_entry x ++ tail = printed ∙ append_assoc (line_of_entry x) (flat_map line_of_entry xs) (end_line ending) in
      let own = step_mark x steps.0 follows.0 in
      let same : marked ≡ own.0 = some_same marked own.0 (reads_line text tail (Some marked) x own.0 read own.1 own.3 whole) in
      let list : (before ++ x ∷ []) ++ xs ≡ before ++ x ∷ xs = append_assoc before (x ∷ []) xs in
      record {
        entry = x;
        tail = tail;
        named = record { named = ap (named recording before state) same ∙ own.2; step = steps.0; following = follows.0 };
        printed = whole;
        goes = record {
          entries = xs;
          ending = ending;
          steps = steps.1;
          follows = follows.1;
          printed = refl;
          ended = subst (λ (all : List Entry). IsAcceptedEnd recording all (after_entries (moved state x) xs) ending) (sym list) ended;
          size = ap length list ∙ size;
        };
      }

  first_line : (marked : Mark) (count : ℕ) → IsRead text (Some marked) → Continues recording before state text count → First recording before state text count marked
  first_line marked count read goes = first_of marked count goes.entries goes.ending read goes.steps goes.follows goes.printed goes.ended goes.size

  -- two entries that one mark names
  same_named : (marked : Mark) (x y : Entry) → IsNamed recording before state marked x → IsNamed recording before state marked y → IsSameEntry x y
  same_named marked x y one other = same_outcome before before state x y one.step other.step (some_same x.event y.event (sym one.named ∙ other.named))

  -- where nothing that its mark names may happen, a text doesn't go on
  pub barred : (marked : Mark) (count : ℕ) → IsRead text (Some marked) → IsBarred recording before state marked → Continues recording before state text count → ⊥
  barred marked count read none goes =
      let f = first_line marked count read goes in
      let stopped : step state f.entry.event ≡ None = none f.entry.event f.named.named in
      let steps = f.named.step.step.1 in cc

  -- where it doesn't begin with the line of the entry that its mark names, a text doesn't go on
  pub differs : (marked : Mark) (count : ℕ) (entry : Entry) → IsRead text (Some marked) → IsNamed recording before state marked entry
      → ((rest : List ℕ) → text ≡ line_of_entry entry ++ rest → ⊥) → Continues recording before state text count → ⊥
  differs marked count entry read named other goes =
      let f = first_line marked count read goes in
      other f.tail (f.printed ∙ ap (λ (line : List ℕ). line ++ f.tail) (same_line f.entry entry (same_named marked f.entry entry f.named named)))

  -- behind the line of the entry that its mark names a text goes on as it did before
  pub taken : (marked : Mark) (entry : Entry) (rest : List ℕ) → IsRead text (Some marked) → IsNamed recording before state marked entry → text ≡ line_of_entry entry ++ rest
      → SameLeft recording before state text (before ++ entry ∷ []) (moved state entry) rest
  taken marked entry rest read named is = λ count. (forth count, back count)
    where
      forth : (count : ℕ) → Continues recording before state text count → Continues recording (before ++ entry ∷ []) (moved state entry) rest count
      forth count goes =
          let f = first_line marked count read goes in
          let same = same_named marked f.entry entry f.named named in
          let line = same_line f.entry entry same in
          let tails : f.tail ≡ rest = append_cancel_left (line_of_entry entry) f.tail rest (ap (λ (l : List ℕ). l ++ f.tail) (sym line) ∙ sym f.printed ∙ is) in
          let states : moved state f.entry ≡ moved state entry = ap (state_after state) same.event in
          let makers : f.entry.who ≡ entry.who = f.named.step.maker ∙ ap who_of same.event ∙ sym named.step.maker in
          let sizes : length (before ++ f.entry ∷ []) ≡ length (before ++ entry ∷ []) = length-append before (f.entry ∷ []) ∙ sym (length-append before (entry ∷ [])) in
          goes_alike recording (before ++ f.entry ∷ []) (before ++ entry ∷ []) (moved state entry) rest count (made_further before before f.entry entry makers (λ lane. refl)) sizes
          (subst (λ (s : State). Continues recording (before ++ f.entry ∷ []) s rest count) states
          (subst (λ (t : List ℕ). Continues recording (before ++ f.entry ∷ []) (moved state f.entry) t count) tails f.goes))

      back : (count : ℕ) → Continues recording (before ++ entry ∷ []) (moved state entry) rest count → Continues recording before state text count
      back count goes =
          let list : (before ++ entry ∷ []) ++ goes.entries ≡ before ++ entry ∷ goes.entries = append_assoc before (entry ∷ []) goes.entries in
          record {
            entries = entry ∷ goes.entries;
            ending = goes.ending;
            steps = (named.step, goes.steps);
            follows = (named.following, goes.follows);
            printed =
                is ∙ ap (λ (t : List ℕ). line_of_entry entry ++ t) goes.printed
                ∙ sym (append_assoc (line_of_entry entry) (flat_map line_of_entry goes.entries) (end_line goes.ending));
            ended = subst (λ (all : List Entry). IsAcceptedEnd recording all (after_entries (moved state entry) goes.entries) goes.ending) list goes.ended;
            size = ap length (sym list) ∙ goes.size;
          }

-- ---- the last line

module _ (recording : Recording) (before : List Entry) (state : State) (text : List ℕ) (small : AreSmall recording state) (read : IsRead text None) where
  -- what has no mark is a last line
  is_last : (count : ℕ) (xs : List Entry) (ending : End) → EachFrom IsStep before state xs → EachFrom (IsFollowing recording) before state xs
      → text ≡ flat_map line_of_entry xs ++ end_line ending → IsAcceptedEnd recording (before ++ xs) (after_entries state xs) ending
      → IsAcceptedEnd recording before state ending × (text ≡ end_line ending)
  is_last count [] ending steps follows printed ended = (subst (λ (all : List Entry). IsAcceptedEnd recording all state ending) (append-nil before) ended, printed)
  is_last count (x ∷ xs) ending steps follows printed ended =
      let own = step_mark recording before state text small x steps.0 follows.0 in
      let whole = printed ∙ append_assoc (line_of_entry x) (flat_map line_of_entry xs) (end_line ending) in
      let none : None ≡ Some own.0 = reads_line text (flat_map line_of_entry xs ++ end_line ending) None x own.0 read own.1 own.3 whole in cc

  pub no_end : IsEnd recording before state None → (count : ℕ) → Continues recording before state text count → ⊥
  no_end none count goes =
      let last = is_last count goes.entries goes.ending goes.steps goes.follows goes.printed goes.ended in
      none goes.ending last.0

  pub other_end : (come : Ending) → IsEnd recording before state (Some come) → (text ≡ end_line (end_of come) → ⊥) → (count : ℕ) → Continues recording before state text count → ⊥
  other_end come is other count goes =
      let last = is_last count goes.entries goes.ending goes.steps goes.follows goes.printed goes.ended in
      other (last.1 ∙ ap end_line (is.1 goes.ending last.0))

pub this_end : (recording : Recording) (before : List Entry) (state : State) (text : List ℕ) (come : Ending) → IsEnd recording before state (Some come) → text ≡ end_line (end_of come)
    → Continues recording before state text (length before)
this_end recording before state text come is printed = record {
  entries = [];
  ending = end_of come;
  steps = tt;
  follows = tt;
  printed = printed;
  ended = subst (λ (all : List Entry). IsAcceptedEnd recording all state (end_of come)) (sym (append-nil before)) is.0;
  size = ap length (append-nil before);
}

-- ---- the first line

pub opening_of : (base : Kept) (entry : Entry) → Opens (restart base) entry → IsOpening base entry
opening_of base entry opens = record { event = opens.event; maker = opens.maker; answer = opens.answer; notices = opens.notices }

module _ (base : Kept) (recording : Recording) (text : List ℕ) (entry : Entry) (opens : Opens (restart base) entry) where
  told_by : (rest : List ℕ) → text ≡ line_of_entry entry ++ rest → (history : List Entry) → IsTold base recording text history
      → Continues recording (entry ∷ []) (restart base) rest (length history)
  told_by rest is [] told = absurd told.legal.opens
  told_by rest is (x ∷ xs) told =
      let own = opening_of base entry opens in
      let line = same_line x entry (same_opening base x entry told.legal.opens own) in
      let tail = flat_map line_of_entry xs ++ end_line told.ending in
      let whole : text ≡ line_of_entry x ++ tail = told.printed ∙ append_assoc (line_of_entry x) (flat_map line_of_entry xs) (end_line told.ending) in
      let tails : rest ≡ tail = append_cancel_left (line_of_entry entry) rest tail (sym is ∙ whole ∙ ap (λ (l : List ℕ). l ++ tail) line) in
      goes_alike recording (x ∷ []) (entry ∷ []) (restart base) rest (length (x ∷ xs)) (made_further [] [] x entry (told.legal.opens.maker ∙ sym own.maker) (λ lane. refl)) refl
      (record {
        entries = xs;
        ending = told.ending;
        steps = told.legal.steps;
        follows = told.follows;
        printed = tails;
        ended = told.ended;
        size = refl;
      })

  tells : (rest : List ℕ) (count : ℕ) → IsMade base → text ≡ line_of_entry entry ++ rest → Continues recording (entry ∷ []) (restart base) rest count
      → (history : List Entry) × IsTold base recording text history × (length history ≡ count)
  tells rest count made is goes = (
    entry ∷ goes.entries,
    record {
      legal = record { made = made; opens = opening_of base entry opens; steps = goes.steps };
      follows = goes.follows;
      ending = goes.ending;
      printed =
          is ∙ ap (λ (t : List ℕ). line_of_entry entry ++ t) goes.printed
          ∙ sym (append_assoc (line_of_entry entry) (flat_map line_of_entry goes.entries) (end_line goes.ending));
      ended = goes.ended;
    },
    goes.size,
  )

  -- what is decided behind the first line is said of the whole text
  pub opened : (rest : List ℕ) (said : Verdict) → IsMade base → text ≡ line_of_entry entry ++ rest → Decides recording (entry ∷ []) (restart base) rest said
      → Says base recording text said
  opened rest (verdict.Yes count) made is decides = tells rest count made is decides
  opened rest verdict.No made is decides = λ history told. decides (length history) (told_by rest is history told)

  -- a text that doesn't begin with the line of the restart has no history
  pub unopened : ((rest : List ℕ) → text ≡ line_of_entry entry ++ rest → ⊥) → Says base recording text verdict.No
  unopened other [] told = absurd told.legal.opens
  unopened other (x ∷ xs) told =
      let line = same_line x entry (same_opening base x entry told.legal.opens (opening_of base entry opens)) in
      let tail = flat_map line_of_entry xs ++ end_line told.ending in
      other tail (told.printed ∙ append_assoc (line_of_entry x) (flat_map line_of_entry xs) (end_line told.ending) ∙ ap (λ (l : List ℕ). l ++ tail) line)

-- ---- all lines

pub decides_back : (recording : Recording) (before past : List Entry) (state now : State) (text rest : List ℕ) → SameLeft recording before state text past now rest
    → (said : Verdict) → Decides recording past now rest said → Decides recording before state text said
decides_back recording before past state now text rest same (verdict.Yes count) decides = (same count).1 decides
decides_back recording before past state now text rest same verdict.No decides = λ count goes. decides count ((same count).0 goes)

pub further : (Stands Later : List Entry → State → Type 0) (recording : Recording) (before : List Entry) (state : State) (text rest next : List ℕ) (count : ℕ)
    → (reached : Reached Stands recording before state text rest count) → (entry : Entry) → Later (reached.past ++ entry ∷ []) (moved reached.now entry)
    → SameLeft recording reached.past reached.now rest (reached.past ++ entry ∷ []) (moved reached.now entry) next
    → Reached Later recording before state text next (count + 1)
further Stands Later recording before state text rest next count reached entry stands same = record {
  past = reached.past ++ entry ∷ [];
  now = moved reached.now entry;
  stands = stands;
  size = length-append reached.past (entry ∷ []) ∙ ap (λ (n : ℕ). n + 1) reached.size;
  same = λ n. ((λ goes. (same n).0 ((reached.same n).0 goes)), (λ goes. (reached.same n).1 ((same n).1 goes)));
}

-- the entry of a restart from a content
pub a_restart : (base : Kept) → (entry : Entry) × IsOpening base entry
a_restart base = (
  record { pass = 0; who = who.Host; event = event.Restarted who.Host; answer = restart_answer (restart base); notices = []; stamp = 0 },
  record { event = refl; maker = refl; answer = refl; notices = refl },
)

pub said : {E : Type 0} (P Q : Verdict → Type 0) (result : Result Verdict E) → ((v : Verdict) → P v → Q v) → IfOk result P → IfOk result Q
said P Q (Ok v) means holds = means v holds
said P Q (Err e) means holds = tt
