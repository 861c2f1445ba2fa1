-- The first job of a queue is done and leaves it: the flags of the jobs, the next of that queue among them.
use Rattle.std.proofs.Common.{◌≡◌, ◌∙◌, ◌≢◌, ℕ, ◌<◌, Bool, true, false, ◌&&◌, ◌==◌, List, map, length, drop, set, get_or, Option, Some, None, option_map, slice_get, refl, sym, ap, subst, arith, if◌then◌else◌}
use Rattle.std.specs.Prelude.{bytes_eq, is_none, IfSome}
use Rattle.std.specs.Cmp.Lexicographic.{bytes_decides}
use Rattle.std.specs.Option.{option_map_or}
use Rattle.std.proofs.lemmas.Bool.{and_parts}
use Rattle.std.proofs.lemmas.Bool.Decides.{nat_tests}
use Rattle.std.proofs.lemmas.List.{ext_get_or, get_or-map, get_or_default, get_or-set_other, get_or-set_same, length-map, length-set}
use Rattle.std.proofs.lemmas.Option.{slice_get-get_or}
use Rattle.sw_data.specs.declared.rows.JobPhase.TheVariants as job_phase
use Rattle.sw_data.specs.declared.rows.JobRow.{JobRow}
use Rattle.sw_rules.specs.Rows.{first_job, is_in_phase, is_waiting}
use Rattle.sw_list.proofs.Placing.{flags_set}
use Rattle.sw_queue.specs.Kept.{AreFrom, IsQueued, number}
use Rattle.sw_queue.specs.Lines.{Keyed, line_in}
use Rattle.sw_queue.specs.Ready.{AreMarked, Ready, is_head, led_by, may_start, beyond_waiting}
use Rattle.sw_queue.specs.Tables.{has_head, with_phase}
use Rattle.sw_queue.proofs.Keeping.{kept_finished}
use Rattle.sw_queue.proofs.Reading.{first_number}
use Rattle.sw_queue.proofs.Running.{first_is, first_there, number_at, passing_below, passing_row}
use Rattle.sw_queue.proofs.Marking.{is_at, marked_moved, starts_not}

-- ---- which jobs are ready then

module _ (rows : List JobRow) (lines after : Keyed) (ready : Ready) (place : ℕ) (gone new : JobRow) (marked : AreMarked rows lines ready) (are : AreFrom 0 rows)
    (below : place < length rows) (leads : slice_get (line_in lines gone.job.key gone.job.scope).numbers 0 ≡ Some place)
    (dropped : (key scope : List ℕ) → (line_in after key scope).numbers
    ≡ (if bytes_eq gone.job.key key && bytes_eq gone.job.scope scope then drop 1 (line_in lines key scope).numbers else (line_in lines key scope).numbers))
    (alone : is_none new.leader ≡ true) (done : new.phase ≡ job_phase.Done) where
  -- the first of the queue that it leaves
  abbrev next : Option ℕ
  next = slice_get (line_in after gone.job.key gone.job.scope).numbers 0

  -- a job that neither was nor is the first of that queue stands in its own as before
  other_head : (row : JobRow) → number row ≢ place → is_at (number row) next ≡ false → is_head after row.job ≡ is_head lines row.job
  other_head row not_gone not_next = by (bytes_eq gone.job.key row.job.key) (bytes_eq gone.job.scope row.job.scope) refl refl
    where
      stays : (bytes_eq gone.job.key row.job.key && bytes_eq gone.job.scope row.job.scope) ≡ false → is_head after row.job ≡ is_head lines row.job
      stays other =
          ap (λ (numbers : List ℕ). is_at (number row) (slice_get numbers 0))
          (dropped row.job.key row.job.scope
          ∙ ap (λ (here : Bool). if here then drop 1 (line_in lines row.job.key row.job.scope).numbers else (line_in lines row.job.key row.job.scope).numbers) other)

      was_not : is_at (number row) (Some place) ≡ false
      was_not = grind (arith, nat_tests, not_gone)

      by : (same_key same_scope : Bool) → bytes_eq gone.job.key row.job.key ≡ same_key → bytes_eq gone.job.scope row.job.scope ≡ same_scope
          → is_head after row.job ≡ is_head lines row.job
      by true true one two =
          let key = (bytes_decides gone.job.key row.job.key).0 one in
          let scope = (bytes_decides gone.job.scope row.job.scope).0 two in
          (λ i. is_at (number row) (slice_get (line_in after (sym key i) (sym scope i)).numbers 0))
          ∙ (not_next ∙ sym was_not ∙ ap (is_at (number row)) (sym leads)
          ∙ (λ i. is_at (number row) (slice_get (line_in lines (key i) (scope i)).numbers 0)))
      by true false one two = stays (λ i. one i && two i)
      by false same_scope one two = stays (λ i. one i && two i)

  abbrev after_rows : List JobRow
  after_rows = set rows place new

  past : is_waiting new.phase ≡ false
  past = ap is_waiting done

  -- the flags of the jobs that may start, place by place
  starting_by : (flags : List Bool) → length flags ≡ length rows
      → ((i : ℕ) → i < length rows → is_at i next ≡ true → get_or flags i false ≡ may_start after (get_or after_rows i new))
      → ((i : ℕ) → i < length rows → is_at i next ≡ false → get_or flags i false ≡ get_or (set ready.starting place false) i false)
      → map (may_start after) after_rows ≡ flags
  starting_by flags many here there =
      ext_get_or false (map (may_start after) after_rows) flags (length-map after_rows (may_start after) ∙ length-set rows place new ∙ sym many)
      (λ i inside.
      let within : i < length rows = omega (arith, inside, length-map after_rows (may_start after), length-set rows place new) in
      get_or-map (may_start after) after_rows i new false (omega (arith, within, length-set rows place new))
      ∙ by i within (is_at i next) refl)
    where
      flags_are : map (may_start lines) after_rows ≡ set ready.starting place false
      flags_are = flags_set (may_start lines) rows ready.starting place new false marked.starting (sym (starts_not lines new past))

      as_before : (i : ℕ) → i < length rows → is_at i next ≡ false → (b : Bool) → (i == place) ≡ b
          → may_start after (get_or after_rows i new) ≡ may_start lines (get_or after_rows i new)
      as_before i within not_next true same =
          let is : place ≡ i = grind (arith, nat_tests, same) in
          let own = subst (λ n. get_or after_rows n new ≡ new) is (get_or-set_same rows place new new below) in
          ap (may_start after) own ∙ (starts_not after new past ∙ sym (starts_not lines new past)) ∙ sym (ap (may_start lines) own)
      as_before i within not_next false other =
          let is_not : i ≢ place = grind (arith, nat_tests, other) in
          let own = get_or-set_other rows place i new new is_not in
          let numbered : number (get_or rows i new) ≡ i = number_at rows are 0 rows are i new within ∙ omega arith in
          let kept_head = other_head (get_or rows i new) (subst (λ n. n ≢ place) (sym numbered) is_not) (subst (λ n. is_at n next ≡ false) (sym numbered) not_next) in
          ap (may_start after) own ∙ (λ j. is_in_phase is_waiting (get_or rows i new) && kept_head j) ∙ sym (ap (may_start lines) own)

      by : (i : ℕ) → i < length rows → (b : Bool) → is_at i next ≡ b → may_start after (get_or after_rows i new) ≡ get_or flags i false
      by i within true is = sym (here i within is)
      by i within false is =
          as_before i within is (i == place) refl
          ∙ sym (get_or-map (may_start lines) after_rows i new false (omega (arith, within, length-set rows place new)))
          ∙ ap (λ (fs : List Bool). get_or fs i false) flags_are
          ∙ sym (there i within is)

  marked_by : (flags : List Bool) → map (may_start after) after_rows ≡ flags → AreMarked after_rows after (record (beyond_waiting place new.phase ready) { starting = flags })
  marked_by flags is =
      let rest = marked_moved rows lines ready place new marked alone past in
      record { starting = is; fetching = rest.fetching; evaluating = rest.evaluating; installing = rest.installing }

  many : length (set ready.starting place false) ≡ length rows
  many = length-set ready.starting place false ∙ (sym (ap length marked.starting) ∙ length-map rows (may_start lines))

  -- the queue is empty
  marked_last : next ≡ None → AreMarked after_rows after (beyond_waiting place new.phase ready)
  marked_last none =
      marked_by (set ready.starting place false)
      (starting_by (set ready.starting place false) many
      (λ i within is. let never : is_at i None ≡ true = sym (ap (is_at i) none) ∙ is in absurd cc)
      (λ i within is. refl))

  -- another job is its first
  marked_next : (n : ℕ) (d : JobRow) (starts : Bool) → next ≡ Some n → n < length rows → starts ≡ may_start after (get_or after_rows n d)
      → AreMarked after_rows after (record (beyond_waiting place new.phase ready) { starting = set (set ready.starting place false) n starts })
  marked_next n d starts some within is =
      marked_by (set (set ready.starting place false) n starts)
      (starting_by (set (set ready.starting place false) n starts) (length-set (set ready.starting place false) n starts ∙ many) here there)
    where
      here : (i : ℕ) → i < length rows → is_at i next ≡ true
          → get_or (set (set ready.starting place false) n starts) i false ≡ may_start after (get_or after_rows i new)
      here i inside first =
          let same : n ≡ i = (let it : (n == i) ≡ true = sym (ap (is_at i) some) ∙ first in grind (arith, nat_tests, it)) in
          subst (λ k. get_or (set (set ready.starting place false) n starts) k false ≡ may_start after (get_or after_rows k new)) same
          (get_or-set_same (set ready.starting place false) n starts false (omega (arith, within, many))
          ∙ (is ∙ ap (may_start after) (get_or_default after_rows n d new (omega (arith, within, length-set rows place new)))))

      there : (i : ℕ) → i < length rows → is_at i next ≡ false
          → get_or (set (set ready.starting place false) n starts) i false ≡ get_or (set ready.starting place false) i false
      there i inside other =
          let is_not : i ≢ n = (let it : (n == i) ≡ false = sym (ap (is_at i) some) ∙ other in grind (arith, nat_tests, it)) in
          get_or-set_other (set ready.starting place false) n i starts false is_not

  -- what is the first of the queue now may start, where it waits
  pub marked_done : (head : Option ℕ) → head ≡ next → IfSome head (λ n. n < length after_rows)
      → AreMarked after_rows after (led_by head after after_rows (beyond_waiting place new.phase ready))
  marked_done None is within = marked_last (sym is)
  marked_done (Some n) is within =
      marked_next n new (option_map_or (may_start after) (slice_get after_rows n) false) (sym is) (omega (arith, within, length-set rows place new))
      (ap (λ (row : Option JobRow). option_map_or (may_start after) row false) (slice_get-get_or after_rows n new within))

-- the first of a queue is there
pub head_there : (rows : List JobRow) (lists : List (List ℕ)) (lines : Keyed) (key scope : List ℕ) (head : Option ℕ) → IsQueued rows lists lines
    → head ≡ slice_get (line_in lines key scope).numbers 0 → IfSome head (λ n. n < length rows)
head_there rows lists lines key scope None kept is = tt
head_there rows lists lines key scope (Some n) kept is =
    (first_there rows kept.numbers key scope n (sym (first_number rows lists lines kept key scope) ∙ sym is)).0

-- and so is its flag
pub flag_there : (rows : List JobRow) (lines : Keyed) (ready : Ready) (place : ℕ) (new : JobRow) (head : Option ℕ) → AreMarked rows lines ready
    → IfSome head (λ n. n < length (set rows place new))
    → IfSome head (λ n. (n < length (set rows place new)) × (n < length (set ready.starting place false)))
flag_there rows lines ready place new None marked within = tt
flag_there rows lines ready place new (Some n) marked within = (
  within,
  omega (arith, within, length-set rows place new, length-set ready.starting place false, length-map rows (may_start lines), ap length marked.starting),
)

-- ---- what a job that is done leaves

-- the first of a queue is done, and its line is without it
pub record HasLeft (rows : List JobRow) (lists : List (List ℕ)) (lines after : Keyed) (place : ℕ) (old read : JobRow) : Type 0 where
  pub below : place < length rows
  pub same : read ≡ old
  pub first : first_job old.job.key old.job.scope rows ≡ Some old
  pub leads : slice_get (line_in lines old.job.key old.job.scope).numbers 0 ≡ Some place
  pub dropped : (key scope : List ℕ) → (line_in after key scope).numbers
      ≡ (if bytes_eq old.job.key key && bytes_eq old.job.scope scope then drop 1 (line_in lines key scope).numbers else (line_in lines key scope).numbers)
  pub kept : IsQueued (set rows place (with_phase job_phase.Done old)) lists after

pub has_left : (test : JobRow → Bool) (rows : List JobRow) (lists : List (List ℕ)) (lines after : Keyed) (place : ℕ) (old read : JobRow) (its_key its_scope : List ℕ)
    → IsQueued rows lists lines → has_head test place rows ≡ true → old ≡ get_or rows place old → read ≡ get_or rows place read
    → its_key ≡ read.job.key → its_scope ≡ read.job.scope
    → ((key scope : List ℕ) → (line_in after key scope).numbers
    ≡ (if bytes_eq its_key key && bytes_eq its_scope scope then drop 1 (line_in lines key scope).numbers else (line_in lines key scope).numbers))
    → HasLeft rows lists lines after place old read
has_left test rows lists lines after place old read its_key its_scope kept passes here there key_is scope_is without =
    let below = passing_below rows kept.numbers _ place passes in
    let it = passing_row rows kept.numbers _ place passes old here in
    let first = first_is rows kept.numbers old place here below (and_parts _ _ it).0 in
    let own = ap number here ∙ (number_at rows kept.numbers 0 rows kept.numbers place old below ∙ omega arith) in
    let same = there ∙ (get_or_default rows place read old below ∙ sym here) in
    let dropped : (key scope : List ℕ) → (line_in after key scope).numbers
    ≡ (if bytes_eq old.job.key key && bytes_eq old.job.scope scope then drop 1 (line_in lines key scope).numbers else (line_in lines key scope).numbers) =
    λ key scope.
    without key scope
    ∙ (λ i. if bytes_eq ((key_is ∙ ap (λ (row : JobRow). row.job.key) same) i) key && bytes_eq ((scope_is ∙ ap (λ (row : JobRow). row.job.scope) same) i) scope
    then drop 1 (line_in lines key scope).numbers else (line_in lines key scope).numbers) in
    record {
      below = below;
      same = same;
      first = first;
      leads = first_number rows lists lines kept old.job.key old.job.scope ∙ (ap (option_map number) first ∙ ap Some own);
      dropped = dropped;
      kept = kept_finished rows lists lines after place old (with_phase job_phase.Done old) kept own below here first refl refl refl dropped;
    }
