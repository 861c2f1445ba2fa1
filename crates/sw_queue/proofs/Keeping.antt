-- What is kept of the rows, after a job comes and after one is done.
use Rattle.std.proofs.Common.{◌≡◌, ◌∙◌, ℕ, zero, suc, ◌+◌, ◌<◌, ◌≤◌, Bool, true, false, List, [], ◌∷◌, ◌++◌, map, filter, length, drop, set, get_or, Option, Some, None, refl, sym, ap, subst, arith, length-append, if◌then◌else◌}
use Rattle.std.specs.Prelude.{◌&&◌, ◌==◌, bytes_eq, is_none, not, nat_lt}
use Rattle.std.specs.List.{find, list_all}
use Rattle.std.specs.Cmp.Lexicographic.{bytes_decides}
use Rattle.std.specs.Option.{option_map_or}
use Rattle.std.proofs.lemmas.Bool.Decides.{nat_tests}
use Rattle.std.proofs.lemmas.List.{append-nil, map-append, length-set, get_or-set_same, get_or-set_other, get_or_default}
use Rattle.std.proofs.lemmas.List.Elements.{filter-append}
use Rattle.sw_data.specs.declared.rows.JobRow.{JobRow}
use Rattle.sw_rules.specs.Rows.{first_job, is_done, is_number, is_unfinished, queue}
use Rattle.sw_queue.specs.Kept.{AreFrom, IsQueued, followers_of, is_led_before, number}
use Rattle.sw_queue.specs.Lines.{Keyed, line_in}
use Rattle.sw_queue.proofs.Alike.{IsSame, kept_but_queues, set_alike}

-- ---- one more row

from_more : (first : ℕ) (rows : List JobRow) (new : JobRow) → AreFrom first rows → number new ≡ first + length rows → AreFrom first (rows ++ new ∷ [])
from_more first [] new are is = (omega (arith, is), tt)
from_more first (row ∷ rows) new are is = (are.0, from_more (suc first) rows new are.1 (omega (arith, is)))

-- the numbers that pass, with one more row
filter_more : (test : JobRow → Bool) (rows : List JobRow) (new : JobRow)
    → map number (filter test (rows ++ new ∷ [])) ≡ (if test new then map number (filter test rows) ++ number new ∷ [] else map number (filter test rows))
filter_more test rows new = ap (map number) (filter-append test rows (new ∷ [])) ∙ by (test new)
  where
    by : (passes : Bool) → map number (filter test rows ++ (if passes then new ∷ [] else []))
        ≡ (if passes then map number (filter test rows) ++ number new ∷ [] else map number (filter test rows))
    by true = map-append number (filter test rows) (new ∷ [])
    by false = ap (map number) (append-nil (filter test rows))

all_more : (test : JobRow → Bool) (rows : List JobRow) (new : JobRow) → list_all test rows ≡ true → test new ≡ true → list_all test (rows ++ new ∷ []) ≡ true
all_more test [] new all one = grind arith
all_more test (row ∷ rows) new all one = grind (arith, all_more test rows new)

-- an empty list behind the others is what is past them
padded : (lists : List (List ℕ)) (place : ℕ) → get_or (lists ++ [] ∷ []) place [] ≡ get_or lists place []
padded [] zero = refl
padded [] (suc place) = refl
padded (list ∷ lists) zero = refl
padded (list ∷ lists) (suc place) = padded lists place

longer : {X : Type 0} (xs : List X) (x : X) (n : ℕ) → length xs ≡ n → length (xs ++ x ∷ []) ≡ suc n
longer xs x n is = let sum = length-append xs (x ∷ []) in omega (arith, sum, is)

module _ (rows : List JobRow) (lists : List (List ℕ)) (lines after : Keyed) (new : JobRow) where
  -- a job that joined none stands in its queue
  pub kept_queued : IsQueued rows lists lines → number new ≡ length rows → new.leader ≡ None → is_done new.phase ≡ false
      → ((key scope : List ℕ) → (line_in after key scope).numbers
      ≡ (if bytes_eq new.job.key key && bytes_eq new.job.scope scope then (line_in lines key scope).numbers ++ number new ∷ []
      else (line_in lines key scope).numbers))
      → IsQueued (rows ++ new ∷ []) (lists ++ [] ∷ []) after
  kept_queued kept is joined done added = record {
    numbers = from_more 0 rows new kept.numbers (omega (arith, is));
    count = longer lists [] (length rows) kept.count ∙ sym (longer rows new (length rows) refl);
    queues = λ key scope.
        added key scope
        ∙ (λ i. if bytes_eq new.job.key key && bytes_eq new.job.scope scope then kept.queues key scope i ++ number new ∷ [] else kept.queues key scope i)
        ∙ (λ i. if is_none (sym joined i) && not (sym done i) && bytes_eq new.job.key key && bytes_eq new.job.scope scope
        then map number (queue key scope rows) ++ number new ∷ [] else map number (queue key scope rows))
        ∙ sym (filter_more (λ row. is_unfinished row && bytes_eq row.job.key key && bytes_eq row.job.scope scope) rows new);
    followers = λ job.
        padded lists job ∙ kept.followers job
        ∙ (λ i. if is_number (sym joined i) job then followers_of job rows ++ number new ∷ [] else followers_of job rows)
        ∙ sym (filter_more (λ row. is_number row.leader job) rows new);
    leaders = all_more is_led_before rows new kept.leaders (ap (λ (l : Option ℕ). option_map_or (λ leader. nat_lt leader new.job.number) l true) joined);
  }

  followed_by : (leader job : ℕ) → leader < length lists → get_or (set lists leader (get_or lists leader [] ++ number new ∷ [])) job []
      ≡ (if leader == job then get_or lists job [] ++ number new ∷ [] else get_or lists job [])
  followed_by leader job below = by (leader == job) refl
    where
      by : (same : Bool) → (leader == job) ≡ same → get_or (set lists leader (get_or lists leader [] ++ number new ∷ [])) job []
          ≡ (if same then get_or lists job [] ++ number new ∷ [] else get_or lists job [])
      by true same =
          let is : job ≡ leader = grind (arith, nat_tests, same) in
          subst (λ n. get_or (set lists leader (get_or lists leader [] ++ number new ∷ [])) n [] ≡ get_or lists n [] ++ number new ∷ []) (sym is)
          (get_or-set_same lists leader (get_or lists leader [] ++ number new ∷ []) [] below)
      by false same =
          get_or-set_other lists leader job (get_or lists leader [] ++ number new ∷ []) []
          (λ (is : job ≡ leader). let no_same : (leader == job) ≡ true = grind (arith, nat_tests, is) in absurd cc)

  -- a job that joined another stands among the followers of that one
  pub kept_joined : IsQueued rows lists lines → number new ≡ length rows → (leader : ℕ) → new.leader ≡ Some leader → leader < length rows
      → IsQueued (rows ++ new ∷ []) (set lists leader (get_or lists leader [] ++ number new ∷ []) ++ [] ∷ []) lines
  kept_joined kept is leader joined below = record {
    numbers = from_more 0 rows new kept.numbers (omega (arith, is));
    count =
        longer (set lists leader (get_or lists leader [] ++ number new ∷ [])) [] (length rows)
        (length-set lists leader (get_or lists leader [] ++ number new ∷ []) ∙ kept.count)
        ∙ sym (longer rows new (length rows) refl);
    queues = λ key scope.
        kept.queues key scope
        ∙ (λ i. if is_none (sym joined i) && not (is_done new.phase) && bytes_eq new.job.key key && bytes_eq new.job.scope scope
        then map number (queue key scope rows) ++ number new ∷ [] else map number (queue key scope rows))
        ∙ sym (filter_more (λ row. is_unfinished row && bytes_eq row.job.key key && bytes_eq row.job.scope scope) rows new);
    followers = λ job.
        padded (set lists leader (get_or lists leader [] ++ number new ∷ [])) job
        ∙ followed_by leader job (subst (λ n. leader < n) (sym kept.count) below)
        ∙ (λ i. if is_number (sym joined i) job then kept.followers job i ++ number new ∷ [] else kept.followers job i)
        ∙ sym (filter_more (λ row. is_number row.leader job) rows new);
    leaders =
        all_more is_led_before rows new kept.leaders
        (ap (λ (l : Option ℕ). option_map_or (λ n. nat_lt n new.job.number) l true) joined
        ∙ (let earlier : leader < number new = omega (arith, below, is) in grind (arith, nat_tests, earlier)));
  }

-- ---- a job that is done

found_from : (test : JobRow → Bool) (first : ℕ) (rows : List JobRow) → AreFrom first rows → (row : JobRow) → find test rows ≡ Some row → first ≤ number row
found_from test first [] are row found = absurd cc
found_from test first (other ∷ rows) are row found = by (test other) (λ is. found_from test (suc first) rows are.1 row is) found
  where
    some_same : (one two : JobRow) → Some one ≡ Some two → one ≡ two
    some_same one two same = cc

    by : (passes : Bool) → (find test rows ≡ Some row → suc first ≤ number row) → (if passes then Some other else find test rows) ≡ Some row → first ≤ number row
    by true rest is = let same = ap number (some_same other row is) in let here = are.0 in omega (arith, same, here)
    by false rest is = let later = rest is in omega (arith, later)

-- the first that passes no longer does
first_gone : (test : JobRow → Bool) (first : ℕ) (rows : List JobRow) → AreFrom first rows → (row new : JobRow) → find test rows ≡ Some row → test new ≡ false
    → (place : ℕ) → number row ≡ first + place → filter test (set rows place new) ≡ drop 1 (filter test rows)
first_gone test first [] are row new found gone place is = absurd cc
first_gone test first (other ∷ rows) are row new found gone zero is = by (test other) found
  where
    by : (passes : Bool) → (if passes then Some other else find test rows) ≡ Some row
        → (if test new then new ∷ filter test rows else filter test rows) ≡ drop 1 (if passes then other ∷ filter test rows else filter test rows)
    by true found_here = ap (λ (t : Bool). if t then new ∷ filter test rows else filter test rows) gone
    by false found_later = absurd (let later = found_from test (suc first) rows are.1 row found_later in omega (arith, later, is))
first_gone test first (other ∷ rows) are row new found gone (suc place) is =
    by (test other) (λ later. first_gone test (suc first) rows are.1 row new later gone place (omega (arith, is))) found
  where
    some_same : (one two : JobRow) → Some one ≡ Some two → one ≡ two
    some_same one two same = cc

    by : (passes : Bool) → (find test rows ≡ Some row → filter test (set rows place new) ≡ drop 1 (filter test rows))
        → (if passes then Some other else find test rows) ≡ Some row
        → (if passes then other ∷ filter test (set rows place new) else filter test (set rows place new))
        ≡ drop 1 (if passes then other ∷ filter test rows else filter test rows)
    by true rest found_here = absurd (let same = ap number (some_same other row found_here) in let here = are.0 in omega (arith, same, here, is))
    by false rest found_later = rest found_later

-- what didn't pass still doesn't
other_gone : (test : JobRow → Bool) (rows : List JobRow) (place : ℕ) (new : JobRow) → test (get_or rows place new) ≡ false → test new ≡ false
    → filter test (set rows place new) ≡ filter test rows
other_gone test [] place new was gone = refl
other_gone test (row ∷ rows) zero new was gone = grind (arith, was, gone)
other_gone test (row ∷ rows) (suc place) new was gone =
    ap (λ (rest : List JobRow). if test row then row ∷ rest else rest) (other_gone test rows place new was gone)

drop-map : {X Y : Type 0} (f : X → Y) (xs : List X) → map f (drop 1 xs) ≡ drop 1 (map f xs)
drop-map f [] = refl
drop-map f (x ∷ xs) = refl

-- a job that is done stands in no queue
in_none : (new : JobRow) (key scope : List ℕ) → is_done new.phase ≡ true
    → (is_unfinished new && bytes_eq new.job.key key && bytes_eq new.job.scope scope) ≡ false
in_none new key scope done = (λ i. is_none new.leader && not (done i) && bytes_eq new.job.key key && bytes_eq new.job.scope scope) ∙ by (is_none new.leader)
  where
    by : (joined_none : Bool) → (joined_none && false && bytes_eq new.job.key key && bytes_eq new.job.scope scope) ≡ false
    by true = refl
    by false = refl

in_other : (row : JobRow) (key scope : List ℕ) → (bytes_eq row.job.key key && bytes_eq row.job.scope scope) ≡ false
    → (is_unfinished row && bytes_eq row.job.key key && bytes_eq row.job.scope scope) ≡ false
in_other row key scope other = grind (arith, other)

-- the first of a queue leaves it
left_queue : (rows : List JobRow) (place : ℕ) (row new : JobRow) → AreFrom 0 rows → number row ≡ place → row ≡ get_or rows place new
    → first_job row.job.key row.job.scope rows ≡ Some row → is_done new.phase ≡ true → (key scope : List ℕ)
    → map number (queue key scope (set rows place new))
    ≡ (if bytes_eq row.job.key key && bytes_eq row.job.scope scope then drop 1 (map number (queue key scope rows)) else map number (queue key scope rows))
left_queue rows place row new are is here found done key scope = by (bytes_eq row.job.key key) (bytes_eq row.job.scope scope) refl refl
  where
    test : List ℕ → List ℕ → JobRow → Bool
    test key scope row = is_unfinished row && bytes_eq row.job.key key && bytes_eq row.job.scope scope

    left : first_job key scope rows ≡ Some row → map number (queue key scope (set rows place new)) ≡ drop 1 (map number (queue key scope rows))
    left found_here =
        ap (map number) (first_gone (test key scope) 0 rows are row new found_here (in_none new key scope done) place (omega (arith, is)))
        ∙ drop-map number (queue key scope rows)

    stays : (bytes_eq row.job.key key && bytes_eq row.job.scope scope) ≡ false → map number (queue key scope (set rows place new)) ≡ map number (queue key scope rows)
    stays other =
        ap (map number) (other_gone (test key scope) rows place new
        (ap (test key scope) (sym here) ∙ in_other row key scope other) (in_none new key scope done))

    by : (same_key same_scope : Bool) → bytes_eq row.job.key key ≡ same_key → bytes_eq row.job.scope scope ≡ same_scope
        → map number (queue key scope (set rows place new))
        ≡ (if same_key && same_scope then drop 1 (map number (queue key scope rows)) else map number (queue key scope rows))
    by true true one two =
        left (subst (λ k. first_job k scope rows ≡ Some row) ((bytes_decides row.job.key key).0 one)
        (subst (λ s. first_job row.job.key s rows ≡ Some row) ((bytes_decides row.job.scope scope).0 two) found))
    by true false one two = stays (λ i. one i && two i)
    by false same_scope one two = stays (λ i. one i && two i)

pub kept_finished : (rows : List JobRow) (lists : List (List ℕ)) (lines after : Keyed) (place : ℕ) (row new : JobRow) → IsQueued rows lists lines
    → number row ≡ place → place < length rows → row ≡ get_or rows place row → first_job row.job.key row.job.scope rows ≡ Some row
    → new.job ≡ row.job → new.leader ≡ row.leader → is_done new.phase ≡ true
    → ((key scope : List ℕ) → (line_in after key scope).numbers
    ≡ (if bytes_eq row.job.key key && bytes_eq row.job.scope scope then drop 1 (line_in lines key scope).numbers else (line_in lines key scope).numbers))
    → IsQueued (set rows place new) lists after
kept_finished rows lists lines after place row new kept is below read found one_job one_leader done dropped =
    let here = read ∙ get_or_default rows place row new below in
    kept_but_queues rows (set rows place new) lists lines after
    (set_alike IsSame (λ r. record { job = refl; leader = refl }) rows place new new
    (subst (λ r. IsSame r new) here (record { job = one_job; leader = one_leader })))
    kept
    (λ key scope.
    dropped key scope
    ∙ (λ i. if bytes_eq row.job.key key && bytes_eq row.job.scope scope then drop 1 (kept.queues key scope i) else kept.queues key scope i)
    ∙ sym (left_queue rows place row new kept.numbers is here found done key scope))

-- what is kept of these is kept of those, which are the same
pub kept_is : (rows those_rows : List JobRow) (lists those_lists : List (List ℕ)) (lines those : Keyed) → rows ≡ those_rows → lists ≡ those_lists → lines ≡ those
    → IsQueued those_rows those_lists those → IsQueued rows lists lines
kept_is rows those_rows lists those_lists lines those one two three kept =
    subst (λ (r : List JobRow). IsQueued r lists lines) (sym one)
    (subst (λ (l : List (List ℕ)). IsQueued those_rows l lines) (sym two)
    (subst (λ (k : Keyed). IsQueued those_rows those_lists k) (sym three) kept))
