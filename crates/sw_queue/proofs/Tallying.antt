-- The tally of the keys of the unfinished jobs: what each call does to it.
use Rattle.std.proofs.Common.{◌≡◌, ◌∙◌, ◌+◌, ◌-◌, ◌<◌, ℕ, Bool, true, false, List, [], ◌∷◌, ◌++◌, filter, length, set, get_or, refl, sym, ap, subst, arith, if◌then◌else◌}
use Rattle.std.specs.Prelude.{◌&&◌, bytes_eq, is_none, nat_lt, not}
use Rattle.std.specs.List.{list_any}
use Rattle.sw_data.specs.declared.rows.JobPhase.TheVariants as job_phase
use Rattle.sw_data.specs.declared.rows.JobRow.{JobRow}
use Rattle.sw_list.proofs.Tallies.{any_passes, passing_more, passing_set}
use Rattle.sw_list.specs.Tally.{Tally, Tallies, count_of}
use Rattle.sw_rules.specs.Rows.{changed, is_done, is_unfinished}
use Rattle.sw_queue.specs.Kept.{IsQueued}
use Rattle.sw_queue.specs.Lines.{Keyed}
use Rattle.sw_queue.specs.Ready.{IsIndexed, Ready, is_unfinished_of}
use Rattle.sw_queue.specs.Tables.{with_phase}

-- no jobs
pub none_indexed : (rows : List JobRow) (lists : List (List ℕ)) (lines : Keyed) (ready : Ready) (keys : Tally) → rows ≡ [] → lists ≡ [] → lines ≡ []
    → ready.starting ≡ [] → ready.fetching ≡ [] → ready.evaluating ≡ [] → ready.installing ≡ [] → ((key : List ℕ) → count_of keys key ≡ 0)
    → IsIndexed rows lists lines ready keys
none_indexed rows lists lines ready keys no_rows no_lists no_lines starting fetching evaluating installing none =
    subst (λ (rs : List JobRow). IsIndexed rs lists lines ready keys) (sym no_rows)
    (record {
      kept =
          subst (λ (ls : List (List ℕ)). IsQueued [] ls lines) (sym no_lists)
          (subst (λ (ks : Keyed). IsQueued [] [] ks) (sym no_lines)
          (record { numbers = tt; count = refl; queues = λ key scope. refl; followers = λ job. refl; leaders = refl }));
      marked = record { starting = sym starting; fetching = sym fetching; evaluating = sym evaluating; installing = sym installing };
      tallied = none;
    })

-- a job of a key is unfinished where the tally has the key
pub any_of : (key : List ℕ) (rows : List JobRow) (keys : Tally) → Tallies is_unfinished_of rows keys
    → nat_lt 0 (count_of keys key) ≡ list_any (λ row. is_unfinished row && bytes_eq row.job.key key) rows
any_of key rows keys tallied = ap (nat_lt 0) (tallied key) ∙ any_passes (is_unfinished_of key) rows

-- a job is unfinished as it was
pub tallied_set : (rows : List JobRow) (keys : Tally) (place : ℕ) (old new : JobRow) → Tallies is_unfinished_of rows keys → old ≡ get_or rows place old → place < length rows
    → new.job ≡ old.job → new.leader ≡ old.leader → is_done new.phase ≡ is_done old.phase → Tallies is_unfinished_of (set rows place new) keys
tallied_set rows keys place old new tallied here below job leader done key =
    let was = ap {B = ℕ} (λ (row : JobRow). if is_unfinished_of key row then 1 else 0) here in
    let same : ◌≡◌ {A = ℕ} (if is_unfinished_of key new then 1 else 0) (if is_unfinished_of key old then 1 else 0) =
    λ i. if (is_none (leader i) && not (done i)) && bytes_eq (job i).key key then 1 else 0 in
    omega (arith, tallied key, passing_set (is_unfinished_of key) rows place old new below, was, same)

-- jobs are unfinished as they were
pub tallied_changed : (rows : List JobRow) (keys : Tally) (passes : JobRow → Bool) (f : JobRow → JobRow) → Tallies is_unfinished_of rows keys
    → ((row : JobRow) → (f row).job ≡ row.job) → ((row : JobRow) → (f row).leader ≡ row.leader) → ((row : JobRow) → (f row).phase ≡ row.phase)
    → Tallies is_unfinished_of (changed passes f rows) keys
tallied_changed rows keys passes f tallied job leader phase key = tallied key ∙ sym (same rows)
  where
    one : (row : JobRow) (b : Bool) → is_unfinished_of key (if b then f row else row) ≡ is_unfinished_of key row
    one row true = λ i. (is_none (leader row i) && not (is_done (phase row i))) && bytes_eq (job row i).key key
    one row false = refl

    same : (rest : List JobRow) → length (filter (is_unfinished_of key) (changed passes f rest)) ≡ length (filter (is_unfinished_of key) rest)
    same [] = refl
    same (row ∷ rest) = let here = one row (passes row) in grind (arith, here, same rest)

-- one job is done
pub tallied_done : (rows : List JobRow) (keys now : Tally) (place : ℕ) (old : JobRow) (its_key : List ℕ) → Tallies is_unfinished_of rows keys → old ≡ get_or rows place old → place < length rows
    → is_none old.leader ≡ true → is_done old.phase ≡ false → its_key ≡ old.job.key
    → ((key : List ℕ) → count_of now key ≡ count_of keys key - (if bytes_eq its_key key then 1 else 0))
    → Tallies is_unfinished_of (set rows place (with_phase job_phase.Done old)) now
tallied_done rows keys now place old its_key tallied here below alone runs key_is less key =
    let was = ap {B = ℕ} (λ (row : JobRow). if is_unfinished_of key row then 1 else 0) here in
    let own : ◌≡◌ {A = ℕ} (if is_unfinished_of key old then 1 else 0) (if bytes_eq old.job.key key then 1 else 0) =
    λ i. if (alone i && not (runs i)) && bytes_eq old.job.key key then 1 else 0 in
    let none : ◌≡◌ {A = ℕ} (if is_unfinished_of key (with_phase job_phase.Done old) then 1 else 0) 0 = λ i. if (alone i && false) && bytes_eq old.job.key key then 1 else 0 in
    let taken : ◌≡◌ {A = ℕ} (if bytes_eq its_key key then 1 else 0) (if bytes_eq old.job.key key then 1 else 0) = λ i. if bytes_eq (key_is i) key then 1 else 0 in
    omega (arith, less key, tallied key, passing_set (is_unfinished_of key) rows place old (with_phase job_phase.Done old) below, was, own, none, taken)

-- one more job, which waits
pub tallied_more : (rows others : List JobRow) (keys was now : Tally) (new : JobRow) (its_key : List ℕ) → Tallies is_unfinished_of rows keys → is_done new.phase ≡ false → its_key ≡ new.job.key
    → was ≡ keys → ((key : List ℕ) → count_of now key ≡ count_of was key + (if is_none new.leader && bytes_eq its_key key then 1 else 0))
    → others ≡ rows ++ new ∷ [] → Tallies is_unfinished_of others now
tallied_more rows others keys was now new its_key tallied waits key_is was_is more is key =
    let counted = by (is_none new.leader) in
    let before = ap (λ (tally : Tally). count_of tally key) was_is in
    let all = ap (λ (rs : List JobRow). length (filter (is_unfinished_of key) rs)) is in
    omega (arith, more key, before, tallied key, all, passing_more (is_unfinished_of key) rows new, counted)
  where
    by : (alone : Bool) → ◌≡◌ {A = ℕ} (if (alone && not (is_done new.phase)) && bytes_eq new.job.key key then 1 else 0) (if alone && bytes_eq its_key key then 1 else 0)
    by true = λ i. if not (waits i) && bytes_eq (sym key_is i) key then 1 else 0
    by false = refl
