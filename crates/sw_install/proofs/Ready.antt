-- A job that may run, and starts.
use Rattle.std.proofs.Common.{◌≡◌, ◌∙◌, ℕ, Bool, true, false, ◌&&◌, List, [], ◌∷◌, map, Option, Some, None, find, bytes_eq, refl, sym, ap, subst, arith, if◌then◌else◌}
use Rattle.std.specs.Cmp.Lexicographic.{bytes_decides}
use Rattle.std.specs.List.{range_with_len}
use Rattle.std.specs.Prelude.{Result, Ok, Err, IfOk}
use Rattle.std.specs.Result.{result_ok}
use Rattle.std.specs.Option.{option_map_or}
use Rattle.std.proofs.lemmas.Bool.{and_parts}
use Rattle.std.proofs.lemmas.Bool.Decides.{nat_tests}
use Rattle.std.proofs.lemmas.List.{length-map}
use Rattle.sw_data.specs.declared.rows.JobPhase.TheVariants as job_phase
use Rattle.sw_data.specs.declared.rows.JobRow.{JobRow}
use Rattle.sw_data.specs.declared.rows.RegistrationRow.{RegistrationRow}
use Rattle.sw_install.specs.Runs.{fetches, is_of_job, is_ready}
use Rattle.sw_queue.specs.Tables.{ready_job, with_phase}
use Rattle.sw_rules.specs.Rows.{changed, first_job, is_in_phase, is_first, is_job, is_unfinished, is_waiting}
use Rattle.sw_tables.proofs.Rows.{found_at, found_number}
use Rattle.sw_tables.specs.Linked.{ArePlaces}

abbrev number : JobRow → ℕ
number row = row.job.number

-- the first job of its queue, by its key and its scope
pub starts : (rows : List JobRow) (job : ℕ) (row : JobRow) → ArePlaces number rows → find (is_job job) rows ≡ Some row → is_ready rows row ≡ true → ready_job row.job.key row.job.scope rows ≡ Some job
starts rows job row are is ready = by (first_job row.job.key row.job.scope rows) refl
  where
    own : row.job.number ≡ job
    own = found_number number job rows row is

    parts : (is_in_phase is_waiting row ≡ true) × (is_first rows row ≡ true)
    parts = and_parts (is_in_phase is_waiting row) (is_first rows row) ready

    by : (o : Option JobRow) → first_job row.job.key row.job.scope rows ≡ o → ready_job row.job.key row.job.scope rows ≡ Some job
    by None none = absurd (grind (arith, none, parts.1))
    by (Some first) found =
        let same : first.job.number ≡ row.job.number = grind (arith, nat_tests, found, parts.1) in
        let at = found_at number (λ (r : JobRow). is_unfinished r && bytes_eq r.job.key row.job.key && bytes_eq r.job.scope row.job.scope) rows first are found in
        let there = subst (λ (n : ℕ). find (is_job n) rows ≡ Some first) (same ∙ own) at in
        let one : first ≡ row = cc (there, is) in
        grind (arith, found, one, parts.0, own)

-- the numbers stay places
pub still_places : (f : JobRow → JobRow) (job : ℕ) → ((row : JobRow) → (f row).job.number ≡ row.job.number) → (rows : List JobRow) → ArePlaces number rows → ArePlaces number (changed (is_job job) f rows)
still_places f job keeps rows are =
    numbers rows ∙ (are ∙ ap (range_with_len 0) (sym (length-map rows (λ row. if is_job job row then f row else row))))
  where
    numbers : (xs : List JobRow) → map number (changed (is_job job) f xs) ≡ map number xs
    numbers [] = refl
    numbers (x ∷ xs) = grind (arith, keeps x, numbers xs)

-- a job that starts and then fetches
pub twice : (registration ordinal job : ℕ) (rows : List JobRow) → changed (is_job job) (fetches registration ordinal) (changed (is_job job) (with_phase job_phase.Fetching) rows) ≡ changed (is_job job) (fetches registration ordinal) rows
twice registration ordinal job [] = refl
twice registration ordinal job (row ∷ rows) = grind (arith, twice registration ordinal job rows)

-- what passes is there
pub passing : {X : Type 0} (test : X → Bool) (o : Option X) → option_map_or test o false ≡ true → (x : X) × (o ≡ Some x) × (test x ≡ true)
passing test None has = absurd cc
passing test (Some x) has = (x, refl, has)

-- what holds of an answer that is known
pub of_answer : {E : Type 0} (P : ℕ → Type 0) (result : Result ℕ E) (n : ℕ) → result_ok result ≡ Some n → IfOk result P → P n
of_answer P (Ok m) n is holds = let same : m ≡ n = cc in subst P same holds
of_answer P (Err e) n is holds = absurd cc

-- a registration of the job's key and scope names its queue
pub ready_by : (rows : List JobRow) (job : ℕ) (row : JobRow) (registration : RegistrationRow) → ready_job row.job.key row.job.scope rows ≡ Some job → is_of_job row.job registration ≡ true → ready_job registration.key registration.scope rows ≡ Some job
ready_by rows job row registration ready names =
    let parts = and_parts (bytes_eq registration.key row.job.key) (bytes_eq registration.scope row.job.scope) names in
    let key = (bytes_decides registration.key row.job.key).0 parts.0 in
    let scope = (bytes_decides registration.scope row.job.scope).0 parts.1 in
    subst (λ (s : List ℕ). ready_job registration.key s rows ≡ Some job) (sym scope)
    (subst (λ (k : List ℕ). ready_job k row.job.scope rows ≡ Some job) (sym key) ready)
