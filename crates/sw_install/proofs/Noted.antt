-- What is noted of a job, as a change of its row.
use Rattle.std.proofs.Common.{◌≡◌, ℕ, Bool, true, false, List, Some, find, refl, arith, if◌then◌else◌}
use Rattle.std.proofs.lemmas.Bool.Decides.{nat_tests}
use Rattle.sw_data.specs.declared.rows.JobRow.{JobRow}
use Rattle.sw_queue.specs.Tables.{noted}
use Rattle.sw_queue.specs.declared.calls.JobNotes.{JobNotes}
use Rattle.sw_rules.specs.Rows.{changed, is_job}
use Rattle.sw_tables.proofs.Rows.{map_on}
use Rattle.sw_tables.specs.Linked.{ArePlaces}

-- notes that agree with a change on the row that is there
pub noted_as : (f : JobRow → JobRow) (notes : JobNotes) (job : ℕ) (rows : List JobRow) (row : JobRow) → ArePlaces (λ row. row.job.number) rows
    → find (is_job job) rows ≡ Some row → noted notes row ≡ f row → changed (is_job job) (noted notes) rows ≡ changed (is_job job) f rows
noted_as f notes job rows row are is same =
    map_on (λ (r : JobRow). r.job.number) (λ r. if is_job job r then noted notes r else r) (λ r. if is_job job r then f r else r) rows are
    (λ y there. by y there (is_job job y) refl)
  where
    by : (y : JobRow) → find (is_job y.job.number) rows ≡ Some y → (b : Bool) → is_job job y ≡ b
        → (if is_job job y then noted notes y else y) ≡ (if is_job job y then f y else y)
    by y there true passes =
        let own : y.job.number ≡ job = grind (arith, nat_tests, passes) in
        let one : y ≡ row = cc (own, there, is) in
        cc (one, same)
    by y there false passes = cc
