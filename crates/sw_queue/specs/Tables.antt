-- The table of jobs: its rows, the room for more of them, and what its calls answer.
use Rattle.std.specs.Prelude.{◌≡◌, ℕ, ◌<◌, fold, Bool, true, false, ◌&&◌, List, [], ◌∷◌, map, length, find, get_or, is_none, Option, Some, None, option_and_then, if◌then◌else◌}
use Rattle.std.specs.List.{slice_get}
use Rattle.std.specs.Option.{option_map_or}
use Rattle.sw_data.specs.declared.answers.Notice.{Notice}
use Rattle.sw_data.specs.declared.answers.Notice.TheVariants as notice
use Rattle.sw_data.specs.declared.answers.Settlement.{Settlement}
use Rattle.sw_data.specs.declared.rows.Job.{Job}
use Rattle.sw_data.specs.declared.rows.JobPhase.{JobPhase}
use Rattle.sw_data.specs.declared.rows.JobPhase.TheVariants as job_phase
use Rattle.sw_data.specs.declared.rows.JobRow.{JobRow}
use Rattle.sw_rules.specs.Jobs.{is_equivalent, new_job_row}
use Rattle.sw_rules.specs.Rows.{changed, first_job, is_first, is_job, is_waiting, last_job}
use Rattle.sw_queue.specs.Kept.{followers_of}
use Rattle.sw_queue.specs.Lines.{Keyed, Scoped, named}
use Rattle.sw_queue.specs.declared.calls.JobNotes.{JobNotes}
use Rattle.sw_queue.specs.declared.calls.Scheduled.{Scheduled}
use Rattle.sw_queue.specs.declared.calls.Scheduled.TheVariants as scheduled

-- ---- the table

-- own: how many more rows have room, lists of followers, followers of each job, and jobs in the queue of each key and scope
pub record Room : Type 0 where
  pub rows : ℕ
  pub lists : ℕ
  pub followers : List ℕ
  pub queues : List (List ℕ × List (List ℕ × ℕ))

-- own: the jobs in order of scheduling, each at its number, and the room for more
pub record Table : Type 0 where
  pub rows : List JobRow
  pub room : Room

abbrev pub scope_spares : Scoped → List (List ℕ × ℕ)
scope_spares lines = map (λ line. (line.0, line.1.spare)) lines

-- own: the room of all lines
abbrev pub spares : Keyed → List (List ℕ × List (List ℕ × ℕ))
spares lines = map (λ scoped. (scoped.0, scope_spares scoped.1)) lines

-- own: how many more jobs have room in the queue of a key and a scope
abbrev pub queue_spare : List (List ℕ × List (List ℕ × ℕ)) → List ℕ → List ℕ → ℕ
queue_spare queues key scope = named (named queues key []) scope 0

-- ---- scheduling

-- the job that a new job joins, by the rows alone (Service Workers, Appendix A, "Schedule Job")
abbrev pub joined_in : List JobRow → Job → Option ℕ
joined_in rows job =
    option_and_then
    (λ last. if is_equivalent job last.job && is_none last.settled then Some last.job.number else None)
    (last_job job.key job.scope rows)

-- own: there is room for a job, in its queue or among the followers of the job that it joins
abbrev pub HasPlace : Room → Job → Option ℕ → Type 0
HasPlace room job None = 0 < queue_spare room.queues job.key job.scope
HasPlace room job (Some leader) = 0 < get_or room.followers leader 0

-- own: the row is the next one of the table, which has room for it
pub record FitsJob (new : JobRow) (table : Table) : Type 0 where
  pub number : new.job.number ≡ length table.rows
  pub row : new ≡ new_job_row new.job (joined_in table.rows new.job)
  pub rows : 0 < table.room.rows
  pub lists : 0 < table.room.lists
  pub place : HasPlace table.room new.job new.leader

-- own: the answer for a job that joined this one, or none
abbrev pub scheduled_as : Option ℕ → Scheduled
scheduled_as None = scheduled.Queued
scheduled_as (Some leader) = scheduled.Joined leader

-- ---- jobs that run

-- own: the job of this number is there and passes
abbrev pub has_job : (JobRow → Bool) → ℕ → List JobRow → Bool
has_job test job rows = option_map_or test (find (is_job job) rows) false

-- own: the job of this number stands first in its queue and passes
abbrev pub has_head : (JobRow → Bool) → ℕ → List JobRow → Bool
has_head test job rows = has_job (λ row. is_first rows row && test row) job rows

-- own: each job keeps the jobs that joined it
abbrev pub FollowersStay : List JobRow → List JobRow → Type 0
FollowersStay before after = (other : ℕ) → followers_of other after ≡ followers_of other before

-- own: the job that may start, of a key and a scope
abbrev pub ready_job : List ℕ → List ℕ → List JobRow → Option ℕ
ready_job key scope rows =
    option_and_then (λ row. if is_waiting row.phase then Some row.job.number else None) (first_job key scope rows)

abbrev pub with_phase : JobPhase → JobRow → JobRow
with_phase phase row = record row { phase = phase }

-- own: a row whose promise settles with this value, where it has not settled
abbrev pub given : Settlement → JobRow → JobRow
given result row = if is_none row.settled then record row { settled = Some result } else row

-- own: the promises of these jobs settle with this value, one after the other
abbrev pub settled_all : Settlement → List JobRow → List ℕ → List JobRow
settled_all result rows jobs = fold (λ done job. changed (is_job job) (given result) done) rows jobs

-- own: what the maker of a job is told, where the job has no value yet and gets this one
abbrev pub told_of : Settlement → JobRow → List Notice
told_of result row = if is_none row.settled && row.job.has_client then notice.Settled row.job.number result ∷ [] else []

-- own: the same, by the place of the job
abbrev pub told_at : Settlement → List JobRow → ℕ → List Notice
told_at result rows place = option_map_or (told_of result) (slice_get rows place) []

-- own: a job in this phase is under way
abbrev pub is_under_way : JobPhase → Bool
is_under_way job_phase.Fetching = true
is_under_way job_phase.Evaluating = true
is_under_way job_phase.Installing = true
is_under_way _ = false

-- own: the notes of a job stand in its row
abbrev pub noted : JobNotes → JobRow → JobRow
noted notes row = record row {
  phase = notes.phase;
  registration = notes.registration;
  fetch = notes.fetch;
  remembered = notes.remembered;
  worker = notes.worker;
}
