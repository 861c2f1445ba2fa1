-- What holds of the rows of jobs and of what is kept to find them (own).
use Rattle.std.specs.Prelude.{◌≡◌, ℕ, suc, Bool, true, nat_lt, List, [], ◌∷◌, map, length, filter, get_or}
use Rattle.std.specs.List.{list_all}
use Rattle.std.specs.Option.{option_map_or}
use Rattle.sw_data.specs.declared.rows.JobRow.{JobRow}
use Rattle.sw_rules.specs.Rows.{is_number, queue}
use Rattle.sw_queue.specs.Lines.{Keyed, line_in}

-- own: each row's number is its place, counted from this number on
abbrev pub AreFrom : ℕ → List JobRow → Type 0
AreFrom first [] = Unit {0}
AreFrom first (row ∷ rows) = (row.job.number ≡ first) × AreFrom (suc first) rows

abbrev pub number : JobRow → ℕ
number row = row.job.number

-- own: the numbers of the jobs that joined a job, in order
abbrev pub followers_of : ℕ → List JobRow → List ℕ
followers_of job rows = map number (filter (λ row. is_number row.leader job) rows)

-- own: the job that a job joined was scheduled before it
abbrev pub is_led_before : JobRow → Bool
is_led_before row = option_map_or (λ leader. nat_lt leader row.job.number) row.leader true

pub record IsQueued (rows : List JobRow) (lists : List (List ℕ)) (lines : Keyed) : Type 0 where
  pub numbers : AreFrom 0 rows
  pub count : length lists ≡ length rows
  pub queues : (key scope : List ℕ) → (line_in lines key scope).numbers ≡ map number (queue key scope rows)
  pub followers : (job : ℕ) → get_or lists job [] ≡ followers_of job rows
  pub leaders : list_all is_led_before rows ≡ true
