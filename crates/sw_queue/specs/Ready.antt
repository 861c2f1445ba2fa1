-- Which jobs are ready, by a flag for each job and phase, and how many of each key are unfinished (own).
use Rattle.std.specs.Prelude.{◌≡◌, ℕ, ◌<◌, ◌==◌, Bool, false, ◌&&◌, List, bytes_eq, map, length, slice_set, Option, Some, None}
use Rattle.std.specs.List.{slice_get}
use Rattle.std.specs.Option.{option_map_or}
use Rattle.sw_data.specs.declared.rows.Job.{Job}
use Rattle.sw_data.specs.declared.rows.JobPhase.{JobPhase}
use Rattle.sw_data.specs.declared.rows.JobRow.{JobRow}
use Rattle.sw_list.specs.Tally.{Tally, Tallies}
use Rattle.sw_rules.specs.Rows.{is_in_phase, is_evaluating, is_fetching, is_installing, is_unfinished, is_waiting}
use Rattle.sw_queue.specs.Kept.{IsQueued}
use Rattle.sw_queue.specs.Lines.{Keyed, line_in}

-- own: which jobs may start, fetch, are to be evaluated, and install, and for how many more there is room
pub record Ready : Type 0 where
  pub starting : List Bool
  pub fetching : List Bool
  pub evaluating : List Bool
  pub installing : List Bool
  pub spare : ℕ

-- own: each of the four has a flag for a place
pub record HasFlags (place : ℕ) (ready : Ready) : Type 0 where
  pub starting : place < length ready.starting
  pub fetching : place < length ready.fetching
  pub evaluating : place < length ready.evaluating
  pub installing : place < length ready.installing

-- own: the job of a place is past waiting, in this phase
abbrev pub beyond_waiting : ℕ → JobPhase → Ready → Ready
beyond_waiting place phase ready = record ready {
  starting = slice_set ready.starting place false;
  fetching = slice_set ready.fetching place (is_fetching phase);
  evaluating = slice_set ready.evaluating place (is_evaluating phase);
  installing = slice_set ready.installing place (is_installing phase);
}

-- own: the job stands first in its line
abbrev pub is_head : Keyed → Job → Bool
is_head lines job = option_map_or (λ number. number == job.number) (slice_get (line_in lines job.key job.scope).numbers 0) false

-- own: the job joined no other, waits, and stands first in its line
abbrev pub may_start : Keyed → JobRow → Bool
may_start lines row = is_in_phase is_waiting row && is_head lines row.job

-- own: the job of a number has become the first of its line
abbrev pub led_by : Option ℕ → Keyed → List JobRow → Ready → Ready
led_by None lines rows ready = ready
led_by (Some number) lines rows ready = record ready {
  starting = slice_set ready.starting number (option_map_or (may_start lines) (slice_get rows number) false);
}

-- own: the flags tell which jobs are ready
pub record AreMarked (rows : List JobRow) (lines : Keyed) (ready : Ready) : Type 0 where
  pub starting : map (may_start lines) rows ≡ ready.starting
  pub fetching : map (is_in_phase is_fetching) rows ≡ ready.fetching
  pub evaluating : map (is_in_phase is_evaluating) rows ≡ ready.evaluating
  pub installing : map (is_in_phase is_installing) rows ≡ ready.installing

-- own: an unfinished job of a key
abbrev pub is_unfinished_of : List ℕ → JobRow → Bool
is_unfinished_of key row = is_unfinished row && bytes_eq row.job.key key

-- own: what is kept of the rows, which of them are ready, and the keys of those that are unfinished
pub record IsIndexed (rows : List JobRow) (lists : List (List ℕ)) (lines : Keyed) (ready : Ready) (keys : Tally) : Type 0 where
  pub kept : IsQueued rows lists lines
  pub marked : AreMarked rows lines ready
  pub tallied : Tallies is_unfinished_of rows keys
