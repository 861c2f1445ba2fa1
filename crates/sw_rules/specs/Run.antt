-- A run: what its history is.
use Rattle.std.specs.Prelude.{ℕ, ◌<◌, List, All}
use Rattle.sw_data.specs.declared.histories.Entry.{Entry}
use Rattle.sw_data.specs.declared.recordings.Recording.{Recording}
use Rattle.sw_data.specs.declared.storage.Kept.{Kept}
use Rattle.sw_rules.specs.History.{Controlled, Legal, Stamped, after}
use Rattle.sw_rules.specs.Picks.{Complete, Follows}
use Rattle.sw_rules.specs.State.{State}

-- own: what a run is: what it follows, from which content, between which clocks it was acknowledged, how many workers made it, and how it has ended
pub record Kind : Type 1 where
  pub Follows : Kept → List Entry → Type 0
  pub base : Kept
  pub low : ℕ
  pub high : ℕ
  pub workers : ℕ
  pub HasEnded : List Entry → State → Type 0

-- own: the promise of a run: one legal history that follows its recording, in which every client is controlled as it was given, and that has come to its end
pub record IsRun (run : Kind) (history : List Entry) : Type 0 where
  pub legal : Legal run.base history
  pub stamped : Stamped run.base run.low run.high history
  pub follows : run.Follows run.base history
  pub controlled : Controlled run.base history
  pub passes : All (λ entry. entry.pass < run.workers) history
  pub ended : run.HasEnded history (after run.base history)

-- the run of a recording by one worker that is complete
abbrev pub whole_run : Recording → Kept → ℕ → ℕ → Kind
whole_run recording base low high = record {
  Follows = Follows recording;
  base = base;
  low = low;
  high = high;
  workers = 1;
  HasEnded = Complete recording;
}
