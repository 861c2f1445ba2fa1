-- What the end of an activate handler needs of its worker.
use Rattle.std.specs.Prelude.{◌≡◌, ℕ, List, true, IfSome}
use Rattle.sw_data.specs.declared.rows.WorkerRow.{WorkerRow}
use Rattle.sw_data.specs.declared.workers.Phase.TheVariants as phase
use Rattle.sw_tables.specs.Ends.{is_in}
use Rattle.sw_tables.specs.Parts.{is_activating}
use Rattle.sw_worker.specs.Table.{worker_at}

-- own: an activate handler runs only while its worker activates
abbrev pub RunsWhileActivating : ℕ → List WorkerRow → Type 0
RunsWhileActivating worker rows =
    IfSome (worker_at worker rows) (λ row. IfSome row.handler (λ handler.
    is_in phase.Activate handler.phase ≡ true → is_activating row.state ≡ true))
