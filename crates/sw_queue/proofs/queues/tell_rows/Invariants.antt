use Rattle.std.proofs.Common.{◌≡◌, ◌≤◌, ◌+◌, ◌++◌, take}
use Rattle.std.specs.List.{flat_map}
use Rattle.sw_queue.specs.Tables.{told_at}
use Rattle.sw_queue.proofs.queues.tell_rows.Given as goal

abbrev pub invariant-loop-job : goal.invariant-loop-job
invariant-loop-job l =
    (l.notices.rows ≡ l.initial.notices.rows ++ flat_map (told_at l.value l.rows) (take l.job-index l.jobs))
    × (l.initial.notices.spare ≤ l.notices.spare + l.job-index)
