use Rattle.std.proofs.Common.{◌≡◌, ◌≤◌, length}
use Rattle.sw_change.proofs.Entries.{promoted_to}
use Rattle.sw_change.proofs.registrations.Registrations.restarted.Given as goal

abbrev pub invariant-loop-place : goal.invariant-loop-place
invariant-loop-place l = (l.place-end ≡ length l.initial.self-inside.rows.rows) × (l.place ≤ l.place-end) × (l.self-inside.rows.rows ≡ promoted_to l.place l.initial.self-inside.rows.rows)
