use Rattle.std.proofs.Common.{◌≡◌, ◌++◌, take, drop}
use Rattle.sw_client.specs.Table.{handed}
use Rattle.sw_client.proofs.TakeOver.{edited}
use Rattle.sw_client.proofs.hand_over.Given as goal

abbrev pub invariant-loop-place : goal.invariant-loop-place
invariant-loop-place l = record {
  entries : l.rows.entries ≡ edited (handed l.registration l.worker) (take l.place l.initial.rows.entries) ++ drop l.place l.initial.rows.entries;
  room : l.rows.spare ≡ l.initial.rows.spare;
}
