use Rattle.std.proofs.Common.{◌≡◌, ◌++◌, ◌+◌, map, filter, take}
use Rattle.std.specs.Map.{values_of}
use Rattle.sw_data.specs.declared.answers.Notice.TheVariants as notice
use Rattle.sw_client.specs.Table.{users_of, uses}
use Rattle.sw_client.proofs.tell.Given as goal

abbrev pub invariant-loop-place : goal.invariant-loop-place
invariant-loop-place l = record {
  told : l.notices.rows ≡ l.initial.notices.rows ++ map (λ row. notice.ControllerChange row.client.number) (filter (uses l.registration) (take l.place (values_of l.rows.entries)));
  room : l.notices.spare + users_of l.registration (take l.place (values_of l.rows.entries)) ≡ l.initial.notices.spare;
}
