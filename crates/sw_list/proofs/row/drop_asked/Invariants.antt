use Rattle.std.proofs.Common.{◌≡◌, ◌≤◌, length}
use Rattle.std.specs.Prelude.{option_copied}
use Rattle.sw_list.specs.Numbered.{without_by}
use Rattle.sw_list.specs.Names.{HasNoBareKey}
use Rattle.sw_list.specs.Named.{Finds, KeepsLate, entry_rows, is_asked, marks_of}
use Rattle.sw_list.proofs.row.drop_asked.Given as goal

abbrev pub invariant-loop-place : goal.invariant-loop-place
invariant-loop-place g l = record {
  found : Finds (marks_of l.rows.rows) l.keys.entries l.rows.next;
  late : KeepsLate l.initial.rows.next l.initial.keys.entries l.keys.entries;
  bare : HasNoBareKey l.initial.keys.entries → HasNoBareKey l.keys.entries;
  others : without_by (is_asked l.key (option_copied l.name)) (entry_rows l.rows.rows) ≡ without_by (is_asked l.key (option_copied l.name)) (entry_rows l.initial.rows.rows);
  next : l.rows.next ≡ l.initial.rows.next;
  bound : length l.rows.rows ≤ length l.initial.rows.rows;
}

abbrev pub decreases-loop-place : goal.decreases-loop-place
decreases-loop-place g l = length l.rows.rows
