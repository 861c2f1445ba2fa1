use Rattle.std.proofs.Common.{◌∙◌, ap, nat_eq, position}
use Rattle.std.specs.Prelude.{option_copied}
use Rattle.sw_list.proofs.MarkLemmas.{found_first, found_none}
use Rattle.sw_list.proofs.RowLemmas.{same_numbers}
use Rattle.sw_list.specs.Named.{marks_of}
use Rattle.sw_list.proofs.row.first_asked.Goals as goal

pub returns-in-Some : goal.returns-in-Some
returns-in-Some g c =
    let rows = c.args.rows.now in
    c.place.ensures
    ∙ (ap (position (nat_eq c.in-Some.number)) (same_numbers rows.rows)
    ∙ found_first (marks_of rows.rows) c.args.keys.now.entries rows.next c.requires c.args.key.now (option_copied c.args.name) c.args.low c.in-Some.number c.in-Some.ensures)

pub returns-in-None : goal.returns-in-None
returns-in-None g c =
    let rows = c.args.rows.now in
    found_none (marks_of rows.rows) c.args.keys.now.entries rows.next c.requires c.args.key.now (option_copied c.args.name) c.args.low c.in-None.ensures
