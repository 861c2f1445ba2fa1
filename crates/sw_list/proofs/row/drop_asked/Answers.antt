use Rattle.std.proofs.Common.{◌≡◌, ◌<◌, ◌∙◌, List, ap, false, arith, get_or, length, subst, sym}
use Rattle.std.specs.Prelude.{option_copied}
use Rattle.std.proofs.lemmas.List.{get_or-map, length-map}
use Rattle.std.proofs.lemmas.List.Edits.{length-remove}
use Rattle.std.proofs.lemmas.Option.{get_or_from_slice_get}
use Rattle.sw_list.specs.Names.{Mark}
use Rattle.sw_list.specs.Named.{Finds, entry_row, entry_rows, is_asked, mark_of, marks_of}
use Rattle.sw_list.proofs.FindLemmas.{filter_remove, none_position, none_reads}
use Rattle.sw_list.proofs.MarkLemmas.{found_less, late_less}
use Rattle.sw_list.proofs.RowLemmas.{asked_all, asked_low, asked_there, entry_at, marks_without}
use Rattle.sw_list.proofs.row.drop_asked.Goals as goal

pub remove-row-requires : goal.remove-row-requires
remove-row-requires g c =
    let was = c.loop-place.rows in
    let of = c.loop-place.invariant.found in
    asked_low c.args.key.now (option_copied c.args.name) was.rows was.next of.rising of.bounded c.in-Some.place c.in-Some.ensures

pub loop-place-preserved : goal.loop-place-preserved
loop-place-preserved g c =
    let key = c.args.key.now in
    let name = option_copied c.args.name in
    let was = c.loop-place.rows in
    let place = c.in-Some.place in
    let held = c.loop-place.invariant in
    let row = c.remove-row.result in
    let number = c.unwrap-number.result in
    let mark : Mark = mark_of (number, row) in
    let within = asked_low key name was.rows was.next held.found.rising held.found.bounded place c.in-Some.ensures in
    let there = asked_there key name was.rows was.next held.found.rising held.found.bounded place (number, row) c.in-Some.ensures in
    let at = entry_at was.rows number place row (sym c.number.ensures ∙ c.unwrap-number.ensures) c.remove-row.ensures.value in
    let low : place < length (marks_of was.rows) = omega (arith, within, length-map was.rows (mark_of {V = g.row.V.Denot})) in
    let is : mark ≡ get_or (marks_of was.rows) place mark =
    sym (get_or-map mark_of was.rows place (number, row) mark within ∙ ap mark_of (get_or_from_slice_get was.rows place (number, row) (number, row) at)) in
    let below : number < was.next = (let top = (held.found.bounded place mark low).1 in let same = ap (λ (m : Mark). m.0) is in omega (arith, top, same)) in
    record {
      found = rw (c.remove-row.ensures.rows, c.remove-row.ensures.next)
          (subst (λ (marks : List Mark). Finds marks c.drop_number.new.keys.entries was.next) (sym (marks_without was.rows place))
          (found_less (marks_of was.rows) c.loop-place.keys.entries c.drop_number.new.keys.entries was.next place mark held.found low is c.drop_number.ensures.gone));
      late = λ asked named n high.
          late_less c.loop-place.keys.entries c.drop_number.new.keys.entries was.next mark false below c.drop_number.ensures.gone asked named n (let same = held.next in omega (arith, high, same))
          ∙ held.late asked named n high;
      bare = λ was_bare. c.drop_number.ensures.bare (held.bare was_bare);
      others = rw c.remove-row.ensures.rows (filter_remove entry_row (is_asked key name) was.rows place (number, row) within there) ∙ held.others;
      next = c.remove-row.ensures.next ∙ held.next;
      bound = rw c.remove-row.ensures.rows (let h = held.bound in let l = length-remove was.rows place within in omega (arith, h, l));
    }

pub returns-clause-rows : goal.returns-clause-rows
returns-clause-rows g c =
    let key = c.args.key.now in
    let name = option_copied c.args.name in
    let was = c.loop-place.rows in
    let of = c.loop-place.invariant.found in
    none_reads entry_row (is_asked key name) was.rows 0
    (sym (none_position (is_asked key name) (entry_rows was.rows) (c.in_default.ensures ∙ asked_all key name was.rows was.next of.rising of.bounded)))
    ∙ c.loop-place.invariant.others
