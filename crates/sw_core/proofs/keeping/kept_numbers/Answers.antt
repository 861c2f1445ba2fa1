use Rattle.std.proofs.Common.{◌∙◌, ◌<◌, ℕ, List, Option, None, Some, length, ap, sym, arith, if◌then◌else◌}
use Rattle.std.specs.Option.{option_or}
use Rattle.std.proofs.lemmas.List.{take_all}
use Rattle.sw_data.specs.declared.rows.RegistrationRow.{RegistrationRow}
use Rattle.sw_core.proofs.Numbers.{all_numbers, number_taken}
use Rattle.sw_core.specs.Keeping.{is_kept_at, number_at}
use Rattle.sw_core.proofs.keeping.kept_numbers.Goals as goal

pub loop-row-preserved : goal.loop-row-preserved
loop-row-preserved c =
    let before = c.loop-row.invariant in
    let row = c.row-item.result in
    record {
      len = c.note_row.ensures.len ∙ before.len;
      noted = λ asked below.
          let inside : asked < length c.loop-row.firsts.items = let same = c.note_row.ensures.len in omega (arith, below, same) in
          c.note_row.ensures.noted asked inside
          ∙ (ap (λ (o : Option ℕ). option_or o (if is_kept_at c.args.scopes.now asked row then Some row.number else None)) (before.noted asked inside)
          ∙ sym (number_taken c.args.scopes.now asked c.args.rows.now c.loop-row.row-index row c.loop-row-test.true c.row-item.is));
    }

pub returns : goal.returns
returns c =
    let at_end = c.loop-row.invariant in
    all_numbers c.loop-row.firsts.items (number_at c.args.scopes.now c.args.rows.now) (length c.args.rows.now) at_end.len
    (λ place below. at_end.noted place below
    ∙ ap (λ (rows : List RegistrationRow). number_at c.args.scopes.now rows place) (take_all c.loop-row.row-index c.args.rows.now (omega (arith, c.loop-row-test.false))))
