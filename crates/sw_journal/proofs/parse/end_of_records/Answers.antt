use Rattle.std.proofs.Common.{arith, ℕ, List, [], ◌∷◌, ◌++◌, sym, refl, true, false}
use Rattle.std.proofs.lemmas.List.{length_push}
use Rattle.sw_journal.proofs.ParseSteps.{starts, end_step, closed_step, bad_step, record_step, none_of}
use Rattle.sw_journal.proofs.parse.end_of_records.Goals as goal

pub loop-rest-init : goal.loop-rest-init
loop-rest-init c = record { records = []; number = refl; so_far = starts _ c.args.bytes.now _ _ refl c.split_at.ensures.back c.requires; count = omega arith }

pub loop-rest-preserved : goal.loop-rest-preserved
loop-rest-preserved c =
    let so_far = c.loop-rest.invariant in
    let one : ℕ × List ℕ = (c.loop-rest.gate, c.in-Some.payload.now) in
    record {
      records = so_far.records ++ one ∷ [];
      number = omega (arith, length_push so_far.records one, so_far.number);
      so_far = record_step so_far.so_far c.loop-rest.count (sym so_far.number) c.in-len1-up.len_at_least c.if-first-ne-OPEN.false
          c.in-Some.payload.now c.in-Some.next.now _ c.width.result c.width.ensures refl c.in-Some.ensures;
      count = omega (arith, so_far.count);
    }

pub returns-in_default-clause-end : goal.returns-in_default-clause-end
returns-in_default-clause-end c =
    let it = c.loop-rest.invariant in record { records = it.records; is_closed = false; number = it.number; reads = end_step it.so_far c.in_default.len_below }

pub returns-then-first-ne-OPEN-clause-end : goal.returns-then-first-ne-OPEN-clause-end
returns-then-first-ne-OPEN-clause-end c =
    let it = c.loop-rest.invariant in
    record { records = it.records; is_closed = true; number = it.number; reads = closed_step it.so_far c.in-len1-up.len_at_least c.if-first-ne-OPEN.true }

pub returns-in_default-split_record-clause-end : goal.returns-in_default-split_record-clause-end
returns-in_default-split_record-clause-end c =
    let it = c.loop-rest.invariant in
    let none = none_of c.split_record.result _ _ c.split_record.ensures c.in_default-split_record.not-Some in
    record { records = it.records; is_closed = false; number = it.number; reads = bad_step it.so_far c.loop-rest.count (sym it.number) c.in-len1-up.len_at_least c.if-first-ne-OPEN.false none }
