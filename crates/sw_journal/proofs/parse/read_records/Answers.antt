use Rattle.std.proofs.Common.{arith, ◌≡◌, ℕ, List, [], ◌∷◌, ◌++◌, length, ◌∙◌, ap}
use Rattle.std.proofs.lemmas.List.{length_push}
use Rattle.sw_journal.proofs.ParseSteps.{starts, end_step, closed_step, bad_step, record_step, none_of}
use Rattle.sw_journal.proofs.parse.read_records.Goals as goal
use Rattle.sw_journal.proofs.parse.read_records.Goals.{in_default, in-len1-up+else-byte-ne-OPEN+in_default-split_record}

pub loop-rest-init : goal.loop-rest-init
loop-rest-init c = record {
  so_far = starts _ c.args.bytes.now _ _ c.new-records.ensures.items c.split_at.ensures.back c.requires;
  count = omega (arith, ap length c.new-records.ensures.items);
}

pub returns-then-byte-ne-OPEN-clause-reading : goal.returns-then-byte-ne-OPEN-clause-reading
returns-then-byte-ne-OPEN-clause-reading c = closed_step c.loop-rest.invariant.so_far c.in-len1-up.len_at_least c.if-byte-ne-OPEN.true

pub loop-rest-preserved : goal.loop-rest-preserved
loop-rest-preserved c =
    let records = c.loop-rest.records.items in
    let one : ℕ × List ℕ = (c.loop-rest.gate, c.in-Some.payload.now) in
    let more : c.push.new.self.items ≡ records ++ one ∷ [] = c.in_ok-push.ensures.items ∙ ap (λ (l : List ℕ). records ++ (c.loop-rest.gate, l) ∷ []) c.in_ok-of.ensures in
    record {
      so_far = record_step c.loop-rest.invariant.so_far c.len.result (omega (arith, c.len.ensures, c.loop-rest.records.ok)) c.in-len1-up.len_at_least c.if-byte-ne-OPEN.false
          c.in-Some.payload.now c.in-Some.next.now c.push.new.self.items c.width.result c.width.ensures more c.in-Some.ensures;
      count = omega (arith, ap length more, length_push records one, c.loop-rest.invariant.count);
    }

pub returns-clause-reading : goal.returns-clause-reading
returns-clause-reading c = elim c.if-rest-lt1.branch [
  | in_default w ↦ end_step c.loop-rest.invariant.so_far w.in_default.len_below
  | in-len1-up+else-byte-ne-OPEN+in_default-split_record w ↦
      bad_step c.loop-rest.invariant.so_far w.len.result (omega (arith, w.len.ensures, c.loop-rest.records.ok)) w.in-len1-up.len_at_least w.if-byte-ne-OPEN.false
      (none_of w.split_record.result _ _ w.split_record.ensures w.in_default-split_record.not-Some)
]
