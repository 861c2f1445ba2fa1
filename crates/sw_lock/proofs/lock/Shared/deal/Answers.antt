use Rattle.std.proofs.Common.{arith}
use Rattle.sw_lock.specs.Passes.{number, IsNew}
use Rattle.sw_lock.proofs.Dealing.{numbered_next}
use Rattle.sw_lock.proofs.Gathering.{all_more, one_longer}
use Rattle.sw_lock.proofs.lock.Shared.deal.Goals as goal

pub loop-next-preserved : goal.loop-next-preserved
loop-next-preserved g c =
    let more = c.push_reserved.ensures.items in
    let old = c.loop-next.all.items in
    let new = c.push_reserved.new.self.items in
    let pass = c.further.result in
    let many = c.loop-next.invariant.count in
    record {
      pass = c.further.ensures.pass;
      first = c.further.ensures.first;
      new = all_more (λ p. IsNew c.args.self.now p) old new pass more c.loop-next.invariant.new c.further.ensures.further.0;
      count = let longer = one_longer old new pass more in omega arith;
      numbers = numbered_next number old new pass c.loop-next.next more c.loop-next.invariant.numbers c.further.ensures.further.1 many;
      room = let same = c.push_reserved.ensures.capacity in let kept = c.loop-next.invariant.room in omega arith;
    }
