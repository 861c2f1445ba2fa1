-- One line more.
use Rattle.std.specs.Vec.Iter.{into_iter_items}
use Rattle.sw_import.proofs.Pairing.{even_next, paired_next}
use Rattle.sw_import.proofs.network.apart.Goals as goal

pub loop-fetch-preserved : goal.loop-fetch-preserved
loop-fetch-preserved c =
    let at = c.loop-fetch in
    record {
      pairs =
          paired_next at.lines.items c.push.new.self.items at.all_imports.items c.push-in-loop-fetch.new.self.items
          c.in-Some.fetch (into_iter_items at.fetch-iterator) (into_iter_items c.next.new.self) c.args.fetches
          at.invariant.even at.invariant.pairs c.in-Some.ensures.steps.0 c.in_ok-push.ensures.items c.in_ok-push-2.ensures.items;
      even =
          even_next at.lines.items c.push.new.self.items at.all_imports.items c.push-in-loop-fetch.new.self.items
          c.in-Some.fetch.line c.in-Some.fetch.imports at.invariant.even c.in_ok-push.ensures.items c.in_ok-push-2.ensures.items;
    }
