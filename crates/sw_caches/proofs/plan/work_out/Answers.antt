use Rattle.std.proofs.Common.{◌≡◌, refl, rules}
use Rattle.std.specs.Vec.Iter.{into_iter_items}
use Rattle.sw_caches.proofs.BatchLemmas.{left_nothing}
use Rattle.sw_caches.proofs.plan.work_out.Goals as goal

pub loop-op-init : goal.loop-op-init
loop-op-init c =
    let parts : into_iter_items c.into_iter-op-iterator.result ≡ c.args.ops.items = search rules in
    record {
      can = tt;
      ends = tt;
      parts = parts;
      left = search rules;
      count = refl;
      draft = c.requires.draft;
      first = refl;
      below = λ key n h. refl;
      batch = λ old. rw (c.requires.new.0, c.requires.new.1, parts, left_nothing old) refl;
    }
