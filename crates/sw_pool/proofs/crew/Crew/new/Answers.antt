-- All passes are of the lock, and as many as it has.
use Rattle.std.proofs.Common.{◌∙◌, ap, length, sym}
use Rattle.std.proofs.lemmas.List.{length-map}
use Rattle.std.proofs.lemmas.List.FromFn.{length-range_with_len}
use Rattle.sw_lock.specs.Passes.{number}
use Rattle.sw_pool.proofs.crew.Crew.new.Goals as goal

pub invariant_of-result : goal.invariant_of-result
invariant_of-result g c = record {
  of_lock = λ k d within. (c.in-Ok.ensures.new k d within).pass;
  all = c.in-Ok.passes.ok.0 ∙ sym (length-map c.in-Ok.passes.items number) ∙ ap length c.in-Ok.ensures.numbers ∙ length-range_with_len 0 c.args.passes ∙ sym c.in-Ok.ensures.made;
}
