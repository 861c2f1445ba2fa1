use Rattle.std.proofs.Common.{rules}
use Rattle.std.proofs.lemmas.Fn.{filter_same}
use Rattle.sw_import.specs.Checking.{is_named}
use Rattle.sw_import.proofs.course.leave_named.Goals as goal

pub returns : goal.returns
returns c = filter_same _ (is_named c.args.named.now) _ (λ x b g k. search rules) _ _ c.retain.ensures.filtered
