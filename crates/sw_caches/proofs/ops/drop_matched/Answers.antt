use Rattle.std.proofs.Common.{rules}
use Rattle.std.specs.Prelude.{not}
use Rattle.std.proofs.lemmas.Fn.{filter_same}
use Rattle.sw_rules.specs.Matching.{matches_pair}
use Rattle.sw_caches.proofs.ops.drop_matched.Goals as goal

pub returns-clause-pairs : goal.returns-clause-pairs
returns-clause-pairs c = filter_same _ (λ pair. not (matches_pair c.args.query.now c.args.options pair)) _ (λ x b g k. search rules) _ _ c.retain.ensures.filtered
