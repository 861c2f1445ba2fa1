use Rattle.std.proofs.Common.{◌∙◌}
use Rattle.sw_sizes.proofs.PartsLemmas.{key_bytes_are}
use Rattle.sw_sizes.proofs.sizes.Sizes.key_bytes.Goals as goal

pub returns : goal.returns
returns c kept parts = key_bytes_are kept c.self.inside.rows.rows c.args.key.now c.of.result (c.of.ensures ∙ c.self.invariant.0.held c.args.key.now) (c.self.view_is ∙ parts)
