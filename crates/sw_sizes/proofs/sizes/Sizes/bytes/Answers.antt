use Rattle.std.proofs.Common.{◌∙◌}
use Rattle.sw_sizes.proofs.PartsLemmas.{bytes_are}
use Rattle.sw_sizes.proofs.sizes.Sizes.bytes.Goals as goal

pub returns : goal.returns
returns c kept parts = bytes_are kept c.self.inside.rows.rows c.self.inside.sums.total c.self.invariant.0.total (c.self.view_is ∙ parts)
