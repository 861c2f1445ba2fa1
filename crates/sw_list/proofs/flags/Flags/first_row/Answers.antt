use Rattle.std.proofs.Common.{◌∙◌, slice_get, ap}
use Rattle.std.specs.Option.{option_and_then}
use Rattle.sw_list.proofs.Placing.{first_passing}
use Rattle.sw_list.proofs.flags.Flags.first_row.Goals as goal

pub returns-in-None : goal.returns-in-None
returns-in-None g c = λ test are. ap (option_and_then (slice_get c.args.rows.now)) c.in-None.ensures ∙ first_passing test c.args.rows.now c.args.self.now.flags c.args.from are

pub returns-in-Some : goal.returns-in-Some
returns-in-Some g c = λ test are. c.row_at.ensures ∙ ap (option_and_then (slice_get c.args.rows.now)) c.in-Some.ensures ∙ first_passing test c.args.rows.now c.args.self.now.flags c.args.from are
