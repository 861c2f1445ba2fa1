use Rattle.std.proofs.Common.{◌∙◌, ap, find, option_map}
use Rattle.sw_rules.specs.Rows.{is_promise}
use Rattle.sw_ledgers.specs.Promised.{Table, meaning}
use Rattle.sw_ledgers.proofs.Promising.{found_promise}
use Rattle.sw_ledgers.proofs.promises.Promises.awaited.Goals as goal

pub returns : goal.returns
returns c =
    ap (option_map meaning) (c.copied.ensures ∙ c.get.ensures.value)
    ∙ (found_promise c.args.lane c.args.at c.self.inside.awaited.entries
    ∙ ap (λ (table : Table). option_map (λ row. row.awaited) (find (is_promise c.args.lane c.args.at) table.rows)) c.self.view_is)
