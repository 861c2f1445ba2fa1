use Rattle.std.proofs.Common.{◌≡◌, ◌∙◌, sym, ap}
use Rattle.sw_change.proofs.Entries.{on_ok}
use Rattle.sw_list.specs.Named.{with_value}
use Rattle.sw_sizes.specs.Counted.{StandsAt, StandsNowhere}
use Rattle.sw_sizes.specs.declared.row.Parts.{Parts}
use Rattle.sw_sizes.specs.Rows.{edited, with_parts}
use Rattle.sw_sizes.proofs.sizes.Sizes.edit.Goals as goal

pub returns-in-Some : goal.returns-in-Some
returns-in-Some c =
    let rows = c.args.self.now in
    let key = c.args.key.now in
    let scope = c.args.scope.now in
    let at = c.in-Some.at in
    let edit = edited c.args.edit in
    let stands : StandsAt key scope rows at = c.in-Some.ensures.stands in
    on_ok c.set.result (c.set.new.self ≡ with_value at c.edited-parts.result rows) (c.set.new.self ≡ with_parts key scope edit rows) c.set.ensures
    (λ is. is ∙ (ap (λ (parts : Parts). with_value at parts rows) c.edited-parts.ensures ∙ stands.edits c.parts_at.result edit c.parts_at.ensures))

pub returns-in-None : goal.returns-in-None
returns-in-None c =
    let nowhere : StandsNowhere c.args.key.now c.args.scope.now c.args.self.now = c.in-None.ensures.stands in
    sym (nowhere.edits (edited c.args.edit))
