use Rattle.std.proofs.Common.{List, ℕ, ◌∙◌, subst, ap}
use Rattle.std.specs.Prelude.{◌≡◌, IfOk, option_map, option_to_list}
use Rattle.sw_data.specs.declared.storage.Change.{Change}
use Rattle.sw_data.specs.declared.storage.Change.TheVariants as change
use Rattle.sw_prepare.proofs.KeptRows.{kept_told}
use Rattle.sw_tables.specs.Lent.{lent}
use Rattle.sw_prepare.proofs.kept.active_change.Goals as goal

pub returns : goal.returns
returns c = λ of_workers of_clients rest has.
    let named : List ℕ × List ℕ → Change = λ names. change.Active names.0 names.1 in
    subst (λ (changes : List Change). IfOk c.told.result (λ told. told.items ≡ changes))
    (ap option_to_list (c.active.ensures ∙ ap (option_map named) c.in_ok-names.ensures)
    ∙ kept_told (lent c.args.map.now of_workers c.args.registrations.now of_clients rest) c.args.registration c.args.map.now rest _ (c.kept_row.ensures of_workers of_clients rest has) named)
    c.told.ensures
