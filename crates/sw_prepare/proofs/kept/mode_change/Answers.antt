use Rattle.std.proofs.Common.{List, ℕ, ◌∙◌, subst, ap}
use Rattle.std.specs.Prelude.{◌≡◌, IfOk, option_map, option_to_list}
use Rattle.sw_data.specs.declared.storage.Change.{Change}
use Rattle.sw_data.specs.declared.storage.Change.TheVariants as change
use Rattle.sw_prepare.proofs.KeptRows.{mode_told}
use Rattle.sw_prepare.specs.Kept.{names_of}
use Rattle.sw_tables.specs.Lent.{lent}
use Rattle.sw_prepare.proofs.kept.mode_change.Goals as goal

pub returns : goal.returns
returns c = λ of_workers of_clients rest has.
    let named : List ℕ × List ℕ → Change = λ names. change.Mode names.0 names.1 c.args.mode in
    subst (λ (changes : List Change). IfOk c.told.result (λ told. told.items ≡ changes))
    (ap option_to_list (c.moded.ensures ∙ ap (option_map named) (c.in_ok-names.ensures ∙ ap (option_map names_of) c.of_other_mode-row.ensures))
    ∙ mode_told (lent c.args.map.now of_workers c.args.registrations.now of_clients rest) c.args.registration c.args.map.now rest _ (c.kept_row.ensures of_workers of_clients rest has) c.args.mode)
    c.told.ensures
