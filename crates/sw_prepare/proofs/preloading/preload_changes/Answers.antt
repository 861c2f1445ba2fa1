use Rattle.std.proofs.Common.{List, ℕ, ◌∙◌, subst, ap}
use Rattle.std.specs.Prelude.{◌≡◌, IfOk, option_map, option_to_list}
use Rattle.sw_data.specs.declared.storage.Change.{Change}
use Rattle.sw_data.specs.declared.storage.Change.TheVariants as change
use Rattle.sw_prepare.proofs.KeptRows.{preload_told}
use Rattle.sw_prepare.specs.Kept.{names_of}
use Rattle.sw_tables.specs.Lent.{lent}
use Rattle.sw_prepare.proofs.preloading.preload_changes.Goals as goal

pub returns : goal.returns
returns c = λ of_workers of_clients rest has flags values.
    let named : List ℕ × List ℕ → Change = λ names. change.Preload names.0 names.1 c.args.on c.args.value.now in
    subst (λ (changes : List Change). IfOk c.told.result (λ told. told.items ≡ changes))
    (ap option_to_list (c.in_ok-new.ensures ∙ ap (option_map named) (c.in_ok-names.ensures ∙ ap (option_map names_of) c.of_other_preload-row.ensures))
    ∙ preload_told (lent c.args.map.now of_workers c.args.registrations.now of_clients rest) c.args.registration c.args.map.now rest _ (c.kept_row-kept.ensures of_workers of_clients rest has)
    c.args.preloads.now.rows flags values c.args.on c.args.value.now)
    c.told.ensures
