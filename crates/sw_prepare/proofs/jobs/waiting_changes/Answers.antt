use Rattle.std.proofs.Common.{List, ◌∙◌, subst, ap}
use Rattle.std.specs.Prelude.{◌≡◌, IfOk, option_map, option_to_list}
use Rattle.sw_data.specs.declared.rows.RegistrationRow.{RegistrationRow}
use Rattle.sw_data.specs.declared.storage.Change.{Change}
use Rattle.sw_data.specs.declared.storage.Change.TheVariants as change
use Rattle.sw_prepare.proofs.Ending.{waiting_told}
use Rattle.sw_rules.specs.Installing.{kept_worker}
use Rattle.sw_tables.specs.Lent.{shown_worker}
use Rattle.sw_prepare.proofs.jobs.waiting_changes.Goals as goal

pub returns : goal.returns
returns c = λ scopes of_workers of_clients rest.
    subst (λ (changes : List Change). IfOk c.told.result (λ told. told.items ≡ changes))
    (ap option_to_list (c.in_ok-new.ensures ∙ ap (option_map (λ (of : RegistrationRow). change.Waiting of.key of.scope of.mode (kept_worker (shown_worker c.args.made.now)))) c.row.ensures)
    ∙ waiting_told scopes of_workers c.args.registrations.now of_clients rest c.args.registration (shown_worker c.args.made.now))
    c.told.ensures
