use Rattle.std.proofs.Common.{◌∙◌, List, map, refl, ap, sym, subst}
use Rattle.sw_reg.specs.Edits.{with_mode}
use Rattle.sw_reg.specs.Table as registrations
use Rattle.sw_rules.specs.Registrations as rules
use Rattle.sw_rules.specs.Rows.{is_registration}
use Rattle.sw_rules.specs.State.{Registration}
use Rattle.sw_tables.proofs.Mapped.{harmless_linked, mode_harmless}
use Rattle.sw_tables.proofs.Rows.{map_changed}
use Rattle.sw_tables.specs.Lent.{lent, shown_registration}
use Rattle.sw_tables.specs.Linked.{Linked}
use Rattle.sw_tables.proofs.mapping.set_mode.Goals as goal

pub returns-clause-state : goal.returns-clause-state
unfolding rules.set_mode
returns-clause-state c = λ of_workers scopes of_clients rest.
    ap (λ (rows : List Registration). record (lent scopes of_workers c.args.registrations.now of_clients rest) { registrations = rows })
    (ap (λ (t : registrations.Table). map (shown_registration scopes rest) t.rows) c.set_mode.ensures
    ∙ map_changed (shown_registration scopes rest) (registrations.is_registration c.args.registration) (with_mode c.args.mode)
    (is_registration c.args.registration) (λ row. record row { mode = c.args.mode }) (λ x. refl) (λ x. refl) c.args.registrations.now.rows)

pub returns-clause-linked : goal.returns-clause-linked
returns-clause-linked c = λ of_workers scopes of_clients linked.
    subst (λ (t : registrations.Table). Linked scopes of_workers t of_clients) (sym c.set_mode.ensures)
    (harmless_linked c.args.registration (with_mode c.args.mode) (mode_harmless c.args.mode) scopes of_workers c.args.registrations.now of_clients linked)
