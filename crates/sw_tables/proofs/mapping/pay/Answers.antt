use Rattle.std.proofs.Common.{◌∙◌, List, map, false, refl, ap, sym, subst}
use Rattle.sw_reg.specs.Edits.{with_owed}
use Rattle.sw_reg.specs.Table as registrations
use Rattle.sw_rules.specs.Rows.{is_registration}
use Rattle.sw_rules.specs.State.{Registration}
use Rattle.sw_tables.proofs.Mapped.{harmless_linked, owed_harmless}
use Rattle.sw_tables.proofs.Rows.{map_changed}
use Rattle.sw_tables.specs.Lent.{lent, shown_registration}
use Rattle.sw_tables.specs.Linked.{Linked}
use Rattle.sw_tables.proofs.mapping.pay.Goals as goal

pub returns-clause-state : goal.returns-clause-state
returns-clause-state c = λ of_workers scopes of_clients rest.
    ap (λ (rows : List Registration). record (lent scopes of_workers c.args.registrations.now of_clients rest) { registrations = rows })
    (ap (λ (t : registrations.Table). map (shown_registration scopes rest) t.rows) c.owe.ensures
    ∙ map_changed (shown_registration scopes rest) (registrations.is_registration c.args.registration) (with_owed false)
    (is_registration c.args.registration) (λ row. record row { owed = false }) (λ x. refl) (λ x. refl) c.args.registrations.now.rows)

pub returns-clause-linked : goal.returns-clause-linked
returns-clause-linked c = λ of_workers scopes of_clients linked.
    subst (λ (t : registrations.Table). Linked scopes of_workers t of_clients) (sym c.owe.ensures)
    (harmless_linked c.args.registration (with_owed false) (owed_harmless false) scopes of_workers c.args.registrations.now of_clients linked)
