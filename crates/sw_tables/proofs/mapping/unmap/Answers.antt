use Rattle.std.proofs.Common.{◌≡◌, ◌∙◌, List, Some, ap, arith}
use Rattle.sw_data.specs.declared.rows.RegistrationRow.{RegistrationRow}
use Rattle.sw_reg.specs.Table.{registration_at}
use Rattle.sw_rules.specs.Registrations as rules
use Rattle.sw_rules.specs.State.{Registration}
use Rattle.sw_scope.specs.Scopes.{Scopes, maps}
use Rattle.sw_tables.proofs.Mapped.{Forgets, unmapped_rows, unmapped_scopes}
use Rattle.sw_tables.specs.Lent.{lent}
use Rattle.sw_tables.proofs.mapping.unmap.Goals as goal
use Rattle.sw_tables.proofs.mapping.unmap.Goals.{in-Some, in_default}

-- the row of the registration, which the map has forgotten
taken : (c : goal.After-push) → (x : RegistrationRow) × (registration_at c.args.registration c.args.registrations.now.rows ≡ Some x) × Forgets c.args.map.now c.match-row.map x
taken c = elim c.match-row.branch [
  | in-Some w ↦ (w.in-Some.row.now, grind (arith, c.row.ensures, w.in-Some.is), λ key scope. ap (λ (m : Scopes). maps m key scope) w.map-is ∙ w.forget.ensures key scope)
  | in_default w ↦ absurd (grind (arith, c.row.ensures, w.in_default.is, c.requires.there))
]

pub returns-clause-did : goal.returns-clause-did
unfolding rules.unmap
returns-clause-did c = λ of_workers of_clients rest.
    let t = taken c in
    record {
      state =
          ap (λ (rows : List Registration). record (lent c.args.map.now of_workers c.args.registrations.now of_clients rest) { registrations = rows })
          (unmapped_rows c.args.map.now c.match-row.map c.args.registration c.args.registrations.now.rows t.0 c.requires.places t.1 t.2 rest);
      notices = c.push.ensures.rows;
    }

pub returns-clause-linked : goal.returns-clause-linked
returns-clause-linked c = λ of_workers of_clients linked.
    let t = taken c in
    record {
      slots = linked.slots;
      mapped = unmapped_scopes c.args.map.now c.match-row.map t.0 c.args.registrations.now t.2 linked.mapped;
      noted = linked.noted;
      known = linked.known;
    }
