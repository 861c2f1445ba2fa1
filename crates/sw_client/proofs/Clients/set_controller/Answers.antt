use Rattle.std.proofs.Common.{◌∙◌, ◌<◌, nat_eq, Some, sym, ap, refl, subst}
use Rattle.std.specs.Map.{set_value}
use Rattle.std.specs.Option.{option_copied_mut}
use Rattle.sw_rules.specs.Rows.{changed, is_client}
use Rattle.sw_client.specs.declared.OpenClient.{OpenClient}
use Rattle.sw_client.specs.Table.{Table, clients_of, controlled_by, is_open}
use Rattle.sw_client.proofs.OfClients.{absent, given_clients, given_counted, given_rows, lowered, present, raised_again}
use Rattle.sw_client.proofs.Tallying.{given_tallied}
use Rattle.sw_client.proofs.Clients.set_controller.Goals as goal

pub returns-in_default-clause-none : goal.returns-in_default-clause-none
returns-in_default-clause-none c =
    let none = absent c.args.number c.self.inside.rows.entries c.self.invariant.counted.keyed (sym c.get_mut.ensures.value ∙ ap option_copied_mut c.in_default.is) in
    (λ is. rw (← c.self.view_is) none, λ is. refl)

pub exchange-requires-clause-from : goal.exchange-requires-clause-from
exchange-requires-clause-from c = lowered c.args.number c.self.inside.rows.entries c.self.inside.counts.items c.in-Some.row.now c.self.invariant.counted (sym c.get_mut.ensures.value ∙ ap option_copied_mut c.in-Some.is)

pub exchange-requires-clause-to : goal.exchange-requires-clause-to
exchange-requires-clause-to c =
    let there = sym c.get_mut.ensures.value ∙ ap option_copied_mut c.in-Some.is in (
      subst (λ (table : Table). c.args.controller.1 < table.known) (sym c.self.view_is) c.requires,
      raised_again c.args.number c.args.controller.1 c.self.inside.rows.entries c.self.inside.counts.items c.in-Some.row.now c.self.invariant.counted there,
    )

pub invariant_of-self-2 : goal.invariant_of-self-2
invariant_of-self-2 c =
    let there = sym c.get_mut.ensures.value ∙ ap option_copied_mut c.in-Some.is in
    let after = set_value (nat_eq c.args.number) c.self.inside.rows.entries c.give.new.row in
    let is = ap (λ (row : OpenClient). set_value (nat_eq c.args.number) c.self.inside.rows.entries row) c.give.ensures in
    record {
      counted = given_counted c.args.number (controlled_by c.args.controller) c.self.inside.rows.entries after c.self.inside.counts.items c.exchange.new.counts.items c.in-Some.row.now (λ _. refl) c.self.invariant.counted there
          is c.exchange.ensures.count;
      tallied = given_tallied c.args.number (controlled_by c.args.controller) c.self.inside.rows.entries after c.self.inside.counts.items c.self.inside.keys c.in-Some.row.now (λ _. refl) (λ _. refl)
          c.self.invariant.counted c.self.invariant.tallied there is;
    }

pub returns-clause-none : goal.returns-clause-none
returns-clause-none c =
    let there = present c.args.number c.self.inside.rows.entries c.in-Some.row.now c.self.invariant.counted.keyed (sym c.get_mut.ensures.value ∙ ap option_copied_mut c.in-Some.is) in
    rw (← c.self.view_is) (λ is. cc, λ is. cc)

pub returns-clause-rows : goal.returns-clause-rows
returns-clause-rows c =
    let there = sym c.get_mut.ensures.value ∙ ap option_copied_mut c.in-Some.is in
    let rows = given_rows c.args.number (controlled_by c.args.controller) c.self.inside.rows.entries (set_value (nat_eq c.args.number) c.self.inside.rows.entries c.give.new.row) c.in-Some.row.now (λ _. refl) c.self.invariant.counted.keyed there
    (ap (λ (row : OpenClient). set_value (nat_eq c.args.number) c.self.inside.rows.entries row) c.give.ensures)
    ∙ ap (λ (table : Table). changed (is_open c.args.number) (controlled_by c.args.controller) table.rows) c.self.view_is in
    let known = c.exchange.ensures.len ∙ ap (λ (table : Table). table.known) c.self.view_is in
    let spare = ap (λ (table : Table). table.spare) c.self.view_is in
    λ i. record { rows = rows i; known = known i; spare = spare i }

pub returns-clause-clients : goal.returns-clause-clients
returns-clause-clients c =
    let there = sym c.get_mut.ensures.value ∙ ap option_copied_mut c.in-Some.is in
    given_clients c.args.number c.args.controller c.self.inside.rows.entries (set_value (nat_eq c.args.number) c.self.inside.rows.entries c.give.new.row) c.in-Some.row.now c.self.invariant.counted.keyed there
    (ap (λ (row : OpenClient). set_value (nat_eq c.args.number) c.self.inside.rows.entries row) c.give.ensures)
    ∙ ap (λ (table : Table). changed (is_client c.args.number) (λ client. record client { controller = Some c.args.controller.0 }) (clients_of table)) c.self.view_is
