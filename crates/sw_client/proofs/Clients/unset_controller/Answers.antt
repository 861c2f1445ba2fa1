use Rattle.std.proofs.Common.{◌≡◌, ◌≤◌, ◌∙◌, List, None, find, nat_eq, sym, ap, refl, subst, arith}
use Rattle.std.specs.Map.{set_value}
use Rattle.std.specs.Option.{option_copied_mut}
use Rattle.sw_rules.specs.Rows.{changed}
use Rattle.sw_client.specs.declared.OpenClient.{OpenClient}
use Rattle.sw_client.specs.Table.{Table, is_open, uncontrolled, users_of}
use Rattle.sw_client.proofs.OfClients.{found_by, given_counted, given_rows, lowered, released_users, unchanged}
use Rattle.sw_client.proofs.Tallying.{given_tallied}
use Rattle.sw_client.proofs.Clients.unset_controller.Goals as goal

pub returns-in_default-clause-rows : goal.returns-in_default-clause-rows
returns-in_default-clause-rows c =
    let none : find (is_open c.args.number) c.args.self.now.rows ≡ None =
    ap (λ (table : Table). find (is_open c.args.number) table.rows) (sym c.self.view_is)
    ∙ sym (found_by c.args.number c.self.inside.rows.entries c.self.invariant.counted.keyed) ∙ sym c.get_mut.ensures.value ∙ ap option_copied_mut c.in_default.is in
    let same = unchanged c.args.number uncontrolled c.args.self.now.rows none in
    c.self.view_is ∙ (λ i. record { rows = sym same i; known = c.args.self.now.known; spare = c.args.self.now.spare })

pub lower-requires : goal.lower-requires
lower-requires c = lowered c.args.number c.self.inside.rows.entries c.self.inside.counts.items c.in-Some.row.now c.self.invariant.counted (sym c.get_mut.ensures.value ∙ ap option_copied_mut c.in-Some.is)

pub invariant_of-self-2 : goal.invariant_of-self-2
invariant_of-self-2 c =
    let there = sym c.get_mut.ensures.value ∙ ap option_copied_mut c.in-Some.is in
    let after = set_value (nat_eq c.args.number) c.self.inside.rows.entries c.release.new.row in
    let is = ap (λ (row : OpenClient). set_value (nat_eq c.args.number) c.self.inside.rows.entries row) c.release.ensures in
    record {
      counted = given_counted c.args.number uncontrolled c.self.inside.rows.entries after c.self.inside.counts.items c.lower.new.counts.items c.in-Some.row.now (λ _. refl) c.self.invariant.counted there
          is (λ r. omega (arith, c.lower.ensures.count r));
      tallied = given_tallied c.args.number uncontrolled c.self.inside.rows.entries after c.self.inside.counts.items c.self.inside.keys c.in-Some.row.now (λ _. refl) (λ _. refl)
          c.self.invariant.counted c.self.invariant.tallied there is;
    }

pub returns-clause-rows : goal.returns-clause-rows
returns-clause-rows c =
    let there = sym c.get_mut.ensures.value ∙ ap option_copied_mut c.in-Some.is in
    let rows = given_rows c.args.number uncontrolled c.self.inside.rows.entries (set_value (nat_eq c.args.number) c.self.inside.rows.entries c.release.new.row) c.in-Some.row.now (λ _. refl) c.self.invariant.counted.keyed there
    (ap (λ (row : OpenClient). set_value (nat_eq c.args.number) c.self.inside.rows.entries row) c.release.ensures)
    ∙ ap (λ (table : Table). changed (is_open c.args.number) uncontrolled table.rows) c.self.view_is in
    let known = c.lower.ensures.len ∙ ap (λ (table : Table). table.known) c.self.view_is in
    let spare = ap (λ (table : Table). table.spare) c.self.view_is in
    λ i. record { rows = rows i; known = known i; spare = spare i }

pub returns-clause-users : goal.returns-clause-users
returns-clause-users c =
    let rows = ap (λ (table : Table). table.rows) (returns-clause-rows c) in
    λ r. subst (λ (rows : List OpenClient). users_of r rows ≤ users_of r c.args.self.now.rows) (sym rows) (released_users c.args.number r c.args.self.now.rows)
