use Rattle.std.proofs.Common.{◌∙◌, sym, ap, refl}
use Rattle.std.specs.Option.{option_copied}
use Rattle.sw_rules.specs.Rows.{is_client, without}
use Rattle.sw_client.specs.Table.{Table, clients_of, is_open}
use Rattle.sw_client.proofs.OfClients.{absent, lowered, present, removed_clients, removed_counted, removed_rows}
use Rattle.sw_client.proofs.Tallying.{removed_tallied}
use Rattle.sw_client.proofs.Clients.remove.Goals as goal

pub returns-in_default-clause-none : goal.returns-in_default-clause-none
returns-in_default-clause-none c =
    let none = absent c.args.number c.self.inside.rows.entries c.self.invariant.counted.keyed (sym c.get.ensures ∙ ap option_copied c.in_default.is) in
    (λ is. rw (← c.self.view_is) none, λ is. refl)

pub lower-requires : goal.lower-requires
lower-requires c = lowered c.args.number c.self.inside.rows.entries c.self.inside.counts.items c.in-Some.gone.now c.self.invariant.counted (sym c.get.ensures ∙ ap option_copied c.in-Some.is)

pub invariant_of-self : goal.invariant_of-self
invariant_of-self c =
    let there = sym c.get.ensures ∙ ap option_copied c.in-Some.is in
    record {
      counted = removed_counted c.args.number c.self.inside.rows.entries c.remove.new.self.entries c.self.inside.counts.items c.lower.new.counts.items c.in-Some.gone.now c.self.invariant.counted there
          c.remove.ensures.entries c.remove.ensures.apart c.lower.ensures.count;
      tallied = removed_tallied c.args.number c.self.inside.rows.entries c.remove.new.self.entries c.self.inside.counts.items c.self.inside.keys c.take.new.self c.in-Some.gone.now
          c.self.invariant.counted c.self.invariant.tallied there c.remove.ensures.entries c.take.ensures.counts;
    }

pub returns-clause-none : goal.returns-clause-none
returns-clause-none c =
    let there = present c.args.number c.self.inside.rows.entries c.in-Some.gone.now c.self.invariant.counted.keyed (sym c.get.ensures ∙ ap option_copied c.in-Some.is) in
    rw (← c.self.view_is) (λ is. cc, λ is. cc)

pub returns-clause-rows : goal.returns-clause-rows
returns-clause-rows c =
    removed_rows c.args.number c.self.inside.rows.entries c.remove.new.self.entries c.self.invariant.counted.keyed c.remove.ensures.entries
    ∙ ap (λ (table : Table). without (is_open c.args.number) table.rows) c.self.view_is

pub returns-clause-clients : goal.returns-clause-clients
returns-clause-clients c =
    removed_clients c.args.number c.self.inside.rows.entries c.remove.new.self.entries c.self.invariant.counted.keyed c.remove.ensures.entries
    ∙ ap (λ (table : Table). without (is_client c.args.number) (clients_of table)) c.self.view_is
