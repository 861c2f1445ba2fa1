use Rattle.std.proofs.Common.{List, ℕ, ◌∙◌, ◌+◌, ◌++◌, ◌∷◌, [], sym, ap, subst, if◌then◌else◌}
use Rattle.std.specs.Prelude.{bytes_eq}
use Rattle.sw_list.specs.Tally.{count_of}
use Rattle.sw_client.specs.declared.OpenClient.{OpenClient}
use Rattle.sw_client.specs.Table.{FitsClient, Table}
use Rattle.sw_client.proofs.OfClients.{added_counted, added_rows, raised, unused}
use Rattle.sw_client.proofs.Tallying.{added_tallied}
use Rattle.sw_client.proofs.Clients.add_put.Goals as goal

pub raise-requires : goal.raise-requires
raise-requires c =
    let fits = subst (λ (table : Table). FitsClient c.row.inside.row table) (sym c.self.view_is) (subst (λ (new : OpenClient). FitsClient new c.args.self.now) (sym c.row.view_is) c.requires) in
    raised c.self.inside.rows.entries c.self.inside.counts.items _ c.row.inside.row.registration c.self.invariant.counted fits.registration fits.few

pub invariant_of-self : goal.invariant_of-self
invariant_of-self c =
    let fits = subst (λ (table : Table). FitsClient c.row.inside.row table) (sym c.self.view_is) (subst (λ (new : OpenClient). FitsClient new c.args.self.now) (sym c.row.view_is) c.requires) in
    record {
      counted = added_counted c.row.inside.row c.self.inside.rows.entries c.add.new.self.entries c.self.inside.counts.items c.raise.new.counts.items c.self.invariant.counted fits.few
          c.add.ensures.entries c.add.ensures.apart c.raise.ensures.count;
      tallied = added_tallied c.row.inside.row c.self.inside.rows.entries c.add.new.self.entries c.self.inside.keys c.add-2.new.self c.self.invariant.tallied c.add.ensures.entries
          (λ key. c.add-2.ensures.counts key ∙ ap (λ (own : List ℕ). count_of c.self.inside.keys key + (if bytes_eq own key then 1 else 0)) c.row.invariant);
    }

pub returns-clause-rows : goal.returns-clause-rows
returns-clause-rows c =
    let fits = subst (λ (table : Table). FitsClient c.row.inside.row table) (sym c.self.view_is) (subst (λ (new : OpenClient). FitsClient new c.args.self.now) (sym c.row.view_is) c.requires) in
    added_rows c.row.inside.row c.self.inside.rows.entries c.add.new.self.entries c.add.ensures.entries
    ∙ ap (λ (table : Table). table.rows ++ c.row.inside.row ∷ []) c.self.view_is ∙ ap (λ (new : OpenClient). c.args.self.now.rows ++ new ∷ []) c.row.view_is

pub add-requires-clause-fresh : goal.add-requires-clause-fresh
add-requires-clause-fresh c =
    let fits = subst (λ (table : Table). FitsClient c.row.inside.row table) (sym c.self.view_is) (subst (λ (new : OpenClient). FitsClient new c.args.self.now) (sym c.row.view_is) c.requires) in
    unused c.row.inside.row.client.number c.self.inside.rows.entries c.self.invariant.counted.keyed fits.number
