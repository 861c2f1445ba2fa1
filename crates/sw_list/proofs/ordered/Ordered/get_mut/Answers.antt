use Rattle.std.proofs.Common.{◌∙◌, inl, refl, sym}
use Rattle.sw_list.proofs.StampRows.{set_found, value_found, value_none}
use Rattle.sw_list.proofs.ordered.Ordered.get_mut.Goals as goal

pub returns-in-Some : goal.returns-in-Some
returns-in-Some g c =
    let entries = c.args.self.now.entries in (
      (λ i. inl (c.at_mut.result.ghost_name, λ w. record { entries = set_found entries c.args.number c.in-Some.place w (sym c.in-Some.ensures) i; spare = c.args.self.now.spare })),
      record { writes_back = tt; value = sym c.at_mut.ensures.value ∙ value_found entries c.args.number c.in-Some.place c.in-Some.ensures },
    )

pub returns-in-None : goal.returns-in-None
returns-in-None g c = (refl, record { writes_back = tt; value = sym (value_none c.args.self.now.entries c.args.number c.in-None.ensures) })
