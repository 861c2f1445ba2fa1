use Rattle.std.proofs.Common.{◌≡◌, ◌++◌, ◌∷◌, [], ◌∙◌, sym, ap}
use Rattle.sw_data.specs.declared.storage.KeptRegistration.{KeptRegistration}
use Rattle.sw_rules.specs.Storage.{with_waiting}
use Rattle.sw_change.specs.Table.{kept_row}
use Rattle.sw_change.proofs.Entries.{first_added, on_ok}
use Rattle.sw_change.proofs.registrations.Registrations.set_waiting.Goals as goal

pub returns-clause-ok : goal.returns-clause-ok
returns-clause-ok c =
    let rows = c.args.self.now in
    let place = c.args.place in
    on_ok c.add.result (c.add.new.self ≡ rows ++ kept_row (place, c.in_ok-row.row) ∷ []) (c.add.new.self ≡ with_waiting place.0 place.1 c.args.mode c.args.worker rows)
    c.add.ensures.ok
    (λ added. added ∙ ap (λ (last : KeptRegistration). rows ++ last ∷ []) (c.in_ok-row.ensures place)
    ∙ first_added place c.args.mode c.args.worker rows (sym c.has.ensures ∙ c.if-has.false))
