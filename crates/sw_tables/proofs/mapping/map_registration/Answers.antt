use Rattle.std.proofs.Common.{◌≡◌, ◌∙◌, ◌++◌, ◌∷◌, [], ℕ, List, ap, sym}
use Rattle.std.proofs.lemmas.List.{length-map}
use Rattle.sw_data.specs.declared.answers.Notice.TheVariants as notice
use Rattle.sw_reg.specs.Table as registrations
use Rattle.sw_rules.specs.Registrations as rules
use Rattle.sw_rules.specs.State.{Registration}
use Rattle.sw_tables.proofs.Mapped.{made_linked, made_rows}
use Rattle.sw_tables.specs.Lent.{lent, shown_registration}
use Rattle.sw_tables.proofs.mapping.map_registration.Goals as goal

pub returns-clause-did : goal.returns-clause-did
unfolding rules.map_registration
returns-clause-did c = λ of_workers rest job preload value key text mode.
    let r = c.requires in
    let rows : c.make_put-number.new.self.rows ≡ c.args.registrations.now.rows ++ c.args.row ∷ [] = ap (λ (t : registrations.Table). t.rows) c.make_put-number.ensures.put in
    record {
      state =
          ap (λ (rows : List Registration). record (lent c.args.map.now of_workers c.args.registrations.now c.args.clients.now rest) { registrations = rows })
          (made_rows c.args.map.now c.set_put.new.self c.args.scope c.args.row c.args.registrations.now c.make_put-number.new.self
          r.places c.set_put.ensures.put rows r.fits.number r.new r.key r.scope r.same r.unmapped rest job preload value key text mode);
      notices =
          c.push.ensures.rows
          ∙ ap (λ (n : ℕ). c.args.notices.now.rows ++ notice.Mapped n ∷ [])
          (c.make_put-number.ensures.number ∙ sym (length-map c.args.registrations.now.rows (shown_registration c.args.map.now rest)));
    }

pub returns-clause-linked : goal.returns-clause-linked
returns-clause-linked c = λ of_workers linked.
    let r = c.requires in
    let rows : c.make_put-number.new.self.rows ≡ c.args.registrations.now.rows ++ c.args.row ∷ [] = ap (λ (t : registrations.Table). t.rows) c.make_put-number.ensures.put in
    made_linked c.args.map.now c.set_put.new.self c.args.scope c.args.row c.args.registrations.now c.make_put-number.new.self
    r.places c.set_put.ensures.put rows r.fits.number r.new r.key r.scope r.same r.unmapped of_workers c.args.clients.now r.known linked
