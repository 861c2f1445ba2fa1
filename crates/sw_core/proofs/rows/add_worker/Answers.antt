use Rattle.std.proofs.Common.{◌≡◌, ◌∙◌, ◌++◌, ◌∷◌, [], None, length, refl, ap}
use Rattle.sw_core.proofs.LastRows.{new_fresh, raised_last, table_is}
use Rattle.sw_rules.specs.Restart.{no_handlers}
use Rattle.sw_worker.specs.Edits.{new_worker}
use Rattle.sw_worker.specs.Table as workers
use Rattle.sw_core.proofs.rows.add_worker.Goals as goal

pub raise-requires : goal.raise-requires
raise-requires c =
    let old = c.args.workers.now in
    let kept = c.args.kept in
    let made : c.make.new.self.rows ≡ old.rows ++ new_worker (length old.rows) c.args.registration kept.script kept.kind kept.body None no_handlers ∷ [] =
    cc (c.in_ok-number.ensures.made, c.no_handlers-handlers.ensures) in
    new_fresh old.rows c.make.new.self.rows c.in_ok-number.number (length old.rows) c.args.registration kept c.requires refl c.in_ok-number.ensures.number made

pub returns-clause-made : goal.returns-clause-made
returns-clause-made c =
    let old = c.args.workers.now in
    let kept = c.args.kept in
    let made : c.make.new.self.rows ≡ old.rows ++ new_worker (length old.rows) c.args.registration kept.script kept.kind kept.body None no_handlers ∷ [] =
    cc (c.in_ok-number.ensures.made, c.no_handlers-handlers.ensures) in
    let rows = raised_last old.rows c.make.new.self.rows c.in_ok-number.number (length old.rows) c.args.registration kept c.args.activated c.requires refl c.in_ok-number.ensures.number made in
    table_is c.raise.new.workers _ _ _
    (ap (λ (t : workers.Table). t.rows) c.raise.ensures ∙ rows)
    (ap (λ (t : workers.Table). t.events) c.raise.ensures ∙ ap (λ (t : workers.Table). t.events) c.in_ok-number.ensures.same)
    (ap (λ (t : workers.Table). t.spare_events) c.raise.ensures ∙ ap (λ (t : workers.Table). t.spare_events) c.in_ok-number.ensures.same)
