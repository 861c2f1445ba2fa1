use Rattle.std.proofs.Common.{◌∙◌}
use Rattle.sw_data.specs.declared.workers.Slot.TheVariants as slot
use Rattle.sw_tables.proofs.Retiring.{clear_did, still_quiet}
use Rattle.sw_tables.proofs.activation.clear.Goals as goal

pub retire-requires-clause-quiet : goal.retire-requires-clause-quiet
retire-requires-clause-quiet c = c.requires.quiet slot.Installing

pub retire-requires-2-clause-quiet : goal.retire-requires-2-clause-quiet
retire-requires-2-clause-quiet c =
    still_quiet slot.Installing slot.Waiting c.args.registration _ _ _ _ (λ same. absurd cc) c.retire.ensures.vacates (c.requires.quiet slot.Waiting)

pub retire-requires-3-clause-quiet : goal.retire-requires-3-clause-quiet
retire-requires-3-clause-quiet c =
    still_quiet slot.Waiting slot.Active c.args.registration _ _ _ _ (λ same. absurd cc) c.retire-2.ensures.vacates
    (still_quiet slot.Installing slot.Active c.args.registration _ _ _ _ (λ same. absurd cc) c.retire.ensures.vacates (c.requires.quiet slot.Active))

pub returns-clause-did : goal.returns-clause-did
returns-clause-did c =
    clear_did c.args.registration c.args.workers.now c.retire.new.workers c.retire-2.new.workers c.retire-3.new.workers
    c.args.registrations.now c.retire.new.registrations c.retire-2.new.registrations c.retire-3.new.registrations
    c.args.notices.now c.retire.new.notices c.retire-2.new.notices c.retire-3.new.notices
    c.retire.ensures.did c.retire-2.ensures.did c.retire-3.ensures.did

pub returns-clause-linked : goal.returns-clause-linked
returns-clause-linked c = λ scopes of_clients linked.
    c.retire-3.ensures.linked scopes of_clients (c.retire-2.ensures.linked scopes of_clients (c.retire.ensures.linked scopes of_clients linked))

pub returns-clause-counts : goal.returns-clause-counts
returns-clause-counts c number = c.retire-3.ensures.counts number ∙ (c.retire-2.ensures.counts number ∙ c.retire.ensures.counts number)
