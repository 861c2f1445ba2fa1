use Rattle.std.proofs.Common.{◌∙◌, refl}
use Rattle.sw_data.specs.declared.workers.Slot.TheVariants as slot
use Rattle.sw_tables.proofs.Counting.{counts_nothing, waiting_counts}
use Rattle.sw_tables.proofs.TakeOver.{activate_did, is_there, noted_still, over_linked}
use Rattle.sw_tables.proofs.Waiting.{waiting}
use Rattle.sw_tables.specs.Shifts.{activating}
use Rattle.sw_tables.proofs.activation.activate.Goals as goal

pub retire-requires-clause-there : goal.retire-requires-clause-there
retire-requires-clause-there c = is_there c.args.registration c.args.worker c.args.workers.now c.args.registrations.now c.requires.slots c.requires.waiting

pub replace-requires-clause-waiting : goal.replace-requires-clause-waiting
replace-requires-clause-waiting c = c.retire.ensures.vacates.others slot.Waiting (λ same. absurd cc) ∙ c.requires.waiting

pub replace-requires-clause-empty : goal.replace-requires-clause-empty
replace-requires-clause-empty c = c.retire.ensures.vacates.empty

pub returns-clause-did : goal.returns-clause-did
returns-clause-did c scopes rest =
    activate_did c.args.registration c.args.worker c.args.workers.now c.retire.new.workers c.replace.new.workers
    c.args.registrations.now c.retire.new.registrations c.replace.new.registrations c.args.clients.now c.take_over.new.self c.retire.ensures.slots
    (noted_still slot.Active c.args.registration _ _ _ _ c.retire.ensures.vacates c.args.clients.now.rows c.requires.noted)
    c.replace.ensures.workers c.replace.ensures.registrations c.take_over.ensures.rows scopes rest
    c.args.notices.now c.retire.new.notices c.replace.new.notices c.take_over.new.notices c.retire.ensures.did c.replace.ensures.told c.take_over.ensures.told

pub returns-clause-linked : goal.returns-clause-linked
returns-clause-linked c scopes linked =
    over_linked c.args.registration c.args.worker c.retire.new.workers c.retire.new.registrations c.retire.ensures.slots
    (c.retire.ensures.vacates.others slot.Waiting (λ same. absurd cc) ∙ c.requires.waiting) c.retire.ensures.vacates.empty
    c.replace.new.workers c.replace.new.registrations c.replace.ensures.workers c.replace.ensures.registrations
    c.args.clients.now c.take_over.new.self c.take_over.ensures.rows scopes (c.retire.ensures.linked scopes c.args.clients.now linked)

pub returns-clause-counts : goal.returns-clause-counts
returns-clause-counts c number =
    let waits = c.retire.ensures.vacates.others slot.Waiting (λ same. absurd cc) ∙ c.requires.waiting in
    let row = waiting c.args.registration c.args.worker c.retire.new.workers c.retire.new.registrations c.retire.ensures.slots waits in
    counts_nothing c.args.worker activating (λ x. refl) (λ x. refl) c.retire.new.workers c.replace.new.workers c.replace.ensures.workers
    (waiting_counts c.args.registration c.args.worker row.0 c.retire.new.workers row.1) number
    ∙ c.retire.ensures.counts number
