use Rattle.std.proofs.Common.{ℕ, refl, sym, subst}
use Rattle.sw_data.specs.declared.answers.Settlement.TheVariants as settlement
use Rattle.sw_data.specs.declared.workers.Mode.{Mode}
use Rattle.sw_data.specs.declared.workers.Slot.TheVariants as in_place
use Rattle.sw_install.proofs.Standing.{stays_empty}
use Rattle.sw_rules.specs.Installing as rules
use Rattle.sw_rules.specs.Jobs.{settle}
use Rattle.sw_rules.specs.Noticing.{Did}
use Rattle.sw_rules.specs.Registrations.{set_mode}
use Rattle.sw_rules.specs.State.{State}
use Rattle.sw_rules.specs.Told.{Told, followed}
use Rattle.sw_tables.proofs.Chain.{did_quietly, did_then}
use Rattle.sw_tables.specs.Happened.{with_jobs}
use Rattle.sw_tables.specs.Lent.{lent}
use Rattle.sw_install.proofs.evaluation.install.Goals as goal

pub begin_install-requires-clause-slots : goal.begin_install-requires-clause-slots
begin_install-requires-clause-slots c = (c.set_mode.ensures.linked c.args.workers.now c.args.map.now c.args.clients.now c.requires.linked).slots

pub begin_install-requires-clause-empty : goal.begin_install-requires-clause-empty
begin_install-requires-clause-empty c =
    stays_empty c.args.workers.now c.args.registrations.now c.set_mode.new.registrations c.requires.linked.slots (c.set_mode.ensures.linked c.args.workers.now c.args.map.now c.args.clients.now c.requires.linked).slots
    in_place.Installing c.args.registration c.requires.empty

pub returns-clause-did : goal.returns-clause-did
unfolding rules.install rules.tell_update set_mode
returns-clause-did c = λ rest of_job number mode.
    let old = c.args.queues.now.rows in
    let jobs = c.begin_install.new.queues.rows in
    let first : State = lent c.args.map.now c.args.workers.now c.args.registrations.now c.args.clients.now (with_jobs old rest) in
    let second : State = lent c.args.map.now c.args.workers.now c.set_mode.new.registrations c.args.clients.now (with_jobs old rest) in
    let third : State = lent c.args.map.now c.begin_install.new.workers c.begin_install.new.registrations c.args.clients.now (with_jobs jobs rest) in
    let last : State = lent c.args.map.now c.begin_install.new.workers c.begin_install.new.registrations c.args.clients.now (with_jobs c.settle.new.queues.rows rest) in
    let told_last : ℕ → State → Told = λ n begun.
    followed (settle begun n (settlement.Registration c.args.registration)) (λ settled. rules.tell_update settled c.args.registration) in
    let told_third : ℕ → State → Told = λ n s.
    followed (rules.begin_install s n c.args.registration c.args.worker) (told_last n) in
    let told : ℕ → Mode → Told = λ n m. followed (set_mode first c.args.registration m) (told_third n) in
    let did : Did (told c.args.job c.args.mode) c.args.notices.now c.push.new.self last =
    did_then (set_mode first c.args.registration c.args.mode) (told_third c.args.job) c.args.notices.now c.args.notices.now c.push.new.self second last
    (did_quietly (set_mode first c.args.registration c.args.mode) c.args.notices.now second refl
    (c.set_mode.ensures.state c.args.workers.now c.args.map.now c.args.clients.now (with_jobs old rest)))
    (did_then (rules.begin_install second c.args.job c.args.registration c.args.worker) (told_last c.args.job) c.args.notices.now c.begin_install.new.notices c.push.new.self third last
    (c.begin_install.ensures.did c.args.map.now c.args.clients.now rest)
    (did_then (settle third c.args.job (settlement.Registration c.args.registration)) (λ settled. rules.tell_update settled c.args.registration) c.begin_install.new.notices c.settle.new.notices c.push.new.self last last
    (c.settle.ensures.did c.args.map.now c.begin_install.new.workers c.begin_install.new.registrations c.args.clients.now rest)
    (record { state = refl; notices = c.push.ensures.rows }))) in
    subst (λ (n : ℕ). Did (told n of_job.mode) c.args.notices.now c.push.new.self last) (sym number)
    (subst (λ (m : Mode). Did (told c.args.job m) c.args.notices.now c.push.new.self last) (sym mode) did)

pub returns-clause-linked : goal.returns-clause-linked
returns-clause-linked c = c.begin_install.ensures.linked c.args.map.now c.args.clients.now (c.set_mode.ensures.linked c.args.workers.now c.args.map.now c.args.clients.now c.requires.linked)
