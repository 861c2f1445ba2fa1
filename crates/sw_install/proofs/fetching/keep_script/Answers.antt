use Rattle.std.proofs.Common.{ℕ, refl, sym, subst}
use Rattle.sw_data.specs.declared.answers.Settlement.TheVariants as settlement
use Rattle.sw_data.specs.declared.workers.Mode.{Mode}
use Rattle.sw_rules.specs.Installing as rules
use Rattle.sw_rules.specs.Jobs.{resolve_and_finish}
use Rattle.sw_rules.specs.Noticing.{Did}
use Rattle.sw_rules.specs.Registrations.{set_mode}
use Rattle.sw_rules.specs.State.{State}
use Rattle.sw_rules.specs.Told.{Told, followed}
use Rattle.sw_tables.proofs.Chain.{did_quietly, did_then}
use Rattle.sw_tables.specs.Happened.{with_jobs}
use Rattle.sw_tables.specs.Lent.{lent}
use Rattle.sw_install.proofs.fetching.keep_script.Goals as goal

pub returns-clause-did : goal.returns-clause-did
unfolding rules.keep_script set_mode
returns-clause-did c = λ rest of_job number mode.
    let old = c.args.queues.now.rows in
    let after = c.resolve_and_finish.new.notices in
    let first : State = lent c.args.map.now c.args.workers.now c.args.registrations.now c.args.clients.now (with_jobs old rest) in
    let second : State = lent c.args.map.now c.args.workers.now c.set_mode.new.registrations c.args.clients.now (with_jobs old rest) in
    let last : State = lent c.args.map.now c.args.workers.now c.set_mode.new.registrations c.args.clients.now (with_jobs c.resolve_and_finish.new.queues.rows rest) in
    let told_second : ℕ → State → Told = λ n moded. resolve_and_finish moded n (settlement.Registration c.args.registration) in
    let told : ℕ → Mode → Told = λ n m. followed (set_mode first c.args.registration m) (told_second n) in
    let did : Did (told c.args.job c.args.mode) c.args.notices.now after last =
    did_then (set_mode first c.args.registration c.args.mode) (told_second c.args.job) c.args.notices.now c.args.notices.now after second last
    (did_quietly (set_mode first c.args.registration c.args.mode) c.args.notices.now second refl
    (c.set_mode.ensures.state c.args.workers.now c.args.map.now c.args.clients.now (with_jobs old rest)))
    (c.resolve_and_finish.ensures.did c.args.map.now c.args.workers.now c.set_mode.new.registrations c.args.clients.now rest) in
    subst (λ (n : ℕ). Did (told n of_job.mode) c.args.notices.now after last) (sym number)
    (subst (λ (m : Mode). Did (told c.args.job m) c.args.notices.now after last) (sym mode) did)

pub returns-clause-linked : goal.returns-clause-linked
returns-clause-linked c = c.set_mode.ensures.linked c.args.workers.now c.args.map.now c.args.clients.now c.requires.linked
