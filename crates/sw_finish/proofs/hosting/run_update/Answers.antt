use Rattle.std.proofs.Common.{◌≡◌, Option, refl, sym, subst}
use Rattle.sw_state.specs.contracts.tables.HostTables.{the_view}
use Rattle.sw_data.specs.declared.answers.Answer.{Answer}
use Rattle.sw_install.specs.Runs.{drawn_by, ran_answer, script_of}
use Rattle.sw_rules.specs.Registering as rules
use Rattle.sw_tables.specs.Happened.{Happened, with_jobs}
use Rattle.sw_tables.specs.Lent.{Rest, lent}
use Rattle.sw_state.specs.Hosted.{Hosted, rest_of, state_of}
use Rattle.sw_work.specs.Plans.{FitsUpdate}
use Rattle.sw_finish.proofs.hosting.run_update.Goals as goal

pub returns : goal.returns
returns c =
    let host : Hosted = the_view c.host.inside in
    let new = c.run_update-done.new in
    let script = script_of c.args.job host.queues.rows in
    let fits : FitsUpdate c.args.job c.args.fetch host = subst (λ (h : Hosted). FitsUpdate c.args.job c.args.fetch h) (sym c.host.view_is) c.requires.fits in
    let mid : Rest = with_jobs new.queues.rows (rest_of host) in
    let rest_is : record mid { draws = c.draw_where.new.draws.rows } ≡ drawn_by c.run_update-done.result script mid = c.draw_where.ensures script mid fits.fetch.address refl in
    let left : Rest = record mid { draws = c.draw_where.new.draws.rows } in
    subst (λ (h : Hosted). Happened (rules.run (state_of h) c.args.job) c.ran_answer.result c.args.notices.now new.notices (state_of h)
    (lent new.map new.workers new.registrations new.clients left)) c.host.view_is
    (subst (λ (r : Option Answer). Happened (rules.run (state_of host) c.args.job) r c.args.notices.now new.notices (state_of host)
    (lent new.map new.workers new.registrations new.clients left)) (sym c.ran_answer.ensures)
    (subst (λ (r : Rest). Happened (rules.run (state_of host) c.args.job) (ran_answer c.run_update-done.result) c.args.notices.now new.notices (state_of host)
    (lent new.map new.workers new.registrations new.clients r)) (sym rest_is)
    (c.run_update-done.ensures.did (rest_of host) fits.fetch.number)))
