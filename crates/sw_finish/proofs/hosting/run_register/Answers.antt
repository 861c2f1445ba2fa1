use Rattle.std.proofs.Common.{◌≡◌, ◌∙◌, Option, false, codes, length, refl, sym, subst, ap}
use Rattle.sw_finish.proofs.Fetching.{fetch_later}
use Rattle.sw_state.specs.contracts.tables.HostTables.{the_view}
use Rattle.sw_data.specs.declared.answers.Answer.{Answer}
use Rattle.sw_install.specs.Runs.{drawn_by, ran_answer, script_of}
use Rattle.sw_ledgers.specs.Preloaded.{preload_of, preload_value_of}
use Rattle.sw_rules.specs.Registering as rules
use Rattle.sw_rules.specs.State.{State}
use Rattle.sw_tables.specs.Happened.{Happened, with_jobs}
use Rattle.sw_tables.specs.Lent.{Rest, lent}
use Rattle.sw_state.specs.Hosted.{Hosted, rest_of, state_of}
use Rattle.sw_work.specs.Plans.{FitsFetch}
use Rattle.sw_finish.proofs.hosting.run_register.Goals as goal

pub returns : goal.returns
returns c =
    let host : Hosted = the_view c.host.inside in
    let new = c.run_register-done.new in
    let script = script_of c.args.job host.queues.rows in
    let fetch : FitsFetch c.args.fetch c.args.job host =
    subst (λ (h : Hosted). FitsFetch c.args.fetch c.args.job h) (sym (c.host.view_is ∙ c.first_preload.ensures.tables))
    (fetch_later c.args.fetch c.args.job c.args.host.now c.first_preload.new.host.preloads c.requires.fits.fetch) in
    let flag : preload_of host.preloads.rows (length host.registrations.rows) ≡ false =
    subst (λ (h : Hosted). preload_of h.preloads.rows (length h.registrations.rows) ≡ false) (sym c.host.view_is) c.first_preload.ensures.flag in
    let value : preload_value_of host.preloads.rows (length host.registrations.rows) ≡ codes "true" =
    subst (λ (h : Hosted). preload_value_of h.preloads.rows (length h.registrations.rows) ≡ codes "true") (sym c.host.view_is) c.first_preload.ensures.value in
    let before : state_of host ≡ state_of c.args.host.now = ap state_of c.host.view_is ∙ c.first_preload.ensures.state in
    let mid : Rest = with_jobs new.queues.rows (rest_of host) in
    let rest_is : record mid { draws = c.draw_where.new.draws.rows } ≡ drawn_by c.run_register-done.result script mid = c.draw_where.ensures script mid fetch.address refl in
    let left : Rest = record mid { draws = c.draw_where.new.draws.rows } in
    subst (λ (s : State). Happened (rules.run s c.args.job) c.ran_answer.result c.args.notices.now new.notices s
    (lent new.map new.workers new.registrations new.clients left)) before
    (subst (λ (r : Option Answer). Happened (rules.run (state_of host) c.args.job) r c.args.notices.now new.notices (state_of host)
    (lent new.map new.workers new.registrations new.clients left)) (sym c.ran_answer.ensures)
    (subst (λ (r : Rest). Happened (rules.run (state_of host) c.args.job) (ran_answer c.run_register-done.result) c.args.notices.now new.notices (state_of host)
    (lent new.map new.workers new.registrations new.clients r)) (sym rest_is)
    (c.run_register-done.ensures.did (rest_of host) fetch.number flag value)))
