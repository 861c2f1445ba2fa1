use Rattle.std.proofs.Common.{refl, sym, ap, subst}
use Rattle.sw_rules.specs.Noticing.{Did}
use Rattle.sw_rules.specs.Preloading.{set_preload}
use Rattle.sw_tables.proofs.Chain.{did_quietly}
use Rattle.sw_state.specs.Hosted.{Hosted, state_of}
use Rattle.sw_work.specs.Plans.{told_by_act, told_by_caches}
use Rattle.sw_work.specs.declared.plan.Act.{Act}
use Rattle.sw_finish.proofs.acts.do_act.Goals as goal

pub returns-in-Preload-clause-did : goal.returns-in-Preload-clause-did
unfolding set_preload
returns-in-Preload-clause-did c =
    subst (λ (a : Act). Did (told_by_act a (state_of c.args.host.now)) c.args.notices.now c.args.notices.now (state_of c.set_preload.new.host)) (sym c.in-Preload.is)
    (did_quietly (set_preload (state_of c.args.host.now) c.in-Preload.row.registration c.in-Preload.row.on c.in-Preload.row.value) c.args.notices.now (state_of c.set_preload.new.host) refl c.set_preload.ensures.state)

pub returns-in-Caches-clause-did : goal.returns-in-Caches-clause-did
returns-in-Caches-clause-did c =
    subst (λ (a : Act). Did (told_by_act a (state_of c.args.host.now)) c.args.notices.now c.args.notices.now (state_of c.act_on_caches.new.host)) (sym c.in-Caches.is)
    (did_quietly (told_by_caches c.in-Caches.act c.in-Caches.changes (state_of c.args.host.now)) c.args.notices.now (state_of c.act_on_caches.new.host) refl (c.act_on_caches.ensures.state c.in-Caches.changes))

pub returns-clause-promises : goal.returns-clause-promises
returns-clause-promises c = ap (λ (h : Hosted). h.promises) c.forget.ensures.others
