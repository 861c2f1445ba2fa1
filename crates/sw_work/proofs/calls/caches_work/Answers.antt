-- The work of a call on caches.
use Rattle.sw_rules.specs.Calls.{called}
use Rattle.sw_tables.specs.Lent.{shown_worker}
use Rattle.sw_state.specs.Hosted.{state_of}
use Rattle.sw_work.proofs.Calling.{host_left}
use Rattle.sw_work.proofs.calls.caches_work.Goals as goal

pub returns-clause-fits : goal.returns-clause-fits
returns-clause-fits c host there =
    c.cache_work.ensures.fits (record host { caches = c.on_caches.new.caches }) c.in_ok-step.ensures.fits
    (host_left host c.args.row.now there c.requires.left)

pub returns-clause-means : goal.returns-clause-means
returns-clause-means c host by in_phase =
    let state = state_of (record host { caches = c.args.caches.now }) in
    c.cache_work.ensures.means (record host { caches = c.args.caches.now })
    (called state by (shown_worker c.args.row.now) in_phase c.args.of.now.key c.args.call.now)
    (c.in_ok-step.ensures.step by in_phase state)
