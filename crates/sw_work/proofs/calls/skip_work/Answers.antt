-- The work of skipping the waiting.
use Rattle.std.proofs.Common.{sym, subst}
use Rattle.sw_rules.specs.Calls.{noted}
use Rattle.sw_rules.specs.Told.{Outcome}
use Rattle.sw_state.specs.Hosted.{state_of}
use Rattle.sw_work.specs.Plans.{Means}
use Rattle.sw_work.proofs.Calling.{skip_fits}
use Rattle.sw_work.proofs.calls.skip_work.Goals as goal

pub returns-clause-fits : goal.returns-clause-fits
returns-clause-fits c host sound there =
    c.page_work.ensures.fits host
    (skip_fits host c.args.row.now there c.requires.left c.skip_waiting_of.result.act c.skip_waiting_of.ensures.act sound)

pub returns-clause-means : goal.returns-clause-means
returns-clause-means c host by in_phase key is =
    subst (λ (o : Outcome). Means c.page_work.result host (noted o c.args.row.now.number))
    (sym (c.skip_waiting_of.ensures.outcome (state_of host) by)) (c.page_work.ensures.means host by is)
