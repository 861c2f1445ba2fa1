use Rattle.sw_prepare.proofs.OnCaches.{steps}
use Rattle.sw_state.specs.Hosted.{state_of}
use Rattle.sw_prepare.proofs.lanes.work_on_caches.Goals as goal

pub returns-clause-works : goal.returns-clause-works
returns-clause-works c = record {
  means = steps (state_of c.args.host.now) c.args.event.now c.in_ok-on_caches.field-0 c.requires.caches c.requires.who c.in_ok-on_caches.ensures.agrees;
  fits = c.in_ok-on_caches.ensures.fits;
}
