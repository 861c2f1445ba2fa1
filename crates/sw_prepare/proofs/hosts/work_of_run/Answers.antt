use Rattle.std.proofs.Common.{refl}
use Rattle.sw_state.proofs.Same.{same_joined}
use Rattle.sw_prepare.proofs.hosts.work_of_run.Goals as goal

pub invariant_of-host : goal.invariant_of-host
invariant_of-host c =
    same_joined _ _
    (record {
      scopes = c.run_work.ensures.scopes;
      jobs = refl;
      workers = refl;
      events = refl;
      registrations = c.run_work.ensures.registrations;
      clients = c.run_work.ensures.clients;
      known = c.run_work.ensures.known;
      caches = refl;
      preloads = c.run_work.ensures.preloads;
      promises = refl;
      tasks = refl;
      draws = c.run_work.ensures.draws;
    })
    c.host.invariant
