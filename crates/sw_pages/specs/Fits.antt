-- What the tables must hold where an act is done (own).
use Rattle.std.specs.Prelude.{◌≡◌, ℕ, Bool, true, find, is_some, Some, option_and_then, option_map}
use Rattle.sw_client.specs.Table as clients
use Rattle.sw_client.specs.Table.{clients_of}
use Rattle.sw_pages.specs.declared.worked.PageAct.{PageAct}
use Rattle.sw_pages.specs.declared.worked.PageAct.TheVariants as act
use Rattle.sw_pages.specs.declared.worked.Worked.{Worked}
use Rattle.sw_queue.specs.Tables as queues
use Rattle.sw_reg.specs.Table as registrations
use Rattle.sw_reg.specs.Table.{is_there}
use Rattle.sw_rules.specs.Rows.{is_active, is_client}
use Rattle.sw_state.specs.Hosted.{Hosted}
use Rattle.sw_tables.specs.Linked.{IsNoted, registration_of}
use Rattle.sw_worker.specs.Fits.{FitsEvent}
use Rattle.sw_worker.specs.Table as workers
use Rattle.sw_worker.specs.Table.{event_at, worker_at}

-- own: each act's rows have room, and what it names is there: a client, a worker of its registration, an active one that claims, a registration, and
-- a fetch event of a worker of its registration
abbrev pub FitsPage : PageAct → workers.Table → registrations.Table → clients.Table → queues.Table → Type 0
FitsPage act.Nothing of_workers of_registrations of_clients of_jobs = Unit {0}
FitsPage (act.Open new) of_workers of_registrations of_clients of_jobs =
    clients.FitsClient new of_clients × IsNoted of_workers new
FitsPage (act.Close client) of_workers of_registrations of_clients of_jobs =
    is_some (find (is_client client) (clients_of of_clients)) ≡ true
FitsPage (act.Schedule row) of_workers of_registrations of_clients of_jobs = queues.FitsJob row of_jobs
FitsPage (act.SkipWaiting registration worker) of_workers of_registrations of_clients of_jobs =
    registration_of of_workers.rows worker ≡ Some registration
FitsPage (act.Claim registration worker) of_workers of_registrations of_clients of_jobs =
    option_map {U = ℕ × Bool} (λ row. (row.registration, is_active row.state)) (worker_at worker of_workers.rows) ≡ Some (registration, true)
FitsPage (act.Begin event) of_workers of_registrations of_clients of_jobs = FitsEvent event of_workers
FitsPage (act.End event registration) of_workers of_registrations of_clients of_jobs =
    option_and_then (λ row. registration_of of_workers.rows row.worker) (event_at event of_workers.events)
    ≡ Some registration
FitsPage (act.Preload registration on text) of_workers of_registrations of_clients of_jobs =
    is_there registration of_registrations.rows ≡ true

-- own: what was worked out may be done on a host without memory
abbrev pub FitsHost : Worked → Hosted → Type 0
FitsHost worked host = FitsPage worked.act host.workers host.registrations host.clients host.queues
