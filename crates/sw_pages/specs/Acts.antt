-- What an action of a page that was worked out does to a state (own).
use Rattle.std.specs.Prelude.{◌≡◌, map, Option, Some, None}
use Rattle.sw_data.specs.declared.events.Who.{Who}
use Rattle.sw_ledgers.specs.declared.promises.Awaited.{Awaited}
use Rattle.sw_ledgers.specs.Promised.{meaning}
use Rattle.sw_rules.specs.Clients.{add_client, add_event, claim_clients, end_event, leave, skip_waiting}
use Rattle.sw_rules.specs.Jobs.{promise, schedule}
use Rattle.sw_rules.specs.Preloading.{set_preload}
use Rattle.sw_rules.specs.State.{State}
use Rattle.sw_rules.specs.Told.{Told, Outcome, followed, quiet}
use Rattle.sw_state.specs.Hosted.{Hosted, state_of}
use Rattle.sw_pages.specs.declared.worked.PageAct.{PageAct}
use Rattle.sw_pages.specs.declared.worked.PageAct.TheVariants as act
use Rattle.sw_pages.specs.declared.worked.Worked.{Worked}

-- what an act tells, and the state that it leaves
abbrev pub told_by : PageAct → State → Told
told_by act.Nothing state = quiet state
told_by (act.Open new) state = add_client state new.client
told_by (act.Close client) state = leave state client
told_by (act.Schedule row) state = schedule state row.job
told_by (act.SkipWaiting registration worker) state = skip_waiting state registration worker
told_by (act.Claim registration worker) state =
    claim_clients state worker registration (map (λ client. client.number) state.clients)
told_by (act.Begin event) state = add_event state event.number event.worker
told_by (act.End number registration) state = end_event state number registration
told_by (act.Preload registration on text) state = set_preload state registration on text

-- what follows where the promise of the action gets a value, or waits for a job
abbrev pub promised : Who → Option Awaited → Told → Told
promised who None told = told
promised who (Some awaited) told = followed told (λ after. promise after who (meaning awaited))

-- the outcome of an action that was worked out
abbrev pub outcome_of : Who → Worked → State → Outcome
outcome_of who worked state = record {
  answer = worked.answer;
  told = promised who worked.awaited (told_by worked.act state);
}

-- own: an action comes to what was worked out, whoever makes it
abbrev pub Gives : (State → Who → Outcome) → Worked → Hosted → Type 0
Gives action worked host = (who : Who) → action (state_of host) who ≡ outcome_of who worked (state_of host)

-- own: the same for an action that may not be enabled, where it is
abbrev pub MayGive : (State → Who → Option Outcome) → Worked → Hosted → Type 0
MayGive action worked host = (who : Who) → action (state_of host) who ≡ Some (outcome_of who worked (state_of host))
