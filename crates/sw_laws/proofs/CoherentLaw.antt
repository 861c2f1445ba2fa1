-- Each event keeps a state coherent.
use Rattle.std.proofs.Common.{true, List, [], ◌∷◌, Option, Some, None, IfSome, refl}
use Rattle.std.specs.Option.{option_map_or}
use Rattle.sw_data.specs.declared.events.Event.{Event}
use Rattle.sw_data.specs.declared.histories.Entry.{Entry}
use Rattle.sw_rules.specs.History.{after_entries, moved}
use Rattle.sw_rules.specs.State.{State}
use Rattle.sw_rules.specs.Step.{state_after, step}
use Rattle.sw_rules.specs.Told.{Outcome, followed}
use Rattle.sw_laws.specs.Coherent.{Coherent}
use Rattle.sw_laws.proofs.BeginSteps.{begin-coherent}
use Rattle.sw_laws.proofs.ClaimSteps.{StaysCoherent, claim-coherent, leave-coherent, rechecks_coherently}
use Rattle.sw_laws.proofs.Events.{step-law}
use Rattle.sw_laws.proofs.FetchSteps.{fetch_script-coherent}
use Rattle.sw_laws.proofs.ForgetSteps.{forget-coherent}
use Rattle.sw_laws.proofs.HandlerSteps.{activated_from}
use Rattle.sw_laws.proofs.InstallSteps.{fail_install-coherent, finish_install-coherent, throw-coherent}
use Rattle.sw_laws.proofs.JobSteps.{finish-coherent, settle-coherent}
use Rattle.sw_laws.proofs.MakeSteps.{make_worker-coherent}
use Rattle.sw_laws.proofs.RegistrationSteps.{map_registration-coherent, paid-coherent, set_mode-coherent, set_preload-coherent, unmap-coherent}
use Rattle.sw_laws.proofs.RowSteps.{add_cache-coherent, add_client-coherent, add_event-coherent, add_task-coherent, carry_out-coherent, drop_cache-coherent, promise-coherent, remove_event-coherent}
use Rattle.sw_laws.proofs.ScheduleSteps.{schedule-coherent}
use Rattle.sw_laws.proofs.Split.{IsLaw}
use Rattle.sw_laws.proofs.WorkerSteps.{flagged-coherent, note_call-coherent, settle_task-coherent}

pub coherent_law : IsLaw StaysCoherent true
unfolding followed
coherent_law = record {
  rechecks = rechecks_coherently;
  scheduling = λ state job is sound. schedule-coherent state job is sound;
  promising = λ state maker awaited there sound. promise-coherent state maker awaited there sound;
  settling = λ state job result may sound. settle-coherent state job result may sound;
  finishing = λ state job may sound. finish-coherent state job may sound;
  mapping = λ state job free sound. map_registration-coherent state job free sound;
  unmapping = λ state registration sound. unmap-coherent state registration sound;
  moding = λ state registration mode sound. set_mode-coherent state registration mode sound;
  preloading = λ state registration on text sound. set_preload-coherent state registration on text sound;
  fetching = λ state row registration found may mapped sound. fetch_script-coherent state row registration found may mapped sound;
  making = λ state row registration fetched at sound. make_worker-coherent state row registration fetched at sound;
  throwing = λ state row registration worker at made sound. throw-coherent state row registration worker at made sound;
  beginning = λ state row registration worker at made sound. begin-coherent state row registration worker at made sound;
  failing = λ state row registration worker handler is sound. fail_install-coherent state row registration worker handler is sound;
  installing = λ state row registration worker handler is sound. finish_install-coherent state row registration worker handler is sound;
  paying = λ state registration told owed holds sound. holds (paid-coherent state registration sound);
  activated = λ state worker handler next found ended rest sound. rest _ (activated_from state worker handler found ended sound);
  opening = λ may state number key url free sound. add_client-coherent state number key url free sound;
  closing = λ state number sound. leave-coherent state number sound;
  flagging = λ state worker sound. flagged-coherent state worker sound;
  claiming = λ may state worker active sound. claim-coherent state worker _ active sound;
  adding = λ state client number row worker there controls ready free sound. add_event-coherent state client number row worker there controls ready free sound;
  ending = λ state number sound. remove_event-coherent state number sound;
  caching = λ state key name free sound. add_cache-coherent state key name free sound;
  dropping = λ state key name sound. drop_cache-coherent state key name sound;
  carrying = λ state key name ops pairs new there is sound. carry_out-coherent state key name ops new sound;
  forgetting = λ state key free sound. forget-coherent state key free sound;
  awaiting = λ state maker key name requests runs sound. add_task-coherent state maker key name requests runs sound;
  answering = λ state number result faulted may sound. settle_task-coherent state number result faulted sound;
  noting = λ state worker faulted sound. note_call-coherent state worker faulted sound;
}

-- ---- along histories

-- what each step that there is keeps is kept
pub kept_after_step : (P : State → Type 0) (state : State) (o : Option Outcome) → P state → IfSome o (λ outcome. P state → P outcome.told.state) → P (option_map_or (λ outcome. outcome.told.state) o state)
kept_after_step P state None here kept = here
kept_after_step P state (Some outcome) here kept = kept here

pub step-coherent : (state : State) (happened : Event) → Coherent state → Coherent (state_after state happened)
step-coherent state happened sound = kept_after_step Coherent state (step state happened) sound (step-law StaysCoherent true coherent_law state happened (λ may. refl))

pub entries-coherent : (entries : List Entry) (state : State) → Coherent state → Coherent (after_entries state entries)
entries-coherent [] state sound = sound
entries-coherent (entry ∷ entries) state sound = entries-coherent entries (moved state entry) (step-coherent state entry.event sound)
