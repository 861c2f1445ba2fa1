-- The changes of each event make the durable part of the state after it of that of the state before it.
use Rattle.std.proofs.Common.{◌≡◌, ◌∙◌, ℕ, Bool, true, false, List, [], ◌∷◌, map, None, option_map, refl, sym, ap, subst}
use Rattle.std.specs.List.{list_all, list_any}
use Rattle.std.specs.Prelude.{is_some, option_and_then}
use Rattle.sw_data.specs.declared.answers.Settlement.{Settlement}
use Rattle.sw_data.specs.declared.events.Who.{Who}
use Rattle.sw_data.specs.declared.events.Who.TheVariants as who
use Rattle.sw_data.specs.declared.exchange.Op.{Op}
use Rattle.sw_data.specs.declared.rows.Job.{Job}
use Rattle.sw_data.specs.declared.storage.Change.TheVariants as change
use Rattle.sw_data.specs.declared.storage.Kept.{Kept}
use Rattle.sw_data.specs.declared.workers.Mode.{Mode}
use Rattle.sw_data.specs.declared.workers.Slot.TheVariants as slot
use Rattle.sw_rules.specs.Activating.{become_activated, paid}
use Rattle.sw_rules.specs.Caching.{add_cache, add_task, carry_out, drop_cache, is_maker, noted_task, settle_task}
use Rattle.sw_rules.specs.Forgetting.{forget_key, is_busy}
use Rattle.sw_rules.specs.Calls.{note_call}
use Rattle.sw_rules.specs.Clients.{add_client, add_event, flagged, new_client, remove_event}
use Rattle.sw_rules.specs.Installing.{end_handler, kept_worker}
use Rattle.sw_rules.specs.Jobs.{finish, gets_value, joined_job, promise, schedule, settle}
use Rattle.sw_rules.specs.Matching.{Pair}
use Rattle.sw_rules.specs.Preloading.{set_preload}
use Rattle.sw_rules.specs.Registrations.{map_registration, set_mode, unmap}
use Rattle.sw_rules.specs.Rows.{active_worker_number, in_slot, is_activated, is_registration, is_worker, maker_worker, mapped_registration, task_row}
use Rattle.sw_rules.specs.State.{State, Registration, Worker, AddAll, Awaited}
use Rattle.sw_rules.specs.Storage.{applied, is_cache, kept_after}
use Rattle.sw_rules.specs.Told.{followed, quiet}
use Rattle.sw_laws.specs.Coherent.{Coherent}
use Rattle.sw_laws.proofs.AtOnce.{are_apart}
use Rattle.sw_laws.proofs.ClaimSteps.{StaysCoherent}
use Rattle.sw_laws.proofs.CoherentLaw.{coherent_law}
use Rattle.sw_laws.proofs.Contents.{slots_in}
use Rattle.sw_laws.proofs.DurableSteps.{activated_then, begin_keeps, fail_keeps, fetch_keeps, install_keeps, make_keeps, reject_keeps, still_keeps, throw_keeps, unmap_placed}
use Rattle.sw_laws.proofs.Forgotten.{forgotten_together}
use Rattle.sw_laws.proofs.HandlerSteps.{activated_from}
use Rattle.sw_laws.proofs.JobEvents.{leaving}
use Rattle.sw_laws.proofs.KeptForget.{forget_ordered, forget_rows}
use Rattle.sw_laws.proofs.KeptRechecks.{KeepsAll, KeepsOrder, Orderly, claims_keep, leave_keeps, nothing_keeps, rechecks_keep}
use Rattle.sw_laws.proofs.KeptRows.{mapped_keeps, mode_ordered, mode_rows, paid_ordered, paid_rows, preload_ordered, preload_rows}
use Rattle.sw_laws.proofs.Lists.{by_test}
use Rattle.sw_laws.proofs.Places.{places_apart}
use Rattle.sw_laws.proofs.RegistrationSteps.{paid-coherent, unmap-coherent}
use Rattle.sw_laws.proofs.SlotMoves.{LooksSame, slots_plain}
use Rattle.sw_laws.proofs.Split.{IsLawWhere, IsLeavingLaw}
use Rattle.sw_laws.proofs.Underway.{all_of_them, is_free, mapped_finished, mapped_forgotten, mapped_left, mapped_plain, mapped_pushed, mapped_scheduled, mapped_settled, unregister_free}

-- ---- the steps on registrations, with jobs

unmap_keeps : (state : State) (registration : ℕ) → list_all (is_free registration) state.jobs ≡ true → KeepsOrder state (unmap state registration)
unfolding unmap
unmap_keeps state registration free orderly =
    let both = unmap_placed state registration orderly.order in
    (record { order = both.0; jobs = mapped_left state.registrations registration state.jobs free orderly.jobs }, both.1)

map_keeps : (state : State) (job : Job) → mapped_registration state job.key job.scope ≡ None → Coherent state → KeepsOrder state (map_registration state job)
unfolding map_registration
map_keeps state job free sound orderly =
    let both = mapped_keeps state job sound.workers.owners (coherent_law.mapping state job free sound).registrations orderly.order in
    (record { order = both.0; jobs = mapped_pushed state.registrations _ state.jobs orderly.jobs }, both.1)

mode_keeps : (state : State) (registration : ℕ) (mode : Mode) → Coherent state → KeepsOrder state (set_mode state registration mode)
unfolding set_mode
mode_keeps state registration mode sound orderly = (
  record {
    order = mode_ordered state registration mode (coherent_law.moding state registration mode sound).registrations orderly.order;
    jobs = mapped_plain (is_registration registration) (λ row. record row { mode = mode }) (λ x. refl) (λ x. refl) state.registrations state.jobs orderly.jobs;
  },
  mode_rows state registration mode orderly.order,
)

preload_keeps : (state : State) (registration : ℕ) (on : Bool) (text : List ℕ) → is_some (active_worker_number state registration) ≡ true → Coherent state → KeepsOrder state (set_preload state registration on text)
unfolding set_preload
preload_keeps state registration on text active sound orderly = (
  record {
    order = preload_ordered state registration on text active (coherent_law.preloading state registration on text sound).registrations orderly.order;
    jobs = mapped_plain (is_registration registration) (λ row. record row { preload = on; preload_value = text }) (λ x. refl) (λ x. refl) state.registrations state.jobs orderly.jobs;
  },
  preload_rows state registration on text orderly.order,
)

paid_orderly : (state : State) (registration : ℕ) → Coherent state → Orderly state → Orderly (paid registration state)
paid_orderly state registration sound orderly = record {
  order = paid_ordered state registration (paid-coherent state registration sound).registrations orderly.order;
  jobs = mapped_plain (is_registration registration) (λ row. record row { owed = false }) (λ x. refl) (λ x. refl) state.registrations state.jobs orderly.jobs;
}

forget_keeps : (state : State) (key : List ℕ) → is_busy state key ≡ false → Coherent state → KeepsOrder state (forget_key state key)
forget_keeps state key free sound orderly =
    let same = forgotten_together state key (are_apart state.registrations state.workers sound.workers) (places_apart (λ (row : Registration). row.number) state.registrations sound.registrations.numbers) in (
      subst Orderly (sym same) (record {
        order = forget_ordered state key orderly.order (subst Coherent same (coherent_law.forgetting state key free sound)).registrations;
        jobs = mapped_forgotten state key free sound orderly.jobs;
      }),
      forget_rows state key orderly.order (are_apart state.registrations state.workers sound.workers),
    )

promise_keeps : (state : State) (maker : Who) (awaited : Awaited) → KeepsOrder state (promise state maker awaited)
unfolding promise
promise_keeps state who.Host awaited = nothing_keeps state
promise_keeps state (who.Lane lane at) awaited = still_keeps state (promise state (who.Lane lane at) awaited) refl (λ n. refl) (λ is. is) (λ kept. refl)
promise_keeps state (who.Handler worker in_phase number) awaited = nothing_keeps state

-- ---- each least step

all_leaving : IsLeavingLaw KeepsAll
all_leaving = record {
  unregistering = λ state row registration found may mapped sound. (unmap-coherent state registration.number sound, unmap_keeps state registration.number (unregister_free state row registration found may mapped sound));
  rejecting = λ state row registration why at sound. ((leaving StaysCoherent StaysCoherent true coherent_law).rejecting state row registration why at sound, reject_keeps state row registration why at sound);
}

activated_same : (old new : Worker) → new.state ≡ old.state → is_activated new ≡ is_activated old
activated_same old new is = ap (λ state. is_activated (record old { state = state })) is

-- of a worker its handler or its flag changes
looks_plain : (old new : Worker) → new.registration ≡ old.registration → new.state ≡ old.state → kept_worker new ≡ kept_worker old → LooksSame old new
looks_plain old new registration state kept = record { registration = registration; waiting = ap (in_slot slot.Waiting) state; active = ap (in_slot slot.Active) state; activated = activated_same old new state; kept = kept }

cache_rows : (key name : List ℕ) (kept : Kept) → (applied kept (change.CacheNew key name)).registrations ≡ kept.registrations
cache_rows key name kept = by_test (λ (k : Kept). k.registrations ≡ kept.registrations) (list_any (is_cache key name) kept.caches) _ _ (λ there. refl) (λ none. refl)

carried_rows : (state : State) (key name : List ℕ) (ops : List Op) (new : List Pair) (kept : Kept) → (kept_after kept (carry_out state key name ops new).changes).registrations ≡ kept.registrations
unfolding carry_out
carried_rows state key name [] new kept = refl
carried_rows state key name (op ∷ ops) new kept = refl

settled_slots : (state : State) (number : ℕ) (result : Settlement) (faulted : Bool) (n : ℕ) → slots_in (settle_task state number result faulted).state.workers n ≡ slots_in state.workers n
unfolding settle_task
settled_slots state number result faulted n =
    slots_plain (is_maker (option_and_then (λ (row : AddAll). maker_worker row.maker) (task_row state number))) (λ row. record row { handler = option_map (noted_task faulted) row.handler }) (λ x. looks_plain x (record x { handler = option_map (noted_task faulted) x.handler }) refl refl refl) state.workers n

pub all_law : IsLawWhere KeepsAll true false
unfolding followed schedule settle finish add_client add_event remove_event add_cache drop_cache carry_out add_task settle_task note_call
all_law = record {
  rechecks = rechecks_keep;
  scheduling = λ state job is sound. (coherent_law.scheduling state job is sound, still_keeps state (schedule state job) refl (λ n. refl) (mapped_scheduled state.registrations job (joined_job state job) state.jobs) (λ kept. refl));
  promising = λ state maker awaited there sound. (coherent_law.promising state maker awaited there sound, promise_keeps state maker awaited);
  settling = λ state job result may sound. (coherent_law.settling state job result may sound, still_keeps state (settle state job result) refl (λ n. refl) (mapped_settled state.registrations (gets_value job) result state.jobs) (λ kept. refl));
  finishing = λ state job may sound. (coherent_law.finishing state job may sound, still_keeps state (finish state job) refl (λ n. refl) (λ is. mapped_finished state.registrations job state.jobs (all_of_them state.registrations job state.jobs is)) (λ kept. refl));
  mapping = λ state job free sound. (coherent_law.mapping state job free sound, map_keeps state job free sound);
  unmapping = all_leaving;
  moding = λ state registration mode sound. (coherent_law.moding state registration mode sound, mode_keeps state registration mode sound);
  preloading = λ state registration on text active sound. (coherent_law.preloading state registration on text sound, preload_keeps state registration on text active sound);
  fetching = λ state row registration found may mapped sound. (coherent_law.fetching state row registration found may mapped sound, fetch_keeps state row registration mapped);
  making = λ state row registration fetched at sound. (coherent_law.making state row registration fetched at sound, make_keeps state row registration fetched at sound);
  throwing = λ state row registration worker at made sound. (coherent_law.throwing state row registration worker at made sound, throw_keeps state row registration worker at made sound);
  beginning = λ state row registration worker at made sound. (coherent_law.beginning state row registration worker at made sound, begin_keeps state row registration worker at made sound);
  failing = λ state row registration worker handler is sound. (coherent_law.failing state row registration worker handler is sound, fail_keeps state row registration worker handler is sound);
  installing = λ state row registration worker handler is sound. (coherent_law.installing state row registration worker handler is sound, install_keeps state row registration worker handler is sound);
  paying = λ state registration told owed holds sound.
      let after = holds (paid-coherent state registration sound) in
      (after.0, λ orderly. let last = after.1 (paid_orderly state registration sound orderly) in (last.0, λ kept same. last.1 kept (same ∙ sym (paid_rows state registration orderly.order))));
  activated = λ state worker handler next found ended rest sound.
      let after = rest (become_activated (end_handler state worker.number).state worker.registration worker.number).state (activated_from state worker handler found ended sound) in
      (after.0, activated_then state worker handler next found ended sound after.1);
  opening = λ may state number key url free sound. (coherent_law.opening may state number key url free sound, still_keeps state (add_client state (new_client state number key url)) refl (λ n. refl) (λ is. is) (λ kept. refl));
  closing = λ state number sound. (coherent_law.closing state number sound, leave_keeps state number sound);
  flagging = λ state worker sound. (coherent_law.flagging state worker sound, still_keeps state (quiet (flagged worker state)) refl (slots_plain (is_worker worker) _ (λ x. looks_plain x _ refl refl refl) state.workers) (λ is. is) (λ kept. refl));
  claiming = λ may state worker active sound. (coherent_law.claiming may state worker active sound, claims_keep (map (λ client. client.number) state.clients) state worker.number worker.registration active sound);
  adding = λ state client number row worker there controls ready free sound. (coherent_law.adding state client number row worker there controls ready free sound, still_keeps state (add_event state number worker.number) refl (λ n. refl) (λ is. is) (λ kept. refl));
  ending = λ state number sound. (coherent_law.ending state number sound, still_keeps state (remove_event state number) refl (λ n. refl) (λ is. is) (λ kept. refl));
  caching = λ state key name free sound. (coherent_law.caching state key name free sound, still_keeps state (add_cache state key name) refl (λ n. refl) (λ is. is) (cache_rows key name));
  dropping = λ state key name sound. (coherent_law.dropping state key name sound, still_keeps state (drop_cache state key name) refl (λ n. refl) (λ is. is) (λ kept. refl));
  carrying = λ state key name ops pairs new there is sound. (coherent_law.carrying state key name ops pairs new there is sound, still_keeps state (carry_out state key name ops new) refl (λ n. refl) (λ jobs. jobs) (carried_rows state key name ops new));
  forgetting = λ state key free sound. (coherent_law.forgetting state key free sound, forget_keeps state key free sound);
  awaiting = λ state maker key name requests runs sound. (coherent_law.awaiting state maker key name requests runs sound, still_keeps state (add_task state maker key name requests) refl (λ n. refl) (λ is. is) (λ kept. refl));
  answering = λ state number result faulted may sound. (coherent_law.answering state number result faulted may sound, still_keeps state (settle_task state number result faulted) refl (settled_slots state number result faulted) (λ is. is) (λ kept. refl));
  noting = λ state worker faulted sound. (coherent_law.noting state worker faulted sound, still_keeps state (note_call state worker faulted) refl (slots_plain (is_worker worker) _ (λ x. looks_plain x _ refl refl refl) state.workers) (λ is. is) (λ kept. refl));
}
