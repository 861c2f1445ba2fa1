-- The laws, from their parts.
use Rattle.std.proofs.Common.{◌≡◌, ◌∙◌, ℕ, List, [], ◌∷◌, Option, Some, None, ap, subst}
use Rattle.std.specs.Prelude.{option_and_then}
use Rattle.sw_data.specs.declared.answers.Settlement.{Settlement}
use Rattle.sw_data.specs.declared.rows.JobRow.{JobRow}
use Rattle.sw_data.specs.declared.histories.Entry.{Entry}
use Rattle.sw_data.specs.declared.storage.Kept.{Kept}
use Rattle.sw_rules.specs.History.{after}
use Rattle.sw_rules.specs.Jobs.{awaited_value}
use Rattle.sw_rules.specs.Restart.{restart}
use Rattle.sw_rules.specs.Rows.{job_row}
use Rattle.sw_rules.specs.State.{State, Awaited, of_job, of_task, value}
use Rattle.sw_rules.specs.Step.{state_after}
use Rattle.sw_rules.specs.Storage.{IsMade}
use Rattle.sw_laws.specs.Coherent.{Coherent, HasLeadersValue, HasValueOf}
use Rattle.sw_laws.specs.Laws.{GoesOnTo, HasSlots, IsAlwaysCoherent, IsAlwaysControlled, RestsWithoutWork, SettlesOnce}
use Rattle.sw_laws.proofs.CoherentLaw.{entries-coherent, step-coherent}
use Rattle.sw_laws.proofs.ControlledLaw.{legal_controlled}
use Rattle.sw_laws.proofs.ForwardLaw.{GoesBy, step_goes}
use Rattle.sw_laws.proofs.Rest.{rests}
use Rattle.sw_laws.proofs.Restarts.{made_sound, restart-coherent}

pub after-coherent : (base : Kept) (history : List Entry) → IsMade base → Coherent (after base history)
after-coherent base [] made = restart-coherent base (made_sound base made)
after-coherent base (opening ∷ entries) made = entries-coherent entries (restart base) (restart-coherent base (made_sound base made))

pub is_always_coherent : IsAlwaysCoherent
is_always_coherent = record {
  restarts = λ base made. restart-coherent base (made_sound base made);
  steps = λ state happened sound. step-coherent state happened sound;
  histories = λ base history legal. after-coherent base history legal.made;
}

pub is_always_controlled : IsAlwaysControlled
is_always_controlled base history legal = legal_controlled base history legal

pub rests_without_work : RestsWithoutWork
rests_without_work = record { rests = λ base history legal none. rests (after base history) (after-coherent base history legal.made) none }

value_of_leader : (state : State) (row : JobRow) (leader : ℕ) (o : Option ℕ) → o ≡ Some leader → HasValueOf state.jobs row o → awaited_value state (of_job leader) ≡ row.settled
value_of_leader state row leader None is has = absurd cc
value_of_leader state row leader (Some other) is has =
    let same : other ≡ leader = cc in
    subst (λ n. awaited_value state (of_job n) ≡ row.settled) same (ap (option_and_then (λ (r : JobRow). r.settled)) has.1.1 ∙ has.1.3)

leaders_value : (state : State) (row : JobRow) (job leader : ℕ) → job_row state job ≡ Some row → row.leader ≡ Some leader → Coherent state → awaited_value state (of_job leader) ≡ row.settled
leaders_value state row job leader found led sound =
    value_of_leader state row leader row.leader led (subst (λ (o : Option JobRow). HasLeadersValue state.jobs o) found (sound.jobs.joined job))

value_stays : (old new : State) → GoesBy GoesOnTo old new → (awaited : Awaited) (result : Settlement) → awaited_value old awaited ≡ Some result → awaited_value new awaited ≡ Some result
value_stays old new goes (value settled) result is = is
value_stays old new goes (of_job job) result is = goes.values.jobs job result is
value_stays old new goes (of_task task) result is = goes.values.tasks task result is

pub settles_once : SettlesOnce
settles_once = record {
  stays = λ base history happened awaited result legal. value_stays (after base history) (state_after (after base history) happened) (step_goes (after base history) happened (after-coherent base history legal.made)) awaited result;
  joined = λ base history row job leader legal found led. leaders_value (after base history) row job leader found led (after-coherent base history legal.made);
}

pub has_slots : HasSlots
has_slots = record {
  slots = λ base history legal. (after-coherent base history legal.made).workers.slots;
  states = λ base history happened number row legal found.
      let moved = (step_goes (after base history) happened (after-coherent base history legal.made)).workers number row found in
      record { now = moved.now; found = moved.found; registration = moved.registration; state = moved.state };
}
