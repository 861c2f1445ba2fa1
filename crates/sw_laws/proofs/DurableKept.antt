-- The changes of a history make the durable part of its state of the base.
use Rattle.std.proofs.Common.{◌≡◌, ◌∙◌, ℕ, true, List, [], ◌∷◌, Option, Some, None, IfSome, refl, sym, ap, take, suc}
use Rattle.std.specs.Option.{option_map_or}
use Rattle.std.proofs.lemmas.List.Sums.{fold-append}
use Rattle.sw_data.specs.declared.histories.Entry.{Entry}
use Rattle.sw_data.specs.declared.storage.Change.TheVariants as change
use Rattle.sw_data.specs.declared.storage.Kept.{Kept}
use Rattle.sw_data.specs.declared.storage.KeptCache.{KeptCache}
use Rattle.sw_data.specs.declared.storage.KeptRegistration.{KeptRegistration}
use Rattle.sw_rules.specs.Durable as kept
use Rattle.sw_rules.specs.History.{Opens, after, after_entries, moved}
use Rattle.sw_rules.specs.Restart.{restart}
use Rattle.sw_rules.specs.State.{State}
use Rattle.sw_rules.specs.Step.{changes_of, step}
use Rattle.sw_rules.specs.Storage.{IsMade, applied, kept_after}
use Rattle.sw_rules.specs.Told.{Outcome}
use Rattle.sw_laws.specs.Coherent.{Coherent}
use Rattle.sw_laws.specs.Laws.{DurableIsKept, changes_along, changes_of_history}
use Rattle.sw_laws.proofs.Contents.{contents, durable_is}
use Rattle.sw_laws.proofs.DurableLaw.{all_law}
use Rattle.sw_laws.proofs.DurableRestart.{restart_orderly}
use Rattle.sw_laws.proofs.Events.{step-law}
use Rattle.sw_laws.proofs.KeptCaches.{KeepsCaches, cache_law}
use Rattle.sw_laws.proofs.KeptRechecks.{KeepsAll, Orderly}
use Rattle.sw_laws.proofs.Reopened.{restart_keeps}
use Rattle.sw_laws.proofs.Restarts.{made_sound, restart-coherent}

-- a content is what is kept of a coherent and orderly state
record KeptIn (state : State) (content : Kept) : Type 0 where
  coherent : Coherent state
  orderly : Orderly state
  registrations : content.registrations ≡ contents state.workers state.registrations
  caches : content.caches ≡ state.caches

content_of : (one : Kept) (registrations : List KeptRegistration) (caches : List KeptCache) → one.registrations ≡ registrations → one.caches ≡ caches → one ≡ record { registrations = registrations; caches = caches }
content_of one registrations caches rows others = ap (λ (list : List KeptRegistration). record one { registrations = list }) rows ∙ ap (λ (list : List KeptCache). record { registrations = registrations; caches = list }) others

caches_of : (state : State) → (kept.durable state).caches ≡ state.caches
unfolding kept.durable
caches_of state = refl

durable_of : (state : State) (content : Kept) → KeptIn state content → content ≡ kept.durable state
durable_of state content is = content_of content _ _ (is.registrations ∙ sym (durable_is state)) (is.caches ∙ sym (caches_of state))

step_after : (state : State) (o : Option Outcome) → IfSome o (λ outcome. KeepsAll state outcome.told) → IfSome o (λ outcome. KeepsCaches state outcome.told) → (content : Kept) → KeptIn state content
    → KeptIn (option_map_or (λ (outcome : Outcome). outcome.told.state) o state) (kept_after content (option_map_or (λ (outcome : Outcome). outcome.told.changes) o []))
step_after state None law caches content is = is
step_after state (Some outcome) law caches content is =
    let after = law is.coherent in
    let rows = after.1 is.orderly in
    record { coherent = after.0; orderly = rows.0; registrations = rows.1 content is.registrations; caches = caches content is.caches }

entries_keep : (entries : List Entry) (state : State) (content : Kept) → KeptIn state content → kept_after content (changes_along state entries) ≡ kept.durable (after_entries state entries)
entries_keep [] state content is = durable_of state content is
entries_keep (entry ∷ entries) state content is =
    fold-append applied content (changes_of state entry.event) (changes_along (moved state entry) entries)
    ∙ entries_keep entries (moved state entry) (kept_after content (changes_of state entry.event))
    (step_after state (step state entry.event) (step-law KeepsAll true all_law state entry.event (λ may. refl)) (step-law KeepsCaches true cache_law state entry.event (λ may. refl)) content is)

restart_kept : (base : Kept) → IsMade base → KeptIn (restart base) (applied base change.Restarted)
restart_kept base made = record {
  coherent = restart-coherent base (made_sound base made);
  orderly = restart_orderly base made;
  registrations = ap (λ (k : Kept). k.registrations) (sym (restart_keeps base made)) ∙ durable_is (restart base);
  caches = refl;
}

prefixes_keep : (base : Kept) (history : List Entry) (n : ℕ) → IsMade base → Opens base history → kept_after base (changes_of_history base (take (suc n) history)) ≡ kept.durable (after base (take (suc n) history))
prefixes_keep base [] n made opens = absurd opens
prefixes_keep base (opening ∷ entries) n made opens = entries_keep (take n entries) (restart base) (applied base change.Restarted) (restart_kept base made)

pub durable_is_kept : DurableIsKept
durable_is_kept = record { prefixes = λ base history n legal. prefixes_keep base history n legal.made legal.opens }
