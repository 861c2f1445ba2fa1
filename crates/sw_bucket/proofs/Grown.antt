-- What is kept of the state after one more entry.
use Rattle.std.proofs.Common.{◌≡◌, ◌∙◌, List, [], ◌∷◌, ◌++◌, length, sym, ap, arith, subst, append-nil, append_assoc}
use Rattle.std.proofs.lemmas.List.{take_all}
use Rattle.std.proofs.lemmas.List.Sums.{fold-append}
use Rattle.sw_data.specs.declared.histories.Entry.{Entry}
use Rattle.sw_data.specs.declared.storage.Change.{Change}
use Rattle.sw_data.specs.declared.storage.Change.TheVariants as change
use Rattle.sw_data.specs.declared.storage.Kept.{Kept}
use Rattle.sw_laws.proofs.DurableKept.{durable_is_kept}
use Rattle.sw_laws.specs.Laws.{changes_along, changes_of_history}
use Rattle.sw_rules.specs.Durable.{durable}
use Rattle.sw_rules.specs.History.{Legal, Opens, after, after_entries, moved}
use Rattle.sw_rules.specs.Restart.{restart}
use Rattle.sw_rules.specs.State.{State}
use Rattle.sw_rules.specs.Step.{changes_of}
use Rattle.sw_rules.specs.Storage.{IsMade, applied, kept_after, nothing}

along_more : (state : State) (entries : List Entry) (entry : Entry) → changes_along state (entries ++ entry ∷ []) ≡ changes_along state entries ++ changes_of (after_entries state entries) entry.event
along_more state [] entry = append-nil (changes_of state entry.event)
along_more state (first ∷ entries) entry =
    ap (λ (changes : List Change). changes_of state first.event ++ changes) (along_more (moved state first) entries entry)
    ∙ sym (append_assoc (changes_of state first.event) (changes_along (moved state first) entries) (changes_of (after_entries (moved state first) entries) entry.event))

module _ (base : Kept) where
  changes_more : (history : List Entry) (entry : Entry) → Opens base history → changes_of_history base (history ++ entry ∷ []) ≡ changes_of_history base history ++ changes_of (after base history) entry.event
  changes_more [] entry opens = absurd opens
  changes_more (opening ∷ entries) entry opens = ap (λ (changes : List Change). change.Restarted ∷ changes) (along_more (restart base) entries entry)

  kept_durable : (history : List Entry) → Legal base history → kept_after base (changes_of_history base history) ≡ durable (after base history)
  kept_durable [] legal = absurd legal.opens
  kept_durable (opening ∷ entries) legal =
      subst (λ (later : List Entry). kept_after base (changes_of_history base (opening ∷ later)) ≡ durable (after base (opening ∷ later)))
      (take_all (length entries) entries (omega arith))
      (durable_is_kept.prefixes base (opening ∷ entries) (length entries) legal)

  -- the changes of an entry make what is kept after it
  pub durable_grown : (history : List Entry) (entry : Entry) → Legal base history → Legal base (history ++ entry ∷ [])
      → durable (after base (history ++ entry ∷ [])) ≡ kept_after (durable (after base history)) (changes_of (after base history) entry.event)
  durable_grown history entry legal more =
      let changes = changes_of (after base history) entry.event in
      sym (kept_durable (history ++ entry ∷ []) more)
      ∙ (ap (kept_after base) (changes_more history entry legal.opens)
      ∙ (fold-append applied base (changes_of_history base history) changes
      ∙ ap (λ (kept : Kept). kept_after kept changes) (kept_durable history legal)))

  -- changes of nothing make what is kept after a history
  pub durable_made : (history : List Entry) → Legal base history → IsMade (durable (after base history))
  durable_made history legal = (
    legal.made.0 ++ changes_of_history base history,
    sym (kept_durable history legal)
        ∙ (ap (λ (kept : Kept). kept_after kept (changes_of_history base history)) legal.made.1
        ∙ sym (fold-append applied nothing legal.made.0 (changes_of_history base history))),
  )
