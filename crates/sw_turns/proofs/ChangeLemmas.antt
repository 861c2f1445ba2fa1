-- What more entries make of a history, of its state and of the content that its changes make.
use Rattle.std.proofs.Common.{◌≡◌, ◌∙◌, ℕ, List, [], ◌∷◌, ◌++◌, length, All, refl, sym, ap, subst, arith, append_assoc}
use Rattle.std.proofs.lemmas.List.{take_all, take_at}
use Rattle.std.proofs.lemmas.List.Elements.{All-take}
use Rattle.std.proofs.lemmas.List.Sums.{fold-append}
use Rattle.sw_data.specs.declared.histories.Entry.{Entry}
use Rattle.sw_data.specs.declared.storage.Change.{Change}
use Rattle.sw_data.specs.declared.storage.Change.TheVariants as change
use Rattle.sw_data.specs.declared.storage.Kept.{Kept}
use Rattle.sw_laws.proofs.DurableKept.{durable_is_kept}
use Rattle.sw_laws.specs.Laws.{changes_along, changes_of_history}
use Rattle.sw_turns.specs.Surviving.{kept_of}
use Rattle.sw_rules.specs.Durable.{durable}
use Rattle.sw_rules.specs.History.{EachFrom, EachLater, IsStep, Legal, Opens, after, after_entries, moved}
use Rattle.sw_rules.specs.Restart.{restart}
use Rattle.sw_rules.specs.State.{State}
use Rattle.sw_rules.specs.Step.{changes_of}
use Rattle.sw_rules.specs.Storage.{IsMade, applied, kept_after, nothing}
use Rattle.sw_store.specs.Stores.{all_stamped}

-- ---- changes

along_more : (state : State) (front more : List Entry) → changes_along state (front ++ more) ≡ changes_along state front ++ changes_along (after_entries state front) more
along_more state [] more = refl
along_more state (entry ∷ front) more =
    ap (λ (changes : List Change). changes_of state entry.event ++ changes) (along_more (moved state entry) front more)
    ∙ sym (append_assoc (changes_of state entry.event) (changes_along (moved state entry) front) (changes_along (after_entries (moved state entry) front) more))

-- stamps change nothing
pub along_stamped : (clock : ℕ) (state : State) (entries : List Entry) → changes_along state (all_stamped clock entries) ≡ changes_along state entries
along_stamped clock state [] = refl
along_stamped clock state (entry ∷ entries) =
    ap (λ (changes : List Change). changes_of state entry.event ++ changes) (along_stamped clock (moved state entry) entries)

pub after_stamped : (clock : ℕ) (state : State) (entries : List Entry) → after_entries state (all_stamped clock entries) ≡ after_entries state entries
after_stamped clock state [] = refl
after_stamped clock state (entry ∷ entries) = after_stamped clock (moved state entry) entries

-- ---- histories

module _ (base : Kept) where
  changes_more : (history more : List Entry) → Opens base history → changes_of_history base (history ++ more) ≡ changes_of_history base history ++ changes_along (after base history) more
  changes_more [] more opens = absurd opens
  changes_more (opening ∷ entries) more opens =
      ap (λ (changes : List Change). change.Restarted ∷ changes) (along_more (restart base) entries more)

  -- the content that the changes of more entries make
  kept_more : (history more : List Entry) → Opens base history → kept_of base (history ++ more) ≡ kept_after (kept_of base history) (changes_along (after base history) more)
  kept_more history more opens =
      ap (kept_after base) (changes_more history more opens)
      ∙ fold-append applied base (changes_of_history base history) (changes_along (after base history) more)

  -- the same, whatever their stamps
  pub kept_stamped : (clock : ℕ) (history more : List Entry) → Opens base history → kept_after (kept_of base history) (changes_along (after base history) more) ≡ kept_of base (history ++ all_stamped clock more)
  kept_stamped clock history more opens =
      sym (kept_more history (all_stamped clock more) opens ∙ ap (kept_after (kept_of base history)) (along_stamped clock (after base history) more))

  -- what the changes of a history make is what is kept of the state that it leaves
  pub kept_durable : (history : List Entry) → Legal base history → kept_of base history ≡ durable (after base history)
  kept_durable [] legal = absurd legal.opens
  kept_durable (opening ∷ entries) legal =
      subst (λ (later : List Entry). kept_of base (opening ∷ later) ≡ durable (after base (opening ∷ later)))
      (take_all (length entries) entries (omega arith))
      (durable_is_kept.prefixes base (opening ∷ entries) (length entries) legal)

  -- changes of nothing made it
  pub made_kept : (history : List Entry) → IsMade base → IsMade (kept_of base history)
  made_kept history made = (
    made.0 ++ changes_of_history base history,
    ap (λ (kept : Kept). kept_after kept (changes_of_history base history)) made.1
        ∙ sym (fold-append applied nothing made.0 (changes_of_history base history)),
  )

  -- ---- the first entries of a history

  pub opens_more : (history more : List Entry) → Opens base history → Opens base (history ++ more)
  opens_more [] more opens = absurd opens
  opens_more (opening ∷ entries) more opens = opens

  pub each_front : (P : List Entry → State → Entry → Type 0) (history more : List Entry) → Opens base history → EachLater P base (history ++ more) → EachLater P base history
  each_front P [] more opens each = absurd opens
  each_front P (opening ∷ entries) more opens each = from_front (opening ∷ []) (restart base) entries more each
    where
      from_front : (before : List Entry) (state : State) (front more : List Entry) → EachFrom P before state (front ++ more) → EachFrom P before state front
      from_front before state [] more each = tt
      from_front before state (entry ∷ front) more each =
          (each.0, from_front (before ++ entry ∷ []) (moved state entry) front more each.1)

  pub legal_front : (history more : List Entry) → Opens base history → Legal base (history ++ more) → Legal base history
  legal_front history more opens legal = record {
    made = legal.made;
    opens = opens;
    steps = each_front IsStep history more opens legal.steps;
  }

pub all_front : (P : Entry → Type 0) (history more : List Entry) → All P (history ++ more) → All P history
all_front P history more all =
    subst (λ (entries : List Entry). All P entries) (take_at history more (length history) refl) (All-take P (length history) (history ++ more) all)
