-- Along a history, what a key and a scope map to stays, unless a notice names a registration of theirs.
use Rattle.std.proofs.Common.{◌≡◌, ◌∙◌, ◌⊎◌, inl, inr, ⊎_elim, ℕ, Bool, true, false, ◌&&◌, ◌==◌, List, [], ◌∷◌, ◌++◌, Option, IfSome, refl, sym, ap, subst, arith}
use Rattle.std.specs.Prelude.{bytes_eq, find}
use Rattle.std.specs.List.{list_any}
use Rattle.std.specs.Option.{option_map_or}
use Rattle.sw_data.specs.declared.answers.Notice.{Notice}
use Rattle.sw_data.specs.declared.answers.Notice.TheVariants as notice
use Rattle.sw_data.specs.declared.histories.Entry.{Entry}
use Rattle.sw_rules.specs.History.{EachFrom, IsStep, after_entries, moved}
use Rattle.sw_rules.specs.Rows.{is_registration}
use Rattle.sw_rules.specs.State.{State, Registration}
use Rattle.sw_rules.specs.Step.{Step}
use Rattle.sw_rules.specs.Told.{Outcome}
use Rattle.sw_laws.specs.Coherent.{Coherent}
use Rattle.sw_laws.specs.Laws.{has_key_and_scope, mapped_number, tells_move}
use Rattle.sw_laws.proofs.LawProofs.{is_always_coherent}
use Rattle.sw_laws.proofs.MapTold.{tells_its_map}
use Rattle.sw_laws.proofs.Lists.{any_weaker, by_truth}
use Rattle.sw_laws.proofs.Places.{found_any, found_numbered, places_apart}
use Rattle.sw_view.proofs.Persisting.{Stay, has_row, step_stays}

module _ (key scope : List ℕ) where
  abbrev is_theirs : Registration → Bool
  is_theirs row = bytes_eq row.key key && bytes_eq row.scope scope

  -- of a coherent state, a row of a number that has them is the one that is found by it
  found_theirs : (state : State) (number : ℕ) → Coherent state → has_row key scope state.registrations number ≡ true → has_key_and_scope state key scope number ≡ true
  found_theirs state number sound is =
      let there = found_any (is_registration number) state.registrations (any_weaker (λ (row : Registration). row.number == number && is_theirs row) _ (λ row here. grind (arith, here)) state.registrations is) in
      let theirs = found_numbered (λ (row : Registration). row.number) is_theirs state.registrations number there.0 (places_apart (λ (row : Registration). row.number) state.registrations sound.registrations.numbers) there.1 is in
      ap (λ (found : Option Registration). option_map_or is_theirs found false) there.1 ∙ theirs

  -- and so the other way round
  row_found : (rows : List Registration) (number : ℕ) → option_map_or is_theirs (find (is_registration number) rows) false ≡ true → has_row key scope rows number ≡ true
  row_found [] number is = is
  row_found (row ∷ rows) number is =
      by_truth (row.number == number)
      (λ here. grind (arith, here, is))
      (λ other. grind (arith, other, is, row_found rows number))

  -- a registration keeps them in a step
  kept_names : (state : State) (entry : Entry) (number : ℕ) → Coherent (moved state entry) → Step state entry.event entry.answer entry.notices (moved state entry)
      → has_key_and_scope state key scope number ≡ true → has_key_and_scope (moved state entry) key scope number ≡ true
  kept_names state entry number sound is has =
      let stays = subst (λ (o : Option Outcome). IfSome o (λ outcome. Stay state.registrations outcome.told.state.registrations)) is.1 (step_stays state entry.event) in
      found_theirs (moved state entry) number sound (stays key scope number (row_found state.registrations number has))

  -- and in further ones
  names_stay : (entries before : List Entry) (state : State) (number : ℕ) → Coherent state → EachFrom IsStep before state entries
      → has_key_and_scope state key scope number ≡ true → has_key_and_scope (after_entries state entries) key scope number ≡ true
  names_stay [] before state number sound steps has = has
  names_stay (entry ∷ entries) before state number sound steps has =
      let sound_then = is_always_coherent.steps state entry.event sound in
      names_stay entries (before ++ entry ∷ []) (moved state entry) number sound_then steps.1 (kept_names state entry number sound_then steps.0.step has)

  -- what a notice tells is told of the state behind further entries
  tells_on : (entries before : List Entry) (state : State) → Coherent state → EachFrom IsStep before state entries
      → (told : Notice) → tells_move state key scope told ≡ true → tells_move (after_entries state entries) key scope told ≡ true
  tells_on entries before state sound steps (notice.Mapped number) is = names_stay entries before state number sound steps is
  tells_on entries before state sound steps (notice.Unmapped number) is = names_stay entries before state number sound steps is
  tells_on entries before state sound steps _ is = absurd cc

  -- they map to what they did, or a notice of these entries names a registration of theirs
  pub told_along : (entries before : List Entry) (state : State) → Coherent state → EachFrom IsStep before state entries
      → (mapped_number state key scope ≡ mapped_number (after_entries state entries) key scope)
      ⊎ (list_any (λ entry. list_any (tells_move (after_entries state entries) key scope) entry.notices) entries ≡ true)
  told_along [] before state sound steps = inl refl
  told_along (entry ∷ entries) before state sound steps =
      let sound_then = is_always_coherent.steps state entry.event sound in
      let last = after_entries (moved state entry) entries in
      ⊎_elim
      (λ same. by_truth (list_any (tells_move (moved state entry) key scope) entry.notices)
      (λ told. let some = any_weaker (tells_move (moved state entry) key scope) (tells_move last key scope) (tells_on entries (before ++ entry ∷ []) (moved state entry) sound_then steps.1) entry.notices told in inr (grind (arith, some)))
      (λ none. inl (sym (tells_its_map.stays state (moved state entry) entry.event entry.answer entry.notices key scope sound steps.0.step none) ∙ same)))
      (λ some. inr (grind (arith, some)))
      (told_along entries (before ++ entry ∷ []) (moved state entry) sound_then steps.1)
