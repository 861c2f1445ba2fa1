-- What a bucket knows after one more entry.
use Rattle.std.proofs.Common.{◌≡◌, ◌∙◌, ℕ, Bool, true, false, not, ◌&&◌, ◌||◌, List, [], ◌∷◌, ◌++◌, bytes_eq, Option, Some, None, true≢false, refl, sym, ap, subst, arith}
use Rattle.std.specs.Prelude.{nat_eq, nat_lt}
use Rattle.std.specs.List.{filter_map, list_any}
use Rattle.std.specs.Option.{option_map_or, option_to_list}
use Rattle.std.proofs.lemmas.List.Folds.{list_any-append}
use Rattle.sw_data.specs.declared.histories.Entry.{Entry}
use Rattle.sw_data.specs.declared.storage.Change.{Change}
use Rattle.sw_data.specs.declared.storage.Kept.{Kept}
use Rattle.sw_change.proofs.LawLemmas.{rebuilt}
use Rattle.sw_laws.proofs.Lists.{by_truth}
use Rattle.sw_rules.specs.Durable.{checkpoint_changes, durable}
use Rattle.sw_rules.specs.History.{Legal, after}
use Rattle.sw_rules.specs.State.{State}
use Rattle.sw_rules.specs.Step.{changes_of}
use Rattle.sw_rules.specs.Storage.{IsMade, kept_after, nothing}
use Rattle.sw_bucket.proofs.Grown.{durable_grown, durable_made}
use Rattle.sw_bucket.proofs.KeptKeys.{other_changes, used_among}
use Rattle.sw_bucket.specs.Filling.{Filled, FillsIn, IsFilled, IsFull}
use Rattle.sw_bucket.specs.Noted.{IsNotedOf, last_noted}
use Rattle.sw_bucket.specs.Touched.{change_key, touched}
use Rattle.sw_bucket.specs.Turns.{AreTurns, LoseTurns, has_turn, is_among}
use Rattle.sw_sizes.specs.Rows.{ArePartsOf, Row}
use Rattle.sw_sizes.specs.Usage.{keys_of_kept, usage_of}

-- the sizes of what changes of a checkpoint make are those of what is kept
pub parts_rebuilt : (kept : Kept) (changes : List Change) (rows : List Row) → changes ≡ checkpoint_changes kept → ArePartsOf (kept_after nothing changes) rows → IsMade kept → ArePartsOf kept rows
parts_rebuilt kept changes rows are parts made = subst (λ (k : Kept). ArePartsOf k rows) (ap (kept_after nothing) are ∙ rebuilt kept made) parts

among_used : (used : Option (List ℕ)) (key : List ℕ) → is_among key (option_to_list used) ≡ option_map_or (bytes_eq key) used false
among_used None key = refl
among_used (Some own) key = grind arith

module _ (state : State) (middle now : Filled) (keys : List (List ℕ))
    (known : now ≡ record middle { used = now.used; turns = now.turns })
    (fills : FillsIn state keys middle now.used now.turns) where
  full_of : ArePartsOf (durable state) middle.rows → AreTurns (last_noted middle.noted) (durable state) now.turns → IsFull state now
  full_of parts turns = subst (IsFull state) (sym known) (record { used = (fills parts).0; sizes = parts; turns = turns })

  noted_in : (base : Kept) (history : List Entry) → IsNotedOf base history middle.noted → IsNotedOf base history now.noted
  noted_in base history noted = subst (λ (b : Filled). IsNotedOf base history b.noted) (sym known) noted

  -- the keys of what is kept have got their turns, where there was none before
  first_turns : keys ≡ keys_of_kept (durable state) → middle.turns.keys ≡ [] → ArePartsOf (durable state) middle.rows → AreTurns (last_noted middle.noted) (durable state) now.turns
  first_turns are none parts at key =
      let got = (fills parts).1 at key in
      let among : is_among key keys ≡ nat_lt 0 (usage_of key (durable state)) = ap (is_among key) are ∙ sym (used_among state key) in
      let empty : has_turn middle.turns (at, key) ≡ false = ap (list_any _) none in
      got ∙ only (is_among key keys) (nat_lt 0 (usage_of key (durable state))) (nat_eq at (last_noted middle.noted key)) (has_turn middle.turns (at, key)) among empty
    where
      only : (a u l h : Bool) → a ≡ u → h ≡ false → ((a && (u && l)) || h) ≡ (u && l)
      only a u l h same none = grind (arith, same, none)

  -- the first entry was noted
  pub begun : (base : Kept) (entry : Entry) → Legal base (entry ∷ []) → after base (entry ∷ []) ≡ state → keys ≡ keys_of_kept (durable state) → middle.turns.keys ≡ []
      → (IsMade (durable state) → ArePartsOf (durable state) middle.rows) → IsNotedOf base (entry ∷ []) middle.noted → IsFilled base (entry ∷ []) now
  begun base entry legal is are none sized noted =
      let made : IsMade (durable state) = subst (λ (s : State). IsMade (durable s)) is (durable_made base (entry ∷ []) legal) in
      let parts = sized made in
      record {
        legal = legal;
        noted = noted_in base (entry ∷ []) noted;
        full = subst (λ (s : State). IsFull s now) (sym is) (full_of parts (first_turns are none parts));
      }

  module _ (was : State) (before : Filled) (all : List Change) (used : Option (List ℕ)) (are : keys ≡ touched used all)
      (others : (key : List ℕ) → option_map_or (bytes_eq key) used false ≡ false → last_noted middle.noted key ≡ last_noted before.noted key)
      (lost : LoseTurns keys (last_noted before.noted) before.turns middle.turns)
      (grown : durable state ≡ kept_after (durable was) all) where
    -- a key that isn't touched has its last use and its usage as before
    untouched : (key : List ℕ) → is_among key keys ≡ false
        → (last_noted middle.noted key ≡ last_noted before.noted key) × (nat_lt 0 (usage_of key (durable state)) ≡ nat_lt 0 (usage_of key (durable was)))
    untouched key none =
        let both : (is_among key (option_to_list used) || is_among key (filter_map change_key all)) ≡ false =
        sym (ap (is_among key) are ∙ list_any-append (bytes_eq key) (option_to_list used) (filter_map change_key all)) ∙ none in
        let parts = neither (is_among key (option_to_list used)) (is_among key (filter_map change_key all)) both in (
          others key (sym (among_used used key) ∙ parts.0),
          used_among state key
              ∙ (ap (λ (kept : Kept). is_among key (keys_of_kept kept)) grown ∙ (other_changes key (durable was) all parts.1 ∙ sym (used_among was key))),
        )
      where
        neither : (a b : Bool) → (a || b) ≡ false → (a ≡ false) × (b ≡ false)
        neither false b is = (refl, is)
        neither true b is = absurd (true≢false is)

    -- the keys that are touched have got their turns anew
    further_turns : AreTurns (last_noted before.noted) (durable was) before.turns → ArePartsOf (durable state) middle.rows → AreTurns (last_noted middle.noted) (durable state) now.turns
    further_turns turns parts at key =
        (fills parts).1 at key
        ∙ by_truth {P = ((is_among key keys && (nat_lt 0 (usage_of key (durable state)) && nat_eq at (last_noted middle.noted key))) || has_turn middle.turns (at, key)) ≡ (nat_lt 0 (usage_of key (durable state)) && nat_eq at (last_noted middle.noted key))}
        (is_among key keys)
        (λ there.
        anew (is_among key keys) (nat_lt 0 (usage_of key (durable state)) && nat_eq at (last_noted middle.noted key)) (has_turn middle.turns (at, key)) (nat_eq at (last_noted before.noted key)) (nat_lt 0 (usage_of key (durable was))) there
        (lost at key ∙ ap (λ (b : Bool). not (is_among key keys && nat_eq at (last_noted before.noted key)) && b) (turns at key)))
        (λ none.
        let same = untouched key none in
        as_it_was (is_among key keys) (nat_lt 0 (usage_of key (durable state))) (nat_eq at (last_noted middle.noted key)) (has_turn middle.turns (at, key)) (nat_eq at (last_noted before.noted key)) (nat_lt 0 (usage_of key (durable was))) none
        (lost at key ∙ ap (λ (b : Bool). not (is_among key keys && nat_eq at (last_noted before.noted key)) && b) (turns at key))
        same.1 (ap (nat_eq at) same.0))
      where
        anew : (a new h l u : Bool) → a ≡ true → h ≡ (not (a && l) && (u && l)) → ((a && new) || h) ≡ new
        anew a new h l u there had = grind (arith, there, had)

        as_it_was : (a u l h before_l before_u : Bool) → a ≡ false → h ≡ (not (a && before_l) && (before_u && before_l)) → u ≡ before_u → l ≡ before_l → ((a && (u && l)) || h) ≡ (u && l)
        as_it_was a u l h before_l before_u none had same other = grind (arith, none, had, same, other)

    filled_on : IsFull was before → ((kept : Kept) → ArePartsOf kept before.rows → ArePartsOf (kept_after kept all) middle.rows) → IsFull state now
    filled_on full sized =
        let parts : ArePartsOf (durable state) middle.rows = subst (λ (k : Kept). ArePartsOf k middle.rows) (sym grown) (sized (durable was) full.sizes) in
        full_of parts (further_turns full.turns parts)

  -- one more entry was noted
  pub filled_more : (base : Kept) (history : List Entry) (entry : Entry) (before : Filled) (all : List Change) (used : Option (List ℕ)) → IsFilled base history before
      → Legal base (history ++ entry ∷ []) → after base (history ++ entry ∷ []) ≡ state → all ≡ changes_of (after base history) entry.event → keys ≡ touched used all
      → ((key : List ℕ) → option_map_or (bytes_eq key) used false ≡ false → last_noted middle.noted key ≡ last_noted before.noted key)
      → LoseTurns keys (last_noted before.noted) before.turns middle.turns
      → ((kept : Kept) → ArePartsOf kept before.rows → ArePartsOf (kept_after kept all) middle.rows)
      → IsNotedOf base (history ++ entry ∷ []) middle.noted → IsFilled base (history ++ entry ∷ []) now
  filled_more base history entry before all used was legal is changed are others lost sized noted =
      let grown : durable state ≡ kept_after (durable (after base history)) all =
      ap durable (sym is) ∙ (durable_grown base history entry was.legal legal ∙ ap (kept_after (durable (after base history))) (sym changed)) in
      record {
        legal = legal;
        noted = noted_in base (history ++ entry ∷ []) noted;
        full = subst (λ (s : State). IsFull s now) (sym is) (filled_on (after base history) before all used are others lost grown was.full sized);
      }
