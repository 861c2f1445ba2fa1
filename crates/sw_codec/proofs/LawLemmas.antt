-- The laws of spelling and reading.
use Rattle.std.proofs.Common.{◌≡◌, ℕ, zero, suc, ◌+◌, ◌-◌, ◌<◌, ◌≤◌, List, [], ◌∷◌, ◌++◌, length, take, drop, Bool, true, false, cond, eqb, Option, Some, None, Result, Ok, Err, refl, sym, ap, subst, ◌∙◌, arith, length-append}
use Rattle.std.specs.List.{flat_map, list_all}
use Rattle.std.proofs.Math.Seq.{take-append-add, drop-append-add}
use Rattle.std.proofs.lemmas.Bool.{eqb-true, ne_eqb, and_parts, and_from}
use Rattle.std.proofs.lemmas.List.{nil_from_length}
use Rattle.std.proofs.lemmas.List.Concat.{flat_map-cons}
use Rattle.std.proofs.lemmas.Option.{cond_some}
use Rattle.sw_data.specs.declared.storage.Change.{Change}
use Rattle.sw_codec.specs.Laws.{AreBytes, BeginsNoOther, IsReadAgain, IsSpelledAgain, IsBadThere}
use Rattle.sw_codec.specs.Reading.{change_at, preceded, continued, changes_within, read_changes}
use Rattle.sw_codec.specs.Spelling.{change_spelling, has_spelling, spelled, spelled_all}
use Rattle.sw_codec.proofs.Changes.{change-takes, change-again, change-long}
use Rattle.sw_codec.proofs.Readers.{some_is, Takes}

-- ---- one change

spelled_is : (change : Change) (front : List ℕ) → spelled change ≡ Some front → (has_spelling change ≡ true) × (change_spelling change ≡ front)
spelled_is change front e = cond_some (has_spelling change) (change_spelling change) front e

read_front : (change : Change) (front rest : List ℕ) → spelled change ≡ Some front → change_at (front ++ rest) ≡ Some (change, rest)
read_front change front rest e =
    let s = spelled_is change front e in
    ap (λ (l : List ℕ). change_at (l ++ rest)) (sym s.1) ∙ change-again change rest s.0

pub begins_no_other : BeginsNoOther
begins_no_other one other front other_front rest other_rest e other_e same =
    let both : Change × List ℕ = (one, rest) in
    let is = some_is both (other, other_rest) (sym (read_front one front rest e) ∙ ap change_at same ∙ read_front other other_front other_rest other_e) in
    let changes : one ≡ other = ap (λ (p : Change × List ℕ). p.0) is in
    let fronts : front ≡ other_front = some_is front other_front (sym e ∙ ap spelled changes ∙ other_e) in
    (changes, fronts, ap (λ (p : Change × List ℕ). p.1) is)

-- ---- payloads

pub next_is : (steps offset : ℕ) (bytes : List ℕ) (read : Option (Change × List ℕ)) → change_at bytes ≡ read
    → changes_within (suc steps) offset bytes ≡ continued (λ rest. changes_within steps (offset + (length bytes - length rest)) rest) offset read
unfolding changes_within
next_is steps offset bytes read e = ap (continued (λ rest. changes_within steps (offset + (length bytes - length rest)) rest) offset) e

spellings_long : (change : Change) (others : List Change) → 0 < length (flat_map change_spelling (change ∷ others))
spellings_long change others = omega (arith, change-long change, length-append (change_spelling change) (flat_map change_spelling others), ap length (flat_map-cons change_spelling change others))

within_again : (change : Change) (others : List Change) (steps offset : ℕ) → has_spelling change ≡ true → list_all has_spelling others ≡ true
    → length (flat_map change_spelling (change ∷ others)) ≤ steps → changes_within steps offset (flat_map change_spelling (change ∷ others)) ≡ Ok (change ∷ others)
within_again change others zero offset h hs long = absurd (omega (arith, spellings_long change others))
within_again change [] (suc steps) offset h hs long =
    next_is steps offset (flat_map change_spelling (change ∷ [])) (Some (change, [])) (ap change_at (flat_map-cons change_spelling change []) ∙ change-again change [] h)
within_again change (second ∷ others) (suc steps) offset h hs long =
    let bytes = flat_map change_spelling (change ∷ second ∷ others) in
    let rest = flat_map change_spelling (second ∷ others) in
    let parts = and_parts (has_spelling second) (list_all has_spelling others) hs in
    let shorter : length rest ≤ steps = omega (arith, change-long change, length-append (change_spelling change) rest, ap length (flat_map-cons change_spelling change (second ∷ others))) in
    let there : eqb (length rest) 0 ≡ false = ne_eqb (length rest) 0 (λ none. absurd (omega (arith, spellings_long second others))) in
    next_is steps offset bytes (Some (change, rest)) (ap change_at (flat_map-cons change_spelling change (second ∷ others)) ∙ change-again change rest h)
    ∙ ap (λ (test : Bool). cond test (Ok (change ∷ [])) (preceded (change ∷ []) (changes_within steps (offset + (length bytes - length rest)) rest))) there
    ∙ ap (preceded (change ∷ [])) (within_again second others steps (offset + (length bytes - length rest)) parts.0 parts.1 shorter)

all_spelled_is : (changes : List Change) (bytes : List ℕ) → spelled_all changes ≡ Some bytes → (list_all has_spelling changes ≡ true) × (flat_map change_spelling changes ≡ bytes)
all_spelled_is changes bytes e = cond_some (list_all has_spelling changes) (flat_map change_spelling changes) bytes e

pub read_again : IsReadAgain
unfolding read_changes
read_again [] bytes some e = absurd (some refl)
read_again (change ∷ others) bytes some e =
    let s = all_spelled_is (change ∷ others) bytes e in
    let parts = and_parts (has_spelling change) (list_all has_spelling others) s.0 in
    ap (λ (l : List ℕ). changes_within (length l) 0 l) (sym s.1)
    ∙ within_again change others (length (flat_map change_spelling (change ∷ others))) 0 parts.0 parts.1 (omega arith)

-- ---- what was read is spelled so

record AreSpelled (bytes : List ℕ) (changes : List Change) : Type 0 where
  pub some : 0 < length changes
  pub have : list_all has_spelling changes ≡ true
  pub parts : bytes ≡ flat_map change_spelling changes

abbrev read_ok : List Change → Result (List Change) ℕ
read_ok changes = Ok changes

abbrev read_bad : ℕ → Result (List Change) ℕ
read_bad offset = Err offset

ok_is : (one other : List Change) → read_ok one ≡ read_ok other → one ≡ other
ok_is one other e = cc

bad_is : (one other : ℕ) → read_bad one ≡ read_bad other → one ≡ other
bad_is one other e = cc

-- what is read of the rest, where one change stands in front of it
preceded_ok : (one : Change) (read : Result (List Change) ℕ) (changes : List Change) → preceded (one ∷ []) read ≡ Ok changes → (others : List Change) × (read ≡ Ok others) × (one ∷ others ≡ changes)
preceded_ok one (Ok others) changes e = (others, refl, ok_is (one ∷ others) changes e)
preceded_ok one (Err offset) changes e = absurd cc

preceded_bad : (one : Change) (read : Result (List Change) ℕ) (bad : ℕ) → preceded (one ∷ []) read ≡ Err bad → read ≡ Err bad
preceded_bad one (Ok others) bad e = absurd cc
preceded_bad one (Err offset) bad e = ap read_bad (bad_is offset bad e)

spelled_one : (bytes : List ℕ) (one : Change) (rest : List ℕ) (others : List Change) → Takes bytes (change_spelling one) rest → has_spelling one ≡ true
    → list_all has_spelling others ≡ true → rest ≡ flat_map change_spelling others → AreSpelled bytes (one ∷ others)
spelled_one bytes one rest others takes h hs is = record {
  some = omega arith;
  have = and_from (has_spelling one) (list_all has_spelling others) h hs;
  parts = takes.parts ∙ ap (λ (l : List ℕ). change_spelling one ++ l) is ∙ sym (flat_map-cons change_spelling one others);
}

-- by whether bytes are left behind the change in front
spelled_test : (bytes : List ℕ) (next : List ℕ → Result (List Change) ℕ) (one : Change × List ℕ) (changes : List Change) (test : Bool) → eqb (length one.1) 0 ≡ test → AreBytes bytes
    → ((rest : List ℕ) (others : List Change) → AreBytes rest → next rest ≡ Ok others → AreSpelled rest others)
    → change_at bytes ≡ Some one → cond test (Ok (one.0 ∷ [])) (preceded (one.0 ∷ []) (next one.1)) ≡ Ok changes → AreSpelled bytes changes
spelled_test bytes next one changes true ended fits then_spelled is e =
    let t = change-takes bytes one.0 one.1 fits is in
    subst (AreSpelled bytes) (ok_is (one.0 ∷ []) changes e) (spelled_one bytes one.0 one.1 [] t.0 t.1 refl (nil_from_length one.1 (eqb-true (length one.1) 0 ended)))
spelled_test bytes next one changes false ended fits then_spelled is e =
    let t = change-takes bytes one.0 one.1 fits is in
    let p = preceded_ok one.0 (next one.1) changes e in
    let behind = then_spelled one.1 p.0 t.0.rest_fits p.1 in
    subst (AreSpelled bytes) p.2 (spelled_one bytes one.0 one.1 p.0 t.0 t.1 behind.have behind.parts)

spelled_by : (bytes : List ℕ) (next : List ℕ → Result (List Change) ℕ) (offset : ℕ) (changes : List Change) (read : Option (Change × List ℕ)) → AreBytes bytes
    → ((rest : List ℕ) (others : List Change) → AreBytes rest → next rest ≡ Ok others → AreSpelled rest others)
    → change_at bytes ≡ read → continued next offset read ≡ Ok changes → AreSpelled bytes changes
spelled_by bytes next offset changes None fits then_spelled is e = absurd cc
spelled_by bytes next offset changes (Some one) fits then_spelled is e = spelled_test bytes next one changes (eqb (length one.1) 0) refl fits then_spelled is e

within_spelled : (steps offset : ℕ) (bytes : List ℕ) (changes : List Change) → AreBytes bytes → changes_within steps offset bytes ≡ Ok changes → AreSpelled bytes changes
unfolding changes_within
within_spelled zero offset bytes changes fits e = absurd cc
within_spelled (suc steps) offset bytes changes fits e =
    spelled_by bytes (λ rest. changes_within steps (offset + (length bytes - length rest)) rest) offset changes (change_at bytes) fits
    (λ rest others rest_fits behind. within_spelled steps (offset + (length bytes - length rest)) rest others rest_fits behind) refl e

pub spelled_again : IsSpelledAgain
unfolding read_changes
spelled_again changes bytes fits e =
    let s = within_spelled (length bytes) 0 bytes changes fits e in (
      λ none. absurd (omega (arith, s.some, ap length none)),
      ap (λ (test : Bool). cond test (Some (flat_map change_spelling changes)) None) s.have ∙ ap (λ (l : List ℕ). Some l) (sym s.parts),
    )

-- ---- bad bytes

-- these changes are spelled in front of the place where no change is
record IsBad (bytes : List ℕ) (place : ℕ) : Type 0 where
  pub inside : place ≤ length bytes
  pub changes : List Change
  pub have : list_all has_spelling changes ≡ true
  pub front : flat_map change_spelling changes ≡ take place bytes
  pub none : change_at (drop place bytes) ≡ None

bad_here : (bytes : List ℕ) → change_at bytes ≡ None → IsBad bytes 0
bad_here bytes none = record { inside = omega arith; changes = []; have = refl; front = refl; none = none }

bad_behind : (bytes : List ℕ) (one : Change) (rest : List ℕ) (place : ℕ) → Takes bytes (change_spelling one) rest → has_spelling one ≡ true → IsBad rest place → IsBad bytes (length bytes - length rest + place)
bad_behind bytes one rest place takes h bad =
    let text = change_spelling one in
    let taken : length bytes - length rest + place ≡ length text + place = omega (arith, ap length takes.parts, length-append text rest) in
    record {
      inside = omega (arith, ap length takes.parts, length-append text rest, bad.inside);
      changes = one ∷ bad.changes;
      have = and_from (has_spelling one) (list_all has_spelling bad.changes) h bad.have;
      front = flat_map-cons change_spelling one bad.changes ∙ ap (λ (l : List ℕ). text ++ l) bad.front ∙ sym (take-append-add text rest place) ∙ sym (λ i. take (taken i) (takes.parts i));
      none = ap change_at ((λ i. drop (taken i) (takes.parts i)) ∙ drop-append-add text rest place) ∙ bad.none;
    }

abbrev IsBadFrom : ℕ → ℕ → List ℕ → Type 0
IsBadFrom offset bad bytes = (place : ℕ) × (bad ≡ offset + place) × IsBad bytes place

bad_test : (bytes : List ℕ) (steps offset bad : ℕ) (one : Change × List ℕ) (test : Bool) → length bytes ≤ suc steps → AreBytes bytes
    → ((rest : List ℕ) → length rest ≤ steps → AreBytes rest → changes_within steps (offset + (length bytes - length rest)) rest ≡ Err bad → IsBadFrom (offset + (length bytes - length rest)) bad rest)
    → change_at bytes ≡ Some one → cond test (Ok (one.0 ∷ [])) (preceded (one.0 ∷ []) (changes_within steps (offset + (length bytes - length one.1)) one.1)) ≡ Err bad → IsBadFrom offset bad bytes
bad_test bytes steps offset bad one true enough fits then_bad is e = absurd cc
bad_test bytes steps offset bad one false enough fits then_bad is e =
    let t = change-takes bytes one.0 one.1 fits is in
    let shorter : length one.1 ≤ steps = omega (arith, enough, ap length t.0.parts, length-append (change_spelling one.0) one.1, change-long one.0) in
    let behind = then_bad one.1 shorter t.0.rest_fits (preceded_bad one.0 (changes_within steps (offset + (length bytes - length one.1)) one.1) bad e) in
    (length bytes - length one.1 + behind.0, omega (arith, behind.1), bad_behind bytes one.0 one.1 behind.0 t.0 t.1 behind.2)

bad_by : (bytes : List ℕ) (steps offset bad : ℕ) (read : Option (Change × List ℕ)) → length bytes ≤ suc steps → AreBytes bytes
    → ((rest : List ℕ) → length rest ≤ steps → AreBytes rest → changes_within steps (offset + (length bytes - length rest)) rest ≡ Err bad → IsBadFrom (offset + (length bytes - length rest)) bad rest)
    → change_at bytes ≡ read → continued (λ rest. changes_within steps (offset + (length bytes - length rest)) rest) offset read ≡ Err bad → IsBadFrom offset bad bytes
bad_by bytes steps offset bad None enough fits then_bad is e = (0, omega (arith, bad_is offset bad e), bad_here bytes is)
bad_by bytes steps offset bad (Some one) enough fits then_bad is e = bad_test bytes steps offset bad one (eqb (length one.1) 0) enough fits then_bad is e

no_change : change_at [] ≡ None
unfolding change_at
no_change = refl

within_bad : (steps offset : ℕ) (bytes : List ℕ) (bad : ℕ) → length bytes ≤ steps → AreBytes bytes → changes_within steps offset bytes ≡ Err bad → IsBadFrom offset bad bytes
unfolding changes_within
within_bad zero offset bytes bad enough fits e =
    (0, omega (arith, bad_is offset bad e), bad_here bytes (ap change_at (nil_from_length bytes (omega (arith, enough))) ∙ no_change))
within_bad (suc steps) offset bytes bad enough fits e =
    bad_by bytes steps offset bad (change_at bytes) enough fits
    (λ rest shorter rest_fits behind. within_bad steps (offset + (length bytes - length rest)) rest bad shorter rest_fits behind) refl e

pub bad_there : IsBadThere
unfolding read_changes
bad_there bytes offset fits e =
    let found = within_bad (length bytes) 0 bytes offset (omega arith) fits e in
    let place : offset ≡ found.0 = omega (arith, found.1) in
    let bad = subst (IsBad bytes) (sym place) found.2 in (
      bad.inside,
      (bad.changes, ap (λ (test : Bool). cond test (Some (flat_map change_spelling bad.changes)) None) bad.have ∙ ap (λ (l : List ℕ). Some l) bad.front),
      λ change front rest is parts. let both : Some (change, rest) ≡ None = sym (read_front change front rest is) ∙ ap change_at (sym parts) ∙ bad.none in absurd cc,
    )
