-- Answers to look-ups stay right of a history that goes on, and one more is put behind them.
use Rattle.std.proofs.Common.{◌≡◌, ◌≤◌, ◌∙◌, ℕ, List, [], ◌∷◌, ◌++◌, length, take, Result, Ok, Err, refl, ap, sym, subst, arith}
use Rattle.std.proofs.lemmas.List.{take-append-le}
use Rattle.std.specs.Prelude.{IfOk}
use mathlib.Core.List.{IsPrefix}
use Rattle.sw_data.specs.declared.histories.Entry.{Entry}
use Rattle.sw_data.specs.declared.storage.Kept.{Kept}
use Rattle.sw_pool.specs.Looks.{AreAnswers, IsAnswer}
use Rattle.sw_pool.specs.declared.looking.Asked.{Asked}
use Rattle.sw_view.proofs.Fronts.{prefix_length}
use Rattle.sw_view.specs.Mapped.{matched_after}
use Rattle.sw_view.specs.declared.looker.Look.{Look}

-- so many first entries of a beginning are those of the whole
same_front : (history later : List Entry) (entries : ℕ) → IsPrefix history later → entries ≤ length history → take entries history ≡ take entries later
same_front history later entries front within = sym (take-append-le entries history front.0 within) ∙ ap (take entries) front.1

-- how many entries the last answer has, or this many where there is none
abbrev pub last_of : ℕ → List Look → ℕ
last_of least [] = least
last_of least (look ∷ looks) = last_of look.entries looks

module _ (base : Kept) where
  answer_stays : (history later : List Entry) (least : ℕ) (asked : Asked) (look : Look) → IsPrefix history later → IsAnswer base history least asked look → IsAnswer base later least asked look
  answer_stays history later least asked look front is =
      let longer = prefix_length history later front in
      record {
        later = is.later;
        within = omega (arith, is.within, longer);
        found = is.found ∙ ap (λ (entries : List Entry). matched_after base entries asked.key asked.address) (same_front history later look.entries front is.within);
      }

  -- of a history that goes on
  pub answers_stay : (history later : List Entry) (least : ℕ) (asked : List Asked) (looks : List Look) → IsPrefix history later → AreAnswers base history least asked looks → AreAnswers base later least asked looks
  answers_stay history later least [] [] front are = tt
  answers_stay history later least [] (look ∷ looks) front are = absurd are
  answers_stay history later least (first ∷ asked) [] front are = absurd are
  answers_stay history later least (first ∷ asked) (look ∷ looks) front are =
      (answer_stays history later least first look front are.0, answers_stay history later look.entries asked looks front are.1)

  -- one more, of no fewer entries than the last one
  pub one_more : (history : List Entry) (least : ℕ) (asked : List Asked) (looks : List Look) (next : Asked) (look : Look) → AreAnswers base history least asked looks
      → IsAnswer base history (last_of least looks) next look → AreAnswers base history least (asked ++ next ∷ []) (looks ++ look ∷ [])
  one_more history least [] [] next look are is = (is, tt)
  one_more history least [] (one ∷ looks) next look are is = absurd are
  one_more history least (first ∷ asked) [] next look are is = absurd are
  one_more history least (first ∷ asked) (one ∷ looks) next look are is = (are.0, one_more history one.entries asked looks next look are.1 is)

  pub last_behind : (least : ℕ) (looks : List Look) (look : Look) → last_of least (looks ++ look ∷ []) ≡ look.entries
  last_behind least [] look = refl
  last_behind least (one ∷ looks) look = last_behind one.entries looks look

-- what a looker of the content has seen that begins a history is right of the history
pub seen_is_right : {V E : Type 0} (items : V → List Look) (base content : Kept) (seen history : List Entry) (asked : List Asked) (result : Result V E) → base ≡ content → IsPrefix seen history
    → IfOk result (λ looks. AreAnswers base seen 0 asked (items looks)) → IfOk result (λ looks. AreAnswers content history 0 asked (items looks))
seen_is_right items base content seen history asked (Err why) same front are = tt
seen_is_right items base content seen history asked (Ok looks) same front are =
    subst (λ (from : Kept). AreAnswers from history 0 asked (items looks)) same (answers_stay base seen history 0 asked (items looks) front are)
