-- The registrations that a client is told of, one place after another.
use Rattle.std.proofs.Common.{◌≡◌, ◌∙◌, ℕ, zero, suc, ◌+◌, ◌==◌, ◌&&◌, Bool, List, [], ◌∷◌, ◌++◌, map, filter, bytes_eq, drop, length, Option, Some, None, refl, ap, sym, arith}
use Rattle.std.proofs.Math.Seq.{drop-nil}
use Rattle.std.specs.Option.{option_to_list}
use Rattle.std.specs.Prelude.{find}
use Rattle.std.specs.List.{range_with_len}
use Rattle.std.proofs.lemmas.Bool.Decides.{nat_tests}
use Rattle.std.proofs.lemmas.List.{append_assoc, map-append}
use Rattle.std.proofs.lemmas.List.Elements.{filter-append}
use Rattle.sw_data.specs.declared.answers.Answer.TheVariants as answer
use Rattle.sw_data.specs.declared.rows.ClientRow.{ClientRow}
use Rattle.sw_data.specs.declared.rows.RegistrationRow.{RegistrationRow}
use Rattle.sw_rules.specs.Clients.{get_registrations}
use Rattle.sw_rules.specs.Rows.{client_row}
use Rattle.sw_rules.specs.State.{State}
use Rattle.sw_rules.specs.Told.{Outcome, answered}
use Rattle.sw_scope.specs.Scopes.{Scopes}
use Rattle.sw_state.specs.Hosted.{Hosted, rest_of, state_of}
use Rattle.sw_tables.specs.Lent.{Rest, shown_registration}
use Rattle.sw_tables.specs.Linked.{ArePlaces}
use Rattle.sw_pages.specs.Listed.{is_listed}

module _ {X : Type 0} (number : X → ℕ) where
  step_from : (base n : ℕ) (xs : List X) → map number xs ≡ range_with_len base (length xs)
      → drop n xs ≡ option_to_list (find (λ row. number row == base + n) xs) ++ drop (n + 1) xs
  step_from base n [] are = drop-nil n ∙ sym (drop-nil (n + 1))
  step_from base zero (x ∷ xs) are =
      let here : number x ≡ base = cc in
      grind (arith, nat_tests, here)
  step_from base (suc n) (x ∷ xs) are =
      let here : number x ≡ base = cc in
      let rest : map number xs ≡ range_with_len (base + 1) (length xs) = cc in
      let is : base + suc n ≡ base + 1 + n = omega arith in
      grind (arith, nat_tests, here, is, step_from (base + 1) n xs rest)

  -- the rows from a place on: the row that is there, and those behind it
  step : (n : ℕ) (xs : List X) → ArePlaces number xs → drop n xs ≡ option_to_list (find (λ row. number row == n) xs) ++ drop (n + 1) xs
  step n xs are = let is : 0 + n ≡ n = omega arith in step_from 0 n xs are ∙ ap (λ m. option_to_list (find (λ row. number row == m) xs) ++ drop (n + 1) xs) is

  -- those that are listed from a place on
  pub more : (test : X → Bool) (found : List ℕ) (n : ℕ) (xs : List X) → ArePlaces number xs
      → (found ++ map number (filter test (option_to_list (find (λ row. number row == n) xs)))) ++ map number (filter test (drop (n + 1) xs)) ≡ found ++ map number (filter test (drop n xs))
  more test found n xs are =
      let here = option_to_list (find (λ row. number row == n) xs) in
      append_assoc found (map number (filter test here)) (map number (filter test (drop (n + 1) xs)))
      ∙ ap (λ later. found ++ later)
      (sym (map-append number (filter test here) (filter test (drop (n + 1) xs)))
      ∙ ap (map number) (sym (filter-append test here (drop (n + 1) xs)) ∙ ap (filter test) (sym (step n xs are))))

-- what is listed is what the state lists
pub listed_shown : (scopes : Scopes) (rest : Rest) (key : List ℕ) (rows : List RegistrationRow)
    → map (λ row. row.number) (filter (λ row. row.mapped && bytes_eq row.key key) (map (shown_registration scopes rest) rows)) ≡ map (λ row. row.number) (filter (is_listed scopes key) rows)
listed_shown scopes rest key [] = refl
listed_shown scopes rest key (row ∷ rows) = grind (arith, listed_shown scopes rest key rows)

abbrev by_client : State → Option ClientRow → Outcome
by_client state o =
    elim o [
      | None ↦ answered state answer.NoClient
      | Some client ↦
          answered state
          (answer.Registrations
          (map (λ row. row.number) (filter (λ row. row.mapped && bytes_eq row.key client.key) state.registrations)))
    ]

-- the registrations of a client that is there
pub listed_here : (host : Hosted) (n : ℕ) (row : ClientRow) (found : List ℕ)
    → Some row ≡ client_row (state_of host) n → found ≡ map (λ row. row.number) (filter (is_listed host.scopes row.key) host.registrations.rows)
    → get_registrations (state_of host) n ≡ answered (state_of host) (answer.Registrations found)
listed_here host n row found here is =
    sym (ap (by_client (state_of host)) here)
    ∙ ap (λ numbers. answered (state_of host) (answer.Registrations numbers)) (listed_shown host.scopes (rest_of host) row.key host.registrations.rows ∙ sym is)
