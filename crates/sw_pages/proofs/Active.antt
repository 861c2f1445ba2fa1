-- The active worker of the registration that an address matches.
use Rattle.std.proofs.Common.{◌≡◌, ◌∙◌, ℕ, true, List, Option, Some, None, option_map, option_and_then, refl, ap, arith}
use Rattle.sw_data.specs.Addresses.{resolved, same_origin}
use Rattle.sw_data.specs.declared.answers.Answer.TheVariants as answer
use Rattle.sw_data.specs.declared.answers.Cause.TheVariants as cause
use Rattle.sw_data.specs.declared.rows.ClientRow.{ClientRow}
use Rattle.sw_rules.specs.Clients.{get_registration, ready, ready_registration, registration_at, registration_or_undefined}
use Rattle.sw_rules.specs.Rows.{active_worker_number, client_row, matched_registration_number}
use Rattle.sw_rules.specs.State.{State}
use Rattle.sw_rules.specs.Told.{Outcome, answered, refused, type_error}
use Rattle.sw_pages.specs.Active.{active_match}

-- ---- the parts of what is found

abbrev pub first : ℕ × ℕ → ℕ
first found = found.0

abbrev pub second : ℕ × ℕ → ℕ
second found = found.1

pub firsts : (f : ℕ → Option ℕ) (o : Option ℕ)
    → option_map first (option_and_then (λ registration. option_map (λ worker. (worker, registration)) (f registration)) o) ≡ option_and_then f o
firsts f None = refl
firsts f (Some n) = by (f n)
  where
    by : (o : Option ℕ) → option_map first (option_map (λ worker. (worker, n)) o) ≡ o
    by None = refl
    by (Some w) = refl

pub seconds : (f : ℕ → Option ℕ) (o : Option ℕ)
    → option_map second (option_and_then (λ registration. option_map (λ worker. (worker, registration)) (f registration)) o)
    ≡ option_and_then (λ registration. option_map (λ worker. registration) (f registration)) o
seconds f None = refl
seconds f (Some n) = by (f n)
  where
    by : (o : Option ℕ) → option_map second (option_map (λ worker. (worker, n)) o) ≡ option_map (λ worker. n) o
    by None = refl
    by (Some w) = refl

-- ---- a client that asks

abbrev by_client : State → Option ClientRow → Option Outcome
by_client state o =
    elim o [
      | None ↦ Some (answered state answer.NoClient)
      | Some client ↦
          option_map (λ registration. answered state (answer.Registration registration)) (ready_registration state client)
    ]

module _ (state : State) (n : ℕ) (row : ClientRow) (here : Some row ≡ client_row state n) where
  -- a client's registration is ready
  pub ready_here : (address : List ℕ) (found : ℕ × ℕ) → address ≡ row.url → Some found ≡ active_match state row.key address
      → Some (answered state (answer.Registration found.1)) ≡ ready state n
  ready_here address found own is =
      let one : Some found.1 ≡ ready_registration state row =
      ap (option_map second) (is ∙ ap (active_match state row.key) own)
      ∙ seconds (active_worker_number state) (matched_registration_number state row.key row.url) in
      ap (option_map (λ registration. answered state (answer.Registration registration))) one ∙ ap (by_client state) here

  -- it isn't yet
  pub not_ready : (address : List ℕ) → address ≡ row.url → None ≡ active_match state row.key address → None ≡ ready state n
  not_ready address own is =
      let none : None ≡ ready_registration state row =
      ap (option_map second) (is ∙ ap (active_match state row.key) own)
      ∙ seconds (active_worker_number state) (matched_registration_number state row.key row.url) in
      ap (option_map (λ registration. answered state (answer.Registration registration))) none ∙ ap (by_client state) here

-- the registration of an address of a client's origin
pub matched_here : (state : State) (row : ClientRow) (url address : List ℕ) (found : Option ℕ) → same_origin url row.url ≡ true → address ≡ url
    → found ≡ matched_registration_number state row.key address → registration_at state row url ≡ answered state (registration_or_undefined found)
matched_here state row url address found same own is = grind (arith, same, own, is)

abbrev by_url : State → ClientRow → Option (List ℕ) → Outcome
by_url state row found =
    elim found [ None ↦ refused state (type_error cause.Unparsed) | Some url ↦ registration_at state row url ]

abbrev by_asking : State → List ℕ → Option ClientRow → Outcome
by_asking state text found =
    elim found [ None ↦ answered state answer.NoClient | Some row ↦ by_url state row (resolved text row.url) ]

-- the registration that a client looks up
pub looked_up : (state : State) (n : ℕ) (row : ClientRow) (text url : List ℕ) → client_row state n ≡ Some row → resolved text row.url ≡ Some url
    → get_registration state n text ≡ registration_at state row url
looked_up state n row text url here is = ap (by_asking state text) here ∙ ap (by_url state row) is
