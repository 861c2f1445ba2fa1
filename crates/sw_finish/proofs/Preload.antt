-- A registration gets its navigation preload.
use Rattle.std.proofs.Common.{◌≡◌, ◌∙◌, ◌==◌, ℕ, Bool, true, false, List, [], ◌∷◌, map, refl, ap, if◌then◌else◌}
use Rattle.sw_data.specs.declared.rows.RegistrationRow.{RegistrationRow}
use Rattle.sw_ledgers.specs.Preloaded as preloads
use Rattle.sw_ledgers.specs.Preloaded.{preload_of, preload_value_of}
use Rattle.sw_rules.specs.Preloading.{set_preload}
use Rattle.sw_rules.specs.Rows.{changed, is_registration}
use Rattle.sw_rules.specs.State.{Registration}
use Rattle.sw_scope.specs.Scopes.{Scopes}
use Rattle.sw_tables.specs.Lent.{Rest, shown_registration}
use Rattle.sw_state.specs.Hosted.{Hosted, rest_of, state_of}

module _ (scopes : Scopes) (old new : Rest) (registration : ℕ) (on : Bool) (text : List ℕ)
    (flags : (n : ℕ) → new.preload n ≡ (if n == registration then on else old.preload n))
    (values : (n : ℕ) → new.preload_value n ≡ (if n == registration then text else old.preload_value n)) where
  abbrev given : Registration → Registration
  given row = record row { preload = on; preload_value = text }

  one_shown : (row : RegistrationRow) → shown_registration scopes new row ≡ (if row.number == registration then given (shown_registration scopes old row) else shown_registration scopes old row)
  one_shown row =
      ap (λ (b : Bool). record (shown_registration scopes old row) { preload = b; preload_value = new.preload_value row.number }) (flags row.number)
      ∙ (ap (λ (v : List ℕ). record (shown_registration scopes old row) { preload = if row.number == registration then on else old.preload row.number; preload_value = v }) (values row.number)
      ∙ by (row.number == registration))
    where
      by : (b : Bool) → record (shown_registration scopes old row) { preload = if b then on else old.preload row.number; preload_value = if b then text else old.preload_value row.number }
          ≡ (if b then given (shown_registration scopes old row) else shown_registration scopes old row)
      by true = refl
      by false = refl

  all_shown : (rows : List RegistrationRow) → map (shown_registration scopes new) rows ≡ changed (is_registration registration) given (map (shown_registration scopes old) rows)
  all_shown [] = refl
  all_shown (row ∷ rows) =
      ap (λ (first : Registration). first ∷ map (shown_registration scopes new) rows) (one_shown row)
      ∙ ap (λ (rest : List Registration). (if row.number == registration then given (shown_registration scopes old row) else shown_registration scopes old row) ∷ rest) (all_shown rows)

pub preload_set : (host : Hosted) (table : preloads.Table) (registration : ℕ) (on : Bool) (text : List ℕ)
    → ((n : ℕ) → preload_of table.rows n ≡ (if n == registration then on else preload_of host.preloads.rows n))
    → ((n : ℕ) → preload_value_of table.rows n ≡ (if n == registration then text else preload_value_of host.preloads.rows n))
    → state_of (record host { preloads = table }) ≡ (set_preload (state_of host) registration on text).state
unfolding set_preload
preload_set host table registration on text flags values =
    ap (λ (shown : List Registration). record (state_of host) { registrations = shown })
    (all_shown host.scopes (rest_of host) (rest_of (record host { preloads = table })) registration on text flags values host.registrations.rows)
