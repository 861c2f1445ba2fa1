-- A registration that was just made, by the rows of the state.
use Rattle.std.proofs.Common.{◌≡◌, ◌∙◌, true, List, [], ◌∷◌, ◌++◌, map, length, Option, Some, None, option_map, find, refl, sym, ap, arith}
use Rattle.std.specs.Cmp.Lexicographic.{bytes_decides}
use Rattle.std.proofs.lemmas.Bool.Decides.{nat_tests}
use Rattle.std.proofs.lemmas.List.Folds.{find-append}
use Rattle.sw_data.specs.declared.rows.Job.{Job}
use Rattle.sw_data.specs.declared.rows.RegistrationRow.{RegistrationRow}
use Rattle.sw_install.specs.Runs.{is_of_job}
use Rattle.sw_reg.specs.Table.{has_registration, registration_at}
use Rattle.sw_rules.specs.Rows.{is_registration}
use Rattle.sw_rules.specs.State.{Registration}
use Rattle.sw_scope.specs.Scopes.{Scopes}
use Rattle.sw_tables.proofs.Rows.{find_map, within}
use Rattle.sw_tables.specs.Lent.{Rest, shown_registration}
use Rattle.sw_tables.specs.Linked.{ArePlaces}

module _ (before after : Scopes) (rest : Rest) (job : Job) (old new : List RegistrationRow) (row : Registration) (are : ArePlaces (λ (r : RegistrationRow). r.number) old) (made : map (shown_registration after rest) new ≡ map (shown_registration before rest) old ++ row ∷ []) (last : row.number ≡ length old) (key : row.key ≡ job.key) (scope : row.scope ≡ job.scope) where
  absent : registration_at (length old) old ≡ None
  absent = by (registration_at (length old) old) refl
    where
      by : (o : Option RegistrationRow) → registration_at (length old) old ≡ o → registration_at (length old) old ≡ None
      by None is = is
      by (Some r) is =
          let below = within (λ (x : RegistrationRow). x.number) (length old) old r are is in
          let none : ⊥ = omega (arith, below) in absurd none

  found : option_map (shown_registration after rest) (registration_at (length old) new) ≡ Some row
  found =
      sym (find_map (is_registration (length old)) (shown_registration after rest) new)
      ∙ (ap (λ (rows : List Registration). find (is_registration (length old)) rows) made
      ∙ (find-append (is_registration (length old)) (map (shown_registration before rest) old) (row ∷ [])
      ∙ grind (arith, nat_tests, find_map (is_registration (length old)) (shown_registration before rest) old, absent, last)))

  pub made_names : has_registration (is_of_job job) (length old) new ≡ true
  made_names = by (registration_at (length old) new) refl
    where
      by : (o : Option RegistrationRow) → registration_at (length old) new ≡ o → has_registration (is_of_job job) (length old) new ≡ true
      by None is = absurd (grind (arith, found, is))
      by (Some r) is =
          let same : shown_registration after rest r ≡ row = cc (found, is) in
          let of_key = (bytes_decides r.key job.key).1 (ap (λ (x : Registration). x.key) same ∙ key) in
          let of_scope = (bytes_decides r.scope job.scope).1 (ap (λ (x : Registration). x.scope) same ∙ scope) in
          grind (arith, is, of_key, of_scope)
