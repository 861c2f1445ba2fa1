-- A navigation preload of a registration that isn't there yet changes no state.
use Rattle.std.proofs.Common.{◌≡◌, ◌∙◌, ◌==◌, ℕ, Bool, false, List, length, Some, ap, arith, if◌then◌else◌}
use Rattle.std.proofs.lemmas.Bool.Decides.{nat_tests}
use Rattle.sw_data.specs.declared.rows.RegistrationRow.{RegistrationRow}
use Rattle.sw_ledgers.specs.Preloaded as preloads
use Rattle.sw_ledgers.specs.Preloaded.{preload_of, preload_value_of}
use Rattle.sw_reg.specs.Table.{registration_at}
use Rattle.sw_rules.specs.State.{Registration}
use Rattle.sw_tables.proofs.Rows.{map_on, within}
use Rattle.sw_tables.specs.Lent.{shown_registration}
use Rattle.sw_tables.specs.Linked.{ArePlaces}
use Rattle.sw_state.specs.Hosted.{Hosted, rest_of, state_of}

-- what a call leaves of the others than the one that it changes
pub at_others : {A : Type 0} (n one bound : ℕ) (new given old : A) → new ≡ (if n == one then given else old) → one ≡ bound → (n == bound) ≡ false → new ≡ old
at_others n one bound new given old is same other = cc (is, same, other)

module _ (host : Hosted) (table : preloads.Table) (are : ArePlaces (λ (row : RegistrationRow). row.number) host.registrations.rows)
    (flags : (n : ℕ) → (n == length host.registrations.rows) ≡ false → preload_of table.rows n ≡ preload_of host.preloads.rows n)
    (values : (n : ℕ) → (n == length host.registrations.rows) ≡ false → preload_value_of table.rows n ≡ preload_value_of host.preloads.rows n) where
  abbrev after : Hosted
  after = record host { preloads = table }

  same : (row : RegistrationRow) → registration_at row.number host.registrations.rows ≡ Some row
      → shown_registration host.scopes (rest_of after) row ≡ shown_registration host.scopes (rest_of host) row
  same row is =
      let low = within (λ (r : RegistrationRow). r.number) row.number host.registrations.rows row are is in
      let other : (row.number == length host.registrations.rows) ≡ false = grind (arith, nat_tests, low) in
      ap (λ (on : Bool). record (shown_registration host.scopes (rest_of host) row) { preload = on; preload_value = preload_value_of table.rows row.number }) (flags row.number other)
      ∙ ap (λ (text : List ℕ). record (shown_registration host.scopes (rest_of host) row) { preload_value = text }) (values row.number other)

  pub same_but : state_of after ≡ state_of host
  same_but =
      ap (λ (shown : List Registration). record (state_of host) { registrations = shown })
      (map_on (λ (r : RegistrationRow). r.number) (shown_registration host.scopes (rest_of after)) (shown_registration host.scopes (rest_of host)) host.registrations.rows are same)
