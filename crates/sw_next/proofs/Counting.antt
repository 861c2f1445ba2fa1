-- The registrations that are mapped are as many in the state as in the tables.
use Rattle.std.proofs.Common.{◌≡◌, Bool, List, [], ◌∷◌, filter, length, map, refl, arith}
use Rattle.sw_data.specs.declared.rows.RegistrationRow.{RegistrationRow}
use Rattle.sw_rules.specs.History.{mapped_registrations}
use Rattle.sw_rules.specs.Rows.{is_number}
use Rattle.sw_rules.specs.State.{Registration}
use Rattle.sw_scope.specs.Scopes.{maps}
use Rattle.sw_tables.specs.Lent.{shown_registration}
use Rattle.sw_state.specs.Hosted.{Hosted, rest_of, state_of}

count_map : {X Y : Type 0} (test : Y → Bool) (f : X → Y) (xs : List X) → length (filter (λ x. test (f x)) xs) ≡ length (filter test (map f xs))
count_map test f [] = refl
count_map test f (x ∷ xs) = grind (arith, count_map test f xs)

pub mapped_shown : (host : Hosted) → length (filter (λ (row : RegistrationRow). is_number (maps host.scopes row.key row.scope) row.number) host.registrations.rows)
    ≡ mapped_registrations (state_of host)
mapped_shown host =
    count_map (λ (row : Registration). row.mapped) (shown_registration host.scopes (rest_of host)) host.registrations.rows
