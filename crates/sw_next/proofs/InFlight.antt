-- What the passes have in flight, by what each has taken up.
use Rattle.std.proofs.Common.{◌≡◌, ◌≤◌, Bool, false, List, [], ◌∷◌, filter, length, Option, Some, None, refl, arith}
use Rattle.std.specs.Prelude.{is_some}
use Rattle.std.specs.List.{list_any}
use Rattle.std.specs.Option.{option_map_or}
use Rattle.sw_data.specs.declared.histories.Task.{Task}
use Rattle.sw_lane.specs.Picked.{in_flight, is_task}

one_more : (test : Task → Bool) (one : Option Task) (flights : List (Option Task))
    → list_any (λ flight. option_map_or test flight false) flights ≡ list_any test (in_flight flights)
    → list_any (λ flight. option_map_or test flight false) (one ∷ flights) ≡ list_any test (in_flight (one ∷ flights))
one_more test None flights rest = rest
one_more test (Some taken) flights rest = grind (arith, rest)

any_taken : (test : Task → Bool) (flights : List (Option Task)) → list_any (λ flight. option_map_or test flight false) flights ≡ list_any test (in_flight flights)
any_taken test [] = refl
any_taken test (one ∷ flights) = one_more test one flights (any_taken test flights)

-- a task is in flight where a pass has taken it up
pub taken_flies : (of : Task) (flights : List (Option Task)) → list_any (λ flight. option_map_or (is_task of) flight false) flights ≡ list_any (is_task of) (in_flight flights)
taken_flies of flights = any_taken (is_task of) flights

counted : (one : Option Task) (flights : List (Option Task)) → length (filter (λ flight. is_some flight) flights) ≡ length (in_flight flights)
    → length (filter (λ flight. is_some flight) (one ∷ flights)) ≡ length (in_flight (one ∷ flights))
counted None flights rest = rest
counted (Some taken) flights rest = grind (arith, rest)

-- as many are in flight as passes have taken one up
pub many_taken : (flights : List (Option Task)) → length (filter (λ flight. is_some flight) flights) ≡ length (in_flight flights)
many_taken [] = refl
many_taken (one ∷ flights) = counted one flights (many_taken flights)

fewer : (one : Option Task) (flights : List (Option Task)) → length (in_flight flights) ≤ length flights → length (in_flight (one ∷ flights)) ≤ length (one ∷ flights)
fewer None flights rest = grind (arith, rest)
fewer (Some taken) flights rest = grind (arith, rest)

pub few_taken : (flights : List (Option Task)) → length (in_flight flights) ≤ length flights
few_taken [] = omega arith
few_taken (one ∷ flights) = fewer one flights (few_taken flights)
