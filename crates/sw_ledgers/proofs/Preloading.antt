-- The navigation preloads of a map by registration: what is found, and what after one is put.
use Rattle.std.proofs.Common.{◌≡◌, ℕ, false, ◌==◌, nat_eq, List, [], ◌∷◌, refl, arith, if◌then◌else◌}
use Rattle.std.specs.Prelude.{codes}
use Rattle.std.specs.Option.{option_map_or}
use Rattle.std.specs.Map.{lookup}
use Rattle.std.proofs.lemmas.Bool.Decides.{nat_tests}
use Rattle.indexmap.specs.IndexMap.{insert_entry}
use Rattle.sw_ledgers.specs.declared.preloads.Preload.{Preload}
use Rattle.sw_ledgers.specs.Preloaded.{preload_of, preload_value_of, rows_of}

pub flag_found : (n : ℕ) (entries : List (ℕ × Preload)) → preload_of (rows_of entries) n ≡ option_map_or (λ preload. preload.on) (lookup (nat_eq n) entries) false
flag_found n [] = refl
flag_found n (entry ∷ entries) = grind (arith, nat_tests, flag_found n entries)

pub value_found : (n : ℕ) (entries : List (ℕ × Preload))
    → preload_value_of (rows_of entries) n ≡ option_map_or (λ preload. preload.value) (lookup (nat_eq n) entries) (codes "true")
value_found n [] = refl
value_found n (entry ∷ entries) = grind (arith, nat_tests, value_found n entries)

-- what each registration has, after one of them got it
pub flag_put : (n registration : ℕ) (new : Preload) (entries : List (ℕ × Preload))
    → preload_of (rows_of (insert_entry nat_eq entries registration new)) n ≡ (if n == registration then new.on else preload_of (rows_of entries) n)
flag_put n registration new [] = grind (arith, nat_tests)
flag_put n registration new (entry ∷ entries) = grind (arith, nat_tests, flag_put n registration new entries)

pub value_put : (n registration : ℕ) (new : Preload) (entries : List (ℕ × Preload))
    → preload_value_of (rows_of (insert_entry nat_eq entries registration new)) n
    ≡ (if n == registration then new.value else preload_value_of (rows_of entries) n)
value_put n registration new [] = grind (arith, nat_tests)
value_put n registration new (entry ∷ entries) = grind (arith, nat_tests, value_put n registration new entries)
