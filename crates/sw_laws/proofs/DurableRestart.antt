-- A restart leaves the registrations in order.
use Rattle.std.proofs.Common.{◌≡◌, ◌∙◌, ℕ, ◌+◌, leb, Bool, true, false, ◌&&◌, ◌||◌, ◌==◌, List, [], ◌∷◌, map, Option, Some, None, option_map, length, refl, sym, ap, subst, arith}
use Rattle.std.specs.List.{list_all, list_any, enumerate_from}
use Rattle.std.specs.Prelude.{is_some}
use Rattle.std.proofs.lemmas.Bool.{and_from, and_parts}
use Rattle.std.proofs.lemmas.Bool.Decides.{nat_tests}
use Rattle.sw_data.specs.declared.storage.Kept.{Kept}
use Rattle.sw_data.specs.declared.storage.KeptRegistration.{KeptRegistration}
use Rattle.sw_data.specs.declared.workers.Slot.TheVariants as slot
use Rattle.sw_rules.specs.Installing.{first_counter, kept_worker}
use Rattle.sw_rules.specs.Restart.{restart, restored_registration, restored_workers}
use Rattle.sw_rules.specs.Rows.{in_slot, is_number}
use Rattle.sw_rules.specs.State.{Registration, Worker}
use Rattle.sw_rules.specs.Storage.{IsMade}
use Rattle.sw_laws.specs.Coherent.{apart}
use Rattle.sw_laws.proofs.Contents.{found_in, is_worked, same_first, slots_in}
use Rattle.sw_laws.proofs.KeptRechecks.{Orderly, mapped_some}
use Rattle.sw_laws.proofs.Lists.{all_weaker}
use Rattle.sw_laws.proofs.Ordered.{has_place, is_below, is_fresh}
use Rattle.sw_laws.proofs.Places.{found_any}
use Rattle.sw_laws.proofs.Reopened.{made_worked, restored_active, restored_of, restored_there}
use Rattle.sw_laws.proofs.Restarts.{made_sound, restart-coherent}

-- the registrations that are restored from a number on
abbrev restored : ℕ → List KeptRegistration → List Registration
restored from rows = map restored_registration (enumerate_from from rows)

-- the place of a registration is its number
all_numbered : (rows : List KeptRegistration) (from : ℕ) → list_all (λ row. leb from row.number && is_number row.first row.number) (restored from rows) ≡ true
all_numbered [] from = refl
all_numbered (row ∷ rows) from = grind (arith, nat_tests, all_weaker (λ (r : Registration). leb (from + 1) r.number && is_number r.first r.number) (λ r. leb from r.number && is_number r.first r.number) (λ r is. grind (arith, nat_tests, is)) (restored (from + 1) rows) (all_numbered rows (from + 1)))

later_place : (from number : ℕ) (first : Option ℕ) → leb (from + 1) number ≡ true → is_number first number ≡ true → is_number first from ≡ false
later_place from number None low is = refl
later_place from number (Some n) low is = grind (arith, nat_tests, low, is)

restored_firsts : (rows : List KeptRegistration) (from : ℕ) → apart same_first (restored from rows) ≡ true
restored_firsts [] from = refl
restored_firsts (row ∷ rows) from =
    and_from _ _ (all_weaker (λ (r : Registration). leb (from + 1) r.number && is_number r.first r.number) _ (λ r is. grind (arith, later_place from r.number r.first, is)) (restored (from + 1) rows) (all_numbered rows (from + 1))) (restored_firsts rows (from + 1))

restored_count : (rows : List KeptRegistration) (from : ℕ) → first_counter (restored from rows) ≡ length rows
restored_count [] from = refl
restored_count (row ∷ rows) from = cc (restored_count rows (from + 1))

restored_below : (rows : List KeptRegistration) (from count : ℕ) → from + length rows ≡ count → list_all (λ row. is_below count row.first) (restored from rows) ≡ true
restored_below [] from count is = refl
restored_below (row ∷ rows) from count is =
    let more : from + 1 + length rows ≡ count = omega (arith, is) in
    and_from _ _ (grind (arith, nat_tests, is)) (restored_below rows (from + 1) count more)

restored_fresh : (rows : List KeptRegistration) (from : ℕ) → list_all is_fresh (restored from rows) ≡ true
restored_fresh [] from = refl
restored_fresh (row ∷ rows) from = restored_fresh rows (from + 1)

-- each restored registration has its worker
abbrev has_active : List Worker → Registration → Bool
has_active workers row = row.mapped && is_some row.first && list_any (λ w. w.registration == row.number && in_slot slot.Active w.state) workers

head_worked : (w : Worker) (ws : List Worker) (from : ℕ) (row : KeptRegistration) → w.registration ≡ from → in_slot slot.Active w.state ≡ true → has_active (w ∷ ws) (restored_registration (from, row)) ≡ true
head_worked w ws from row of active = grind (arith, nat_tests, of, active)

worked_more : (w : Worker) (ws : List Worker) (rows : List Registration) → list_all (has_active ws) rows ≡ true → list_all (has_active (w ∷ ws)) rows ≡ true
worked_more w ws rows is = all_weaker (has_active ws) (has_active (w ∷ ws)) (λ r here. grind (arith, here)) rows is

restored_worked : (rows : List KeptRegistration) (number from : ℕ) → list_all (λ row. is_some row.waiting || is_some row.active) rows ≡ true → list_all (has_active (restored_workers number (enumerate_from from rows))) (restored from rows) ≡ true
restored_worked [] number from worked = refl
restored_worked (row ∷ rows) number from worked =
    let parts = and_parts (is_some row.waiting || is_some row.active) (list_all (λ (r : KeptRegistration). is_some r.waiting || is_some r.active) rows) worked in
    let there = restored_there number from row parts.0 in
    let later = restored_workers (number + 1) (enumerate_from (from + 1) rows) in
    let workers : restored_workers number (enumerate_from from (row ∷ rows)) ≡ there.0 ∷ later = grind (arith, there.1) in
    subst (λ (ws : List Worker). list_all (has_active ws) (restored from (row ∷ rows)) ≡ true) (sym workers)
    (and_from _ _ (head_worked there.0 later from row (restored_of number from row there.0 there.1) (restored_active number from row there.0 there.1))
    (worked_more there.0 later (restored (from + 1) rows) (restored_worked rows (number + 1) (from + 1) parts.1)))

active_worked : (workers : List Worker) (number : ℕ) → list_any (λ w. w.registration == number && in_slot slot.Active w.state) workers ≡ true → is_worked (slots_in workers number) ≡ true
unfolding slots_in
active_worked workers number is =
    let found = found_any (λ w. w.registration == number && in_slot slot.Active w.state) workers is in
    let active : is_some (option_map kept_worker (found_in workers slot.Active number)) ≡ true = mapped_some kept_worker (found_in workers slot.Active number) ∙ ap is_some found.1 in
    grind (arith, active)

place_of : (workers : List Worker) (row : Registration) → has_active workers row ≡ true → has_place workers row ≡ true
place_of workers row is = grind (arith, is, active_worked workers row.number)

pub restart_orderly : (base : Kept) → IsMade base → Orderly (restart base)
restart_orderly base made =
    let rows = base.registrations in
    record {
      order = record {
        sound = (restart-coherent base (made_sound base made)).registrations;
        firsts = restored_firsts rows 0;
        below = restored_below rows 0 (first_counter (restored 0 rows)) (omega (arith, restored_count rows 0));
        placed = all_weaker (has_active (restored_workers 0 (enumerate_from 0 rows))) (has_place (restored_workers 0 (enumerate_from 0 rows))) (place_of (restored_workers 0 (enumerate_from 0 rows))) (restored 0 rows) (restored_worked rows 0 0 (made_worked base made));
        fresh = restored_fresh rows 0;
      };
      jobs = refl;
    }
