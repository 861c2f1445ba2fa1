-- A restart from a content that changes have made.
use Rattle.std.proofs.Common.{◌≡◌, true, List, [], ◌∷◌, ◌++◌, map, Option, Some, None, refl, sym, ap, subst}
use Rattle.std.specs.Prelude.{◌||◌, is_some}
use Rattle.std.specs.List.{AllByRecursion, IsDistinct}
use Rattle.std.specs.Option.{option_or}
use Rattle.sw_change.proofs.Apart.{all-last, apart-before}
use Rattle.sw_change.proofs.Sound.{IsSoundRow, made_sound, meets_row}
use Rattle.sw_client.specs.declared.OpenClient.{OpenClient}
use Rattle.sw_data.specs.declared.storage.Kept.{Kept}
use Rattle.sw_data.specs.declared.storage.KeptRegistration.{KeptRegistration}
use Rattle.sw_data.specs.declared.storage.KeptWorker.{KeptWorker}
use Rattle.sw_core.proofs.Adding.{restored_more}
use Rattle.sw_core.specs.Restored.{Restores, IsRestored, quiet_rest}
use Rattle.sw_core.specs.Rows.{chosen_worker}
use Rattle.sw_core.specs.declared.tables.Restored.{Restored}
use Rattle.sw_rules.specs.Restart.{restart}
use Rattle.sw_rules.specs.Storage.{IsMade}
use Rattle.sw_tables.specs.Lent.{lent}

one_is_there : (waiting active : Option KeptWorker) → (is_some waiting || is_some active) ≡ true → (worker : KeptWorker) × (option_or waiting active ≡ Some worker)
one_is_there (Some worker) active is = (worker, refl)
one_is_there None (Some worker) is = (worker, refl)
one_is_there None None is = absurd cc

-- the tables with one registration more of the content
pub one_restored : (content : Kept) → IsMade content → (rows rest : List KeptRegistration) (row : KeptRegistration) (old new : Restored) → rows ++ row ∷ rest ≡ content.registrations → IsRestored rows old
    → ((worker : KeptWorker) → chosen_worker row ≡ Some worker → Restores row worker old new) → IsRestored (rows ++ row ∷ []) new
one_restored content made rows rest row old new is was adds =
    let sound = made_sound content made in
    let one = all-last IsSoundRow rows row rest (subst (AllByRecursion IsSoundRow) (sym is) sound.rows.each) in
    let apart = apart-before meets_row rows row rest (subst (IsDistinct meets_row) (sym is) sound.rows.apart) in
    let there = one_is_there row.waiting row.active one.worker in
    restored_more rows row there.0 old new was (adds there.0 there.1) there.1 apart

-- the state that the tables show
pub state_is : (content : Kept) (tables : Restored) → IsRestored content.registrations tables → tables.caches.rows ≡ content.caches
    → lent tables.map tables.workers tables.registrations tables.clients (quiet_rest tables.preloads tables.caches.rows) ≡ restart content
state_is content tables is caches =
    let none = ap (map (λ (row : OpenClient). row.client)) is.clients in
    cc (is.registrations, is.workers, is.events, none, caches)
