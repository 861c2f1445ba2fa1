-- What a crash leaves while a disk is opened.
use Rattle.std.proofs.Common.{◌≡◌, ◌⊎◌, inl, inr, ⊎_elim, ◌+◌, ◌-◌, ◌^◌, ◌<◌, ◌≤◌, ◌∙◌, ℕ, arith, [], ◌∷◌, Option, Some, Result, Ok, Err, IfOk, refl, sym, subst}
use Rattle.std.specs.Prelude.{OnOk}
use Rattle.sw_codec.specs.Spelling.{change_spelling, has_spelling}
use Rattle.sw_data.specs.declared.storage.Change.TheVariants as change
use Rattle.sw_data.specs.declared.storage.Kept.{Kept}
use Rattle.sw_data.specs.Faults.{Rose}
use Rattle.sw_disk.specs.declared.disk.Disk.{Ghosts}
use Rattle.sw_disk.specs.DiskRule.{BothTold, ForTold, capped}
use Rattle.sw_disk.specs.Image.{Image}
use Rattle.sw_disk.specs.Meanings.{LeavesOnly}
use Rattle.sw_disk.proofs.Images.{told_at, told_some}
use Rattle.sw_disk.proofs.Moments.{both, weaker}
use Rattle.sw_journal.specs.Journal.{Since}
use Rattle.sw_journal.specs.Quiet.{LeavesAlone}
use Rattle.sw_kept.specs.Keeping.{KeepsNow, LeavesEither, Spell, StaysTold}
use Rattle.sw_kept.specs.Stored.{HasKept}
use Rattle.sw_store.specs.declared.errors.OpenError.{OpenError}
use Rattle.sw_store.specs.declared.errors.OpenError.TheVariants as error
use Rattle.sw_store.specs.Opened.{HasNoRoom, HasNoted, HasNotedOn, HasOpened, IsContentTooLong, IsLeft, IsOpened, IsRestartTooLong, IsUnopened, kept_restarted}
use Rattle.sw_store.specs.Stores.{StoreState}
use Rattle.sw_twin.specs.Twin.{IsPastFirst, StandsFor, StandsIn, TwinState}

-- what isn't refused as not formatted or bad, whatever was to be answered
pub opened_as : (T U : Type 0) (why : OpenError) → IsOpened {T = T} (Err why) → IsOpened {T = U} (Err why)
opened_as T U error.NoMemory is = tt
opened_as T U error.DiskFault is = tt
opened_as T U error.NotFormatted is = is
opened_as T U (error.BadJournal offset) is = is
opened_as T U (error.Full length needed) is = tt

-- a restart, spelled
pub restarted_spelled : Spell (change.Restarted ∷ []) (10 ∷ [])
unfolding change_spelling has_spelling
restarted_spelled = record { some = λ none. cc none; spelled_is = refl }

module _ {D : Type 0} (disk : Ghosts D) (now : D) (twin : TwinState) (spare : ℕ) where
  abbrev pub roomy : TwinState
  roomy = record twin { journal = record twin.journal { spare = spare } }

  stands_in : (image : Image) → StandsIn twin image → StandsIn roomy image
  stands_in image stands = record { ones = stands.ones; part = stands.part; journal = stands.journal }

  -- more room for a record changes nothing
  pub stands_with_room : StandsFor twin disk now → StandsFor roomy disk now
  stands_with_room stands =
      told_some (disk.seen now) (λ image. StandsIn roomy image × ((c : Image) → disk.may_leave now c → StandsIn roomy c)) (λ image is.
      let there = told_at (disk.seen now) (λ image. StandsIn twin image × ((c : Image) → disk.may_leave now c → StandsIn twin c)) image is stands in
      (stands_in image there.0, λ c left. stands_in c (there.1 c left)))

  pub keeps_with_room : (kept : Kept) → KeepsNow twin kept disk now → KeepsNow roomy kept disk now
  keeps_with_room kept keeps = record { stands = stands_with_room keeps.stands; kept_is = keeps.kept_is }

-- a disk that is as it was when it kept this has no room
pub no_room : {D : Type 0} (disk : Ghosts D) (old new : D) (twin : TwinState) (kept : Kept) (limit from needed : ℕ) → KeepsNow twin kept disk old → new ≡ old → twin.journal.limit ≡ limit
    → IsRestartTooLong twin from needed ⊎ IsContentTooLong kept twin from needed → HasNoRoom disk new limit from needed
no_room disk old new twin kept limit from needed keeps same limit_is why = record {
  twin = twin;
  kept = kept;
  keeps = subst (KeepsNow twin kept disk) (sym same) keeps;
  limit_is = limit_is;
  why = why;
}

-- where nothing was written, and what is read is sure but where the first call failed
pub not_opened : {D : Type 0} (disk : Ghosts D) (old new : D) → LeavesAlone disk old new
    → ((Rose (disk.faults old) (disk.faults new) → IsPastFirst disk old new)
    → ForTold (disk.seen old) (λ image. disk.clock old + 1 < 2 ^ 64 - 1 → (c : Image) → disk.left_since new (disk.clock old + 1) c → c ≡ image)) → IsUnopened disk old new
not_opened disk old new quiet first = record {
  any_moment =
      told_some (disk.seen old) (λ image. LeavesOnly disk old new (λ c. disk.may_leave old c ⊎ IsLeft image c))
      (λ image is. weaker disk old new (disk.may_leave old) (λ c. disk.may_leave old c ⊎ IsLeft image c) (λ c left. inl left) quiet.moments);
  first = λ past.
      told_some (disk.seen old) (λ image. disk.clock old + 1 < 2 ^ 64 - 1 → (c : Image) → disk.left_since new (disk.clock old + 1) c → IsLeft image c) (λ image is going c left. inl
      (told_at (disk.seen old) (λ image. disk.clock old + 1 < 2 ^ 64 - 1 → (c : Image) → disk.left_since new (disk.clock old + 1) c → c ≡ image) image is (first past) going c left));
}

module _ {D : Type 0} (disk : Ghosts D) (old mid new : D) (kept : Kept) (quiet : LeavesAlone disk old mid) (has : ForTold (disk.seen old) (HasKept kept))
    (run : LeavesEither disk mid new kept (kept_restarted kept)) where
  abbrev either : Image → Type 0
  either c = HasKept kept c ⊎ HasKept (kept_restarted kept) c

  run_at : (image : Image) → disk.seen old ≡ Some image → LeavesOnly disk mid new either
  run_at image is = told_at (disk.seen mid) (λ image. LeavesOnly disk mid new either) image (quiet.same ∙ is) run

  is_left : (image : Image) → disk.seen old ≡ Some image → (c : Image) → either c → IsLeft image c
  is_left image is c on = inr (kept, told_at (disk.seen old) (HasKept kept) image is has, on)

  -- at every moment
  pub left_always : ForTold (disk.seen old) (λ image. LeavesOnly disk old new (λ c. disk.may_leave old c ⊎ IsLeft image c))
  left_always =
      told_some (disk.seen old) (λ image. LeavesOnly disk old new (λ c. disk.may_leave old c ⊎ IsLeft image c)) (λ image is.
      let P = λ (c : Image). disk.may_leave old c ⊎ IsLeft image c in
      both disk old mid new P (weaker disk old mid (disk.may_leave old) P (λ c left. inl left) quiet.moments)
      (weaker disk mid new either P (λ c on. inr (is_left image is c on)) (run_at image is)))

  -- since the first call
  pub left_since_first : capped (disk.clock old + 1) ≤ disk.clock mid
      → ForTold (disk.seen old) (λ image. disk.clock old + 1 < 2 ^ 64 - 1 → (c : Image) → disk.left_since mid (disk.clock old + 1) c → c ≡ image)
      → ForTold (disk.seen old) (λ image. disk.clock old + 1 < 2 ^ 64 - 1 → (c : Image) → disk.left_since new (disk.clock old + 1) c → IsLeft image c)
  left_since_first called first =
      told_some (disk.seen old) (λ image. disk.clock old + 1 < 2 ^ 64 - 1 → (c : Image) → disk.left_since new (disk.clock old + 1) c → IsLeft image c) (λ image is going c left.
      ⊎_elim (λ was. inl (told_at (disk.seen old) (λ image. disk.clock old + 1 < 2 ^ 64 - 1 → (c : Image) → disk.left_since mid (disk.clock old + 1) c → c ≡ image) image is first going c was)) (is_left image is c)
      ((run_at image is).before (disk.clock old + 1) c (omega (arith, called, going)) left))

  module _ (called : capped (disk.clock old + 1) ≤ disk.clock mid)
      (first : ForTold (disk.seen old) (λ image. disk.clock old + 1 < 2 ^ 64 - 1 → (c : Image) → disk.left_since mid (disk.clock old + 1) c → c ≡ image)) where
    pub is_unopened : IsUnopened disk old new
    is_unopened = record { any_moment = left_always; first = λ past. left_since_first called first }

    -- the store that goes on
    pub has_opened : (twin : TwinState) → StandsFor twin disk mid → (result : Result StoreState OpenError) → IfOk result (λ store. store.base ≡ kept)
        → IfOk result (λ store. HasNoted kept twin store.twin) → IfOk result (λ store. KeepsNow store.twin (kept_restarted kept) disk new)
        → OnOk result (ForTold (disk.seen mid) (λ image. Since disk new new (HasKept (kept_restarted kept)))) → OnOk result (StaysTold disk mid new)
        → OnOk result (capped (disk.clock mid + 4) ≤ disk.clock new) → disk.clock mid ≤ disk.clock new → disk.faults mid ≤ disk.faults new → IfOk result (HasOpened disk old new)
    has_opened twin stands (Ok store) base noted keeps acknowledged told calls later count = record {
      kept = subst (λ (k : Kept). ForTold (disk.seen old) (HasKept k)) (sym base) has;
      noted =
          told_some (disk.seen old) (HasNotedOn store.base store.twin) (λ image is. record {
            before = twin;
            stands = (told_at (disk.seen mid) (λ image. StandsIn twin image × ((c : Image) → disk.may_leave mid c → StandsIn twin c)) image (quiet.same ∙ is) stands).0;
            noted = subst (λ (k : Kept). HasNoted k twin store.twin) (sym base) noted;
          });
      keeps = subst (λ (k : Kept). KeepsNow store.twin (kept_restarted k) disk new) (sym base) keeps;
      acknowledged = subst (λ (k : Kept). ForTold (disk.seen old) (λ image. Since disk new new (HasKept (kept_restarted k)))) (sym base)
          (subst (λ (seen : Option Image). ForTold seen (λ image. Since disk new new (HasKept (kept_restarted kept)))) quiet.same acknowledged);
      told = subst (λ (seen : Option Image). BothTold seen (disk.seen new) (λ before after. Unit {0})) quiet.same told;
      any_moment = left_always;
      first = left_since_first called first;
      calls = omega (arith, calls, quiet.moments.later);
      later = omega (arith, later, quiet.moments.later);
      faults = omega (arith, quiet.count, count);
    }
    has_opened twin stands (Err why) base noted keeps acknowledged told calls later count = tt
