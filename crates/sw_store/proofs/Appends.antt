-- What a disk keeps where changes that wait are written, or where none wait.
use Rattle.std.proofs.Common.{◌≡◌, ◌≢◌, ◌<◌, ◌-◌, ◌^◌, ℕ, List, [], length, Bool, true, false, nat_eq, Some, sym, ◌∙◌, ap}
use Rattle.std.proofs.lemmas.Bool.{eqb-true}
use Rattle.std.proofs.lemmas.List.{nil_from_length}
use Rattle.sw_codec.specs.Spelling.{spelled_all}
use Rattle.sw_data.specs.declared.storage.Change.{Change}
use Rattle.sw_data.specs.declared.storage.Kept.{Kept}
use Rattle.sw_disk.specs.declared.disk.Disk.{Ghosts}
use Rattle.sw_disk.specs.DiskRule.{ForTold}
use Rattle.sw_disk.specs.Image.{Image}
use Rattle.sw_disk.proofs.Images.{told_some}
use Rattle.sw_journal.specs.Journal.{Since}
use Rattle.sw_kept.proofs.Appended.{kept_left}
use Rattle.sw_kept.specs.Keeping.{KeepsNow, Spell}
use Rattle.sw_kept.specs.Stored.{HasKept}
use Rattle.sw_rules.specs.Storage.{kept_after}
use Rattle.sw_store.proofs.Spelled.{nothing_spelled}
use Rattle.sw_twin.specs.Twin.{TwinState}

-- whether bytes are none
pub no_byte : (payload : List ℕ) (test : Bool) → test ≡ nat_eq (length payload) 0 → test ≡ true → payload ≡ []
no_byte payload test is empty = nil_from_length payload (eqb-true (length payload) 0 (sym is ∙ empty))

pub some_byte : (payload : List ℕ) (test : Bool) → test ≡ nat_eq (length payload) 0 → test ≡ false → payload ≢ []
some_byte payload test is not_empty none = let e : false ≡ true = sym not_empty ∙ is ∙ ap (λ (l : List ℕ). nat_eq (length l) 0) none in cc

module _ (all : List Change) (payload : List ℕ) (is : spelled_all all ≡ Some payload) where
  -- no byte waits: no change does
  pub same_kept : (kept : Kept) → payload ≡ [] → kept_after kept all ≡ kept
  same_kept kept none = ap (kept_after kept) (nothing_spelled all (is ∙ ap (λ (l : List ℕ). Some l) none))

  -- some byte waits: some change does
  pub some_spelled : payload ≢ [] → Spell all payload
  some_spelled some = record {
    some = λ none. some (let e : Some payload ≡ Some [] = sym is ∙ ap spelled_all none in cc);
    spelled_is = is;
  }

-- since now a crash leaves what is kept
pub since_now : {D : Type 0} (disk : Ghosts D) (twin : TwinState) (kept : Kept) (now : D) → ((c : Image) → disk.clock now < 2 ^ 64 - 1 → disk.left_since now (disk.clock now) c → disk.may_leave now c)
    → KeepsNow twin kept disk now → ForTold (disk.seen now) (λ image. Since disk now now (HasKept kept))
since_now disk twin kept now only_now keeps =
    told_some (disk.seen now) (λ image. Since disk now now (HasKept kept)) (λ image is going c left.
    kept_left twin kept disk now keeps image is c (only_now c going left))
