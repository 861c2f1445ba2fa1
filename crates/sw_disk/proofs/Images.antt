-- Images of a disk that tells, from call to call, for the callers of a disk.
use Rattle.std.proofs.Common.{◌≡◌, List, ℕ, Option, Some, None, Result, Ok, Err, refl, sym, ◌∙◌, ap, subst}
use Rattle.std.specs.Prelude.{OnOk}
use Rattle.sw_disk.specs.declared.part.Part.{Part}
use Rattle.sw_disk.specs.declared.part.Part.TheVariants.{Root, Left, Right}
use Rattle.sw_disk.specs.Image.{Image, get, put}
use Rattle.sw_disk.specs.declared.part.Parts.{Parts}
use Rattle.sw_disk.specs.DiskRule.{ForTold, BothTold, OnPart}

pub get-put : (part : Part) (bytes : List ℕ) (image : Image) → get part (put part bytes image) ≡ bytes
get-put Root bytes image = refl
get-put Left bytes image = refl
get-put Right bytes image = refl

pub put-put : (part : Part) (bytes other : List ℕ) (image : Image) → put part bytes (put part other image) ≡ put part bytes image
put-put Root bytes other image = refl
put-put Left bytes other image = refl
put-put Right bytes other image = refl

pub put-get : {T : Type 0} (part : Part) (parts : Parts T) → put part (get part parts) parts ≡ parts
put-get Root parts = refl
put-get Left parts = refl
put-get Right parts = refl

-- what holds of each image that is told
pub told_some : (seen : Option Image) (Q : Image → Type 0) → ((image : Image) → seen ≡ Some image → Q image) → ForTold seen Q
told_some None Q each = tt
told_some (Some image) Q each = each image refl

pub told_at : (seen : Option Image) (P : Image → Type 0) (image : Image) → seen ≡ Some image → ForTold seen P → P image
told_at seen P image is told = subst (λ s. ForTold s P) is told

pub told_next : (old new : Option Image) (R : Image → Image → Type 0) (image : Image) → old ≡ Some image → BothTold old new R → (next : Image) × (new ≡ Some next) × R image next
told_next old new R image is tells = next new (subst (λ s. BothTold s new R) is tells)
  where
    next : (new : Option Image) → BothTold (Some image) new R → (next : Image) × (new ≡ Some next) × R image next
    next None tells = absurd tells
    next (Some now) tells = (now, refl, tells)

pub told_then : (old mid new : Option Image) (R S T : Image → Image → Type 0) → ((a b c : Image) → old ≡ Some a → R a b → S b c → T a c)
    → BothTold old mid R → BothTold mid new S → BothTold old new T
told_then None None None R S T join one two = tt
told_then None None (Some c) R S T join one two = absurd two
told_then None (Some b) new R S T join one two = absurd one
told_then (Some a) None new R S T join one two = absurd one
told_then (Some a) (Some b) None R S T join one two = absurd two
told_then (Some a) (Some b) (Some c) R S T join one two = join a b c refl one two

-- what holds after Ok, so much as follows from it
pub ok_so : {T E : Type 0} (result : Result T E) (P Q : Type 0) → (P → Q) → OnOk result P → OnOk result Q
ok_so (Ok value) P Q so holds = so holds
ok_so (Err error) P Q so holds = tt

-- two steps of one part are one
pub two_steps : (part : Part) (first second both : List ℕ → List ℕ → Type 0) (a b c : Image) → OnPart part first a b → OnPart part second b c
    → (first (get part a) (get part b) → second (get part b) (get part c) → both (get part a) (get part c)) → OnPart part both a c
two_steps part first second both a b c one two join = record {
  here = join one.here two.here;
  elsewhere = two.elsewhere ∙ ap (λ i. put part (get part c) i) one.elsewhere ∙ put-put part (get part c) (get part b) a;
}

-- a step that a call did
pub done : (part : Part) (step : List ℕ → List ℕ → Type 0) (bytes : List ℕ) (old new : Image) → new ≡ put part bytes old → step (get part old) bytes → OnPart part step old new
done part step bytes old new is stepped =
    let there : get part new ≡ bytes = ap (get part) is ∙ get-put part bytes old in
    record {
      here = subst (step (get part old)) (sym there) stepped;
      elsewhere = is ∙ ap (λ b. put part b old) (sym there);
    }
