-- What begins the entries of a value.
use Rattle.std.proofs.Common.{◌≡◌, List, [], refl, subst, sym}
use mathlib.Core.List.{IsPrefix}

pub nothing_begins : {A : Type 0} (front all : List A) → front ≡ [] → IsPrefix front all
nothing_begins {A = A} front all is = subst (λ (xs : List A). IsPrefix xs all) (sym is) (all, refl)
