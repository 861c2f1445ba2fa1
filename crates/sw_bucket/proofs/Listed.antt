-- Lists of what some elements give.
use Rattle.std.proofs.Common.{◌≡◌, ◌∙◌, ℕ, ◌+◌, ◌<◌, List, [], ◌∷◌, ◌++◌, get_or, length, take, Option, Some, None, refl, sym, ap}
use Rattle.std.specs.List.{cons_option, filter_map}
use Rattle.std.specs.Option.{option_to_list}
use Rattle.std.proofs.lemmas.List.{take_more}
use Rattle.std.proofs.lemmas.List.Elements.{filter_map-append}

-- what one more element gives
pub one_more : {X Y : Type 0} (f : X → Option Y) (xs : List X) (at : ℕ) (x : X) → at < length xs → x ≡ get_or xs at x
    → filter_map f (take (at + 1) xs) ≡ filter_map f (take at xs) ++ option_to_list (f x)
one_more {X = X} {Y = Y} f xs at x inside is =
    ap (filter_map f) (take_more xs at x inside)
    ∙ (filter_map-append f (take at xs) (get_or xs at x ∷ [])
    ∙ ap (λ own. filter_map f (take at xs) ++ own) (one (f (get_or xs at x)) ∙ ap (λ y. option_to_list (f y)) (sym is)))
  where
    one : (o : Option Y) → cons_option o [] ≡ option_to_list o
    one None = refl
    one (Some y) = refl
