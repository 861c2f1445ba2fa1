-- The line of an address by its place.
use Rattle.std.proofs.Common.{◌≡◌, ℕ, zero, suc, ◌+◌, ◌-◌, min, Bool, true, false, List, [], ◌∷◌, ◌++◌, bytes_eq, filter, Some, length, refl, sym, subst, arith, append_assoc, length-append, slice_get, if◌then◌else◌}
use Rattle.std.specs.Option.{option_and_then}
use Rattle.sw_data.specs.Network.{drawn_from}
use Rattle.sw_net.specs.Places.{drawn_place, places_from}

at_end : {X : Type 0} (before : List X) (x : X) (rest : List X) → slice_get (before ++ x ∷ rest) (length before) ≡ Some x
at_end [] x rest = refl
at_end (y ∷ before) x rest = at_end before x rest

module _ {L : Type 0} (address_of : L → List ℕ) (address : List ℕ) where
  -- the lines of the address
  abbrev own_lines : List L → List L
  own_lines lines = filter (λ line. bytes_eq (address_of line) address) lines

  -- the address has as many lines as places
  as_many : (at : ℕ) (lines : List L) → length (places_from address_of at lines address) ≡ length (own_lines lines)
  as_many at [] = refl
  as_many at (line ∷ lines) = grind (arith, as_many (suc at) lines)

  -- the same with one more line before the others
  one_more : (before : List L) (line : L) (lines : List L)
      → ((n : ℕ) → slice_get (own_lines lines) n
      ≡ option_and_then (slice_get ((before ++ line ∷ []) ++ lines)) (slice_get (places_from address_of (length (before ++ line ∷ [])) lines address) n))
      → (number : ℕ) → slice_get (own_lines (line ∷ lines)) number
      ≡ option_and_then (slice_get (before ++ line ∷ lines)) (slice_get (places_from address_of (length before) (line ∷ lines) address) number)
  one_more before line lines rest number = by (bytes_eq (address_of line) address) number
    where
      all : List L
      all = before ++ line ∷ lines

      longer : length (before ++ line ∷ []) ≡ suc (length before)
      longer = let sum = length-append before (line ∷ []) in omega (arith, sum)

      later : (n : ℕ) → slice_get (own_lines lines) n
          ≡ option_and_then (slice_get all) (slice_get (places_from address_of (suc (length before)) lines address) n)
      later n =
          subst (λ k. slice_get (own_lines lines) n ≡ option_and_then (slice_get all) (slice_get (places_from address_of k lines address) n)) longer
          (subst (λ (l : List L). slice_get (own_lines lines) n
          ≡ option_and_then (slice_get l) (slice_get (places_from address_of (length (before ++ line ∷ [])) lines address) n))
          (append_assoc before (line ∷ []) lines) (rest n))

      by : (own : Bool) (n : ℕ) → slice_get (if own then line ∷ own_lines lines else own_lines lines) n
          ≡ option_and_then (slice_get all) (slice_get
          (if own then length before ∷ places_from address_of (suc (length before)) lines address
          else places_from address_of (suc (length before)) lines address) n)
      by true zero = sym (at_end before line lines)
      by true (suc n) = later n
      by false n = later n

  -- the line of the address that stands at the place of the same number
  at_place : (before lines : List L) (number : ℕ)
      → slice_get (own_lines lines) number
      ≡ option_and_then (slice_get (before ++ lines)) (slice_get (places_from address_of (length before) lines address) number)
  at_place before [] number = refl
  at_place before (line ∷ lines) number = one_more before line lines (at_place (before ++ line ∷ []) lines) number

  -- the line that a fetch gets stands at its place
  pub drawn_at : (lines : List L) (number : ℕ)
      → option_and_then (slice_get lines) (drawn_place address_of lines address number)
      ≡ drawn_from address_of lines address number
  drawn_at lines number =
      sym (subst (λ count. drawn_from address_of lines address number
      ≡ option_and_then (slice_get lines) (slice_get (places_from address_of 0 lines address) (min number (count - 1))))
      (sym (as_many 0 lines)) (at_place [] lines (min number (length (own_lines lines) - 1))))
