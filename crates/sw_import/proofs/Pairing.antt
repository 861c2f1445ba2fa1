-- Fetch lines beside what their scripts import: the pair at a place, and the place of a fetch.
use Rattle.std.proofs.Common.{◌≡◌, ◌∙◌, ℕ, zero, suc, ◌+◌, ◌-◌, min, List, [], ◌∷◌, ◌++◌, length, Option, Some, None, slice_get, refl, sym, ap, subst, arith, append_assoc, length-append}
use Rattle.std.specs.Option.{option_and_then, option_map_or}
use Rattle.sw_data.specs.Network.{drawn_from}
use Rattle.sw_data.specs.declared.recordings.FetchLine.{FetchLine}
use Rattle.sw_readers.specs.declared.inputs.ImportFetch.{ImportFetch}
use Rattle.sw_net.proofs.Drawing.{drawn_at}
use Rattle.sw_net.specs.Places.{drawn_place, places_from}
use Rattle.sw_import.specs.Checking.{imports_of}
use Rattle.sw_import.specs.Pairs.{paired}

-- one more line
pub paired_more : (lines : List FetchLine) (all : List (List (List ℕ))) (line : FetchLine) (imports : List (List ℕ))
    → length lines ≡ length all
    → paired (lines ++ line ∷ []) (all ++ imports ∷ []) ≡ paired lines all ++ record { line = line; imports = imports } ∷ []
paired_more [] [] line imports even = refl
paired_more [] (own ∷ all) line imports even = absurd (omega (arith, even))
paired_more (first ∷ lines) [] line imports even = absurd (omega (arith, even))
paired_more (first ∷ lines) (own ∷ all) line imports even =
    ap (λ (rest : List ImportFetch). record { line = first; imports = own } ∷ rest)
    (paired_more lines all line imports (omega (arith, even)))

-- one more line of those that are left
pub paired_next : (lines now : List FetchLine) (all all_now : List (List (List ℕ))) (fetch : ImportFetch) (left rest whole : List ImportFetch)
    → length lines ≡ length all → paired lines all ++ left ≡ whole → left ≡ fetch ∷ rest
    → now ≡ lines ++ fetch.line ∷ [] → all_now ≡ all ++ fetch.imports ∷ []
    → paired now all_now ++ rest ≡ whole
paired_next lines now all all_now fetch left rest whole even so_far next grown more =
    rw (grown, more, paired_more lines all fetch.line fetch.imports even)
    (append_assoc (paired lines all) (fetch ∷ []) rest
    ∙ (ap (λ (other : List ImportFetch). paired lines all ++ other) (sym next) ∙ so_far))

pub even_next : (lines now : List FetchLine) (all all_now : List (List (List ℕ))) (line : FetchLine) (imports : List (List ℕ))
    → length lines ≡ length all → now ≡ lines ++ line ∷ [] → all_now ≡ all ++ imports ∷ [] → length now ≡ length all_now
even_next lines now all all_now line imports even grown more =
    let left = length-append lines (line ∷ []) in
    let right = length-append all (imports ∷ []) in
    rw (grown, more) (omega (arith, even, left, right))

-- the line at a place
line_at : (lines : List FetchLine) (all : List (List (List ℕ))) (place : ℕ) → length lines ≡ length all
    → option_and_then (λ l. l.line.fetched) (slice_get (paired lines all) place)
    ≡ option_and_then (λ line. line.fetched) (slice_get lines place)
line_at [] all place even = refl
line_at (line ∷ lines) [] place even = absurd (omega (arith, even))
line_at (line ∷ lines) (own ∷ all) zero even = refl
line_at (line ∷ lines) (own ∷ all) (suc place) even = line_at lines all place (omega (arith, even))

pub line_at_place : (lines : List FetchLine) (all : List (List (List ℕ))) (place : Option ℕ) → length lines ≡ length all
    → option_and_then (λ l. l.line.fetched) (option_and_then (slice_get (paired lines all)) place)
    ≡ option_and_then (λ line. line.fetched) (option_and_then (slice_get lines) place)
line_at_place lines all None even = refl
line_at_place lines all (Some place) even = line_at lines all place even

-- what the script in the line at a place imports
imports_at : (lines : List FetchLine) (all : List (List (List ℕ))) (place : ℕ) → length lines ≡ length all
    → imports_of (slice_get (paired lines all) place) ≡ option_map_or (λ imports. imports) (slice_get all place) []
imports_at [] [] place even = refl
imports_at [] (own ∷ all) place even = absurd (omega (arith, even))
imports_at (line ∷ lines) [] place even = absurd (omega (arith, even))
imports_at (line ∷ lines) (own ∷ all) zero even = refl
imports_at (line ∷ lines) (own ∷ all) (suc place) even = imports_at lines all place (omega (arith, even))

pub imports_at_place : (lines : List FetchLine) (all : List (List (List ℕ))) (place : Option ℕ) → length lines ≡ length all
    → imports_of (option_and_then (slice_get (paired lines all)) place)
    ≡ option_map_or (λ imports. imports) (option_and_then (slice_get all) place) []
imports_at_place lines all None even = refl
imports_at_place lines all (Some place) even = imports_at lines all place even

-- the places of an address are those among the lines alone
places_paired : (at : ℕ) (lines : List FetchLine) (all : List (List (List ℕ))) (address : List ℕ) → length lines ≡ length all
    → places_from (λ l. l.line.fetch) at (paired lines all) address ≡ places_from (λ line. line.fetch) at lines address
places_paired at [] all address even = refl
places_paired at (line ∷ lines) [] address even = absurd (omega (arith, even))
places_paired at (line ∷ lines) (own ∷ all) address even =
    let rest = places_paired (suc at) lines all address (omega (arith, even)) in grind (arith, rest)

-- the line of a fetch stands at its place
pub drawn_pair : (lines : List FetchLine) (all : List (List (List ℕ))) (address : List ℕ) (number : ℕ) → length lines ≡ length all
    → option_and_then (slice_get (paired lines all)) (drawn_place (λ line. line.fetch) lines address number)
    ≡ drawn_from (λ l. l.line.fetch) (paired lines all) address number
drawn_pair lines all address number even =
    subst (λ own. option_and_then (slice_get (paired lines all)) (slice_get own (min number (length own - 1)))
    ≡ drawn_from (λ l. l.line.fetch) (paired lines all) address number)
    (places_paired 0 lines all address even) (drawn_at (λ l. l.line.fetch) address (paired lines all) number)
