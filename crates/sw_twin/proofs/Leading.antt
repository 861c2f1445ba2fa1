-- The ones at the beginning of bytes, and the part that they tell.
use Rattle.std.proofs.Common.{◌≡◌, ◌≢◌, ◌⊎◌, inl, inr, ℕ, zero, suc, ◌+◌, ◌%◌, ◌<◌, ◌≤◌, List, [], ◌∷◌, ◌++◌, length, get_or, take, drop, Bool, true, false, refl, sym, ◌∙◌, ap, arith, append_assoc, take-append-drop}
use Rattle.std.specs.Prelude.{◌==◌, not, if◌then◌else◌}
use Rattle.std.proofs.lemmas.Bool.{ne_eqb}
use Rattle.std.proofs.lemmas.Bool.Decides.{nat_tests}
use Rattle.std.proofs.lemmas.List.{take_at, drop_at, drop-drop, take_more, drop_more, length-take-le}
use Rattle.sw_disk.specs.declared.part.Part.TheVariants.{Root, Left, Right}
use Rattle.sw_disk.specs.DiskRule.{written}
use Rattle.sw_twin.specs.Current.{leading_ones, part_at}

-- there are no more than there are bytes
pub few_ones : (bytes : List ℕ) → leading_ones bytes ≤ length bytes
few_ones [] = omega arith
few_ones (byte ∷ bytes) = by (byte == 1) (few_ones bytes)
  where
    by : (is_one : Bool) → leading_ones bytes ≤ length bytes → (if is_one then leading_ones bytes + 1 else 0) ≤ suc (length bytes)
    by true few = omega (arith, few)
    by false few = omega arith

-- the first n bytes are ones, where there are n
pub front_ones : (n : ℕ) (bytes : List ℕ) → leading_ones bytes ≡ n → leading_ones (take n bytes) ≡ n
front_ones zero bytes all = refl
front_ones (suc n) [] all = absurd (omega (arith, all))
front_ones (suc n) (byte ∷ bytes) all = by (byte == 1) (front_ones n bytes) all
  where
    by : (is_one : Bool) → (leading_ones bytes ≡ n → leading_ones (take n bytes) ≡ n) → (if is_one then leading_ones bytes + 1 else 0) ≡ suc n → (if is_one then leading_ones (take n bytes) + 1 else 0) ≡ suc n
    by true less all = omega (arith, less (omega (arith, all)))
    by false less all = absurd (omega (arith, all))

-- behind ones it goes on
pub ones_append : (front rest : List ℕ) → leading_ones front ≡ length front → leading_ones (front ++ rest) ≡ length front + leading_ones rest
ones_append [] rest all = omega arith
ones_append (byte ∷ front) rest all = by (byte == 1) (few_ones front) (ones_append front rest) all
  where
    by : (is_one : Bool) → leading_ones front ≤ length front → (leading_ones front ≡ length front → leading_ones (front ++ rest) ≡ length front + leading_ones rest)
        → (if is_one then leading_ones front + 1 else 0) ≡ suc (length front) → (if is_one then leading_ones (front ++ rest) + 1 else 0) ≡ suc (length front) + leading_ones rest
    by true few less all = omega (arith, less (omega (arith, all)))
    by false few less all = absurd (omega (arith, all))

-- behind another byte it doesn't
pub ones_end : (front rest : List ℕ) → leading_ones front < length front → leading_ones (front ++ rest) ≡ leading_ones front
ones_end [] rest less = absurd (omega (arith, less))
ones_end (byte ∷ front) rest less = by (byte == 1) (ones_end front rest) less
  where
    by : (is_one : Bool) → (leading_ones front < length front → leading_ones (front ++ rest) ≡ leading_ones front)
        → (if is_one then leading_ones front + 1 else 0) < suc (length front) → (if is_one then leading_ones (front ++ rest) + 1 else 0) ≡ (if is_one then leading_ones front + 1 else 0)
    by true same less = ap (λ (k : ℕ). k + 1) (same (omega (arith, less)))
    by false same less = refl

no_one : (byte : ℕ) → byte ≢ 1 → (byte == 1) ≡ false
no_one byte differs = ne_eqb byte 1 differs

module _ (n : ℕ) (bytes : List ℕ) (within : n < length bytes) (all : leading_ones (take n bytes) ≡ n) where
  size : length (take n bytes) ≡ n
  size = length-take-le n bytes (omega (arith, within))

  behind : (rest : List ℕ) → leading_ones (take n bytes ++ rest) ≡ n + leading_ones rest
  behind rest = ones_append (take n bytes) rest (all ∙ sym size) ∙ ap (λ (k : ℕ). k + leading_ones rest) size

  -- one more of a list
  pub more_ones : get_or bytes n 0 ≡ 1 → leading_ones (take (n + 1) bytes) ≡ n + 1
  more_ones is = ap leading_ones (take_more bytes n 0 within) ∙ behind (get_or bytes n 0 ∷ []) ∙ ap (λ (b : ℕ). n + leading_ones (b ∷ [])) is

  -- no more
  pub no_more_ones : get_or bytes n 0 ≢ 1 → leading_ones bytes ≡ n
  no_more_ones differs =
      ap leading_ones (sym (take-append-drop n bytes) ∙ ap (λ (l : List ℕ). take n bytes ++ l) (drop_more bytes n 0 within)) ∙ behind (get_or bytes n 0 ∷ drop (n + 1) bytes)
      ∙ ap (λ (b : Bool). n + (if b then leading_ones (drop (n + 1) bytes) + 1 else 0)) (no_one (get_or bytes n 0) differs) ∙ omega arith

-- what n bytes that were read tell
module _ (n : ℕ) (bytes into : List ℕ) (same : take n into ≡ take n bytes) (within : n ≤ length bytes) where
  split : bytes ≡ take n bytes ++ drop n bytes
  split = sym (take-append-drop n bytes)

  long : length (take n bytes) ≡ n
  long = length-take-le n bytes within

  pub read_end : leading_ones (take n into) ≢ n → leading_ones bytes ≡ leading_ones (take n into)
  read_end less =
      ap leading_ones split
      ∙ ones_end (take n bytes) (drop n bytes) (omega (arith, few_ones (take n bytes), long, λ (all : leading_ones (take n bytes) ≡ n). less (ap leading_ones same ∙ all)))
      ∙ sym (ap leading_ones same)

  pub read_on : leading_ones (take n into) ≡ n → leading_ones bytes ≡ n + leading_ones (drop n bytes)
  read_on all =
      ap leading_ones split ∙ ones_append (take n bytes) (drop n bytes) (sym (ap leading_ones same) ∙ all ∙ sym long) ∙ ap (λ (k : ℕ). k + leading_ones (drop n bytes)) long

-- two zero bytes, and a one over the first, are one write
pub zeros_then_one : (n : ℕ) (old : List ℕ) → n ≤ length old → written n (1 ∷ []) (written n (0 ∷ 0 ∷ []) old) ≡ written n (1 ∷ 0 ∷ []) old
zeros_then_one n old fits =
    let front = take n old in
    let tail = drop (n + 2) old in
    let size : length front ≡ n = length-take-le n old fits in
    let zeros : written n (0 ∷ 0 ∷ []) old ≡ front ++ (0 ∷ 0 ∷ tail) = append_assoc front (0 ∷ 0 ∷ []) tail in
    let before : take n (written n (0 ∷ 0 ∷ []) old) ≡ front = ap (λ (l : List ℕ). take n l) zeros ∙ take_at front (0 ∷ 0 ∷ tail) n size in
    let behind : drop (n + 1) (written n (0 ∷ 0 ∷ []) old) ≡ 0 ∷ tail =
    sym (drop-drop 1 n (written n (0 ∷ 0 ∷ []) old)) ∙ ap (λ (l : List ℕ). drop 1 (drop n l)) zeros ∙ ap (λ (l : List ℕ). drop 1 l) (drop_at front (0 ∷ 0 ∷ tail) n size) in
    (λ i. (before i ++ 1 ∷ []) ++ behind i) ∙ append_assoc front (1 ∷ []) (0 ∷ tail) ∙ sym (append_assoc front (1 ∷ 0 ∷ []) tail)

-- a one and a zero byte behind the ones make one more, whatever follows
pub one_more : (n : ℕ) (old : List ℕ) → leading_ones old ≡ n → leading_ones (written n (1 ∷ 0 ∷ []) old) ≡ n + 1
one_more n old are =
    let front = take n old in
    let tail = drop (n + 2) old in
    let size : length front ≡ n = length-take-le n old (omega (arith, are, few_ones old)) in
    ap leading_ones (append_assoc front (1 ∷ 0 ∷ []) tail) ∙ ones_append front (1 ∷ 0 ∷ tail) (front_ones n old are ∙ sym size) ∙ ap (λ (k : ℕ). k + 1) size

flips : (n : ℕ) → ((n + 1) % 2 == 0) ≡ not (n % 2 == 0)
flips n = grind (arith, nat_tests)

-- the part is never Root
pub not_root : (ones : ℕ) → part_at ones ≢ Root
not_root ones = by (ones % 2 == 0)
  where
    by : (even : Bool) → (if even then Left else Right) ≢ Root
    by true is = absurd (cc)
    by false is = absurd (cc)

-- one more tells the other part
pub turns : (ones : ℕ) → part_at ones ≢ part_at (ones + 1)
turns ones is = by (ones % 2 == 0) (is ∙ ap (λ (b : Bool). if b then Left else Right) (flips ones))
  where
    by : (even : Bool) → (if even then Left else Right) ≢ (if not even then Left else Right)
    by true is = absurd (cc)
    by false is = absurd (cc)

-- any number tells one of the two
pub either_part : (any ones : ℕ) → (part_at any ≡ part_at ones) ⊎ (part_at any ≡ part_at (ones + 1))
either_part any ones = by (any % 2 == 0) (ones % 2 == 0) ((ones + 1) % 2 == 0) (flips ones)
  where
    by : (a b c : Bool) → c ≡ not b → ((if a then Left else Right) ≡ (if b then Left else Right)) ⊎ ((if a then Left else Right) ≡ (if c then Left else Right))
    by true true c is = inl refl
    by false false c is = inl refl
    by true false c is = inr (ap (λ (b : Bool). if b then Left else Right) (sym is))
    by false true c is = inr (ap (λ (b : Bool). if b then Left else Right) (sym is))
