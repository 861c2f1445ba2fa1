-- Numbers in a text.
use Rattle.std.proofs.Common.{◌≡◌, ◌∙◌, ◌⊎◌, ℕ, suc, ◌+◌, ◌<◌, ◌^◌, Bool, true, false, not, ◌==◌, List, [], ◌∷◌, ◌++◌, take, length, bytes_eq, Option, Some, None, Result, Ok, Err, refl, sym, ap, subst, arith, decimal}
use Rattle.std.specs.List.{before_first, prefix_len}
use Rattle.std.specs.Cmp.Lexicographic.{bytes_decides}
use Rattle.std.specs.Str.{IsUtf8}
use Rattle.std.proofs.Math.Seq.{take-append_seam}
use Rattle.std.proofs.lemmas.Str.{IsUtf8-from_ascii}
use Rattle.std.specs.Str.Parse.{ParsesUnsigned}
use Rattle.std.proofs.lemmas.Fmt.{IsAscii-decimal, parse-decimal}
use Rattle.sw_audit.proofs.Cuts.{free, free-decimal}

-- what was read of a number's digits
pub is_number : {E : Type 0} (word : List ℕ) (read : Result ℕ E) (n : ℕ) → ParsesUnsigned 32 10 word read → n < 2 ^ 32 → word ≡ decimal n → read ≡ Ok n
is_number word read n parses small is = parse-decimal 32 n word read small (omega (arith, small)) is parses

-- the number that was read, if any
abbrev pub number_read : {E : Type 0} → Result ℕ E → Option ℕ
number_read (Ok number) = Some number
number_read (Err why) = None

pub read_number : {E : Type 0} (word : List ℕ) (read : Result ℕ E) (n : ℕ) → ParsesUnsigned 32 10 word read → n < 2 ^ 32 → word ≡ decimal n → number_read read ≡ Some n
read_number word read n parses small is = ap number_read (is_number word read n parses small is)

-- the digits of a number are text
pub digits_text : (digits : List ℕ) (n : ℕ) → n < 2 ^ 32 → digits ≡ decimal n → IsUtf8 digits
digits_text digits n small is = subst IsUtf8 (sym is) (IsUtf8-from_ascii (decimal n) (IsAscii-decimal n (omega (arith, small))))

before_more : (p : ℕ → Bool) (b : ℕ) (rest : List ℕ) → p b ≡ false → before_first p (b ∷ rest) ≡ b ∷ before_first p rest
before_more p b rest fails =
    let one : 1 + prefix_len (λ x. not (p x)) rest ≡ suc (prefix_len (λ x. not (p x)) rest) = omega arith in
    rw fails (ap (λ j. take j (b ∷ rest)) one)

before_none : (p : ℕ → Bool) (b : ℕ) (rest : List ℕ) → p b ≡ true → before_first p (b ∷ rest) ≡ []
before_none p b rest passes = rw passes refl

-- what stands before the first byte of a kind
pub before_free : (x : ℕ) (start rest : List ℕ) → free x start ≡ true → before_first (λ b. b == x) (start ++ x ∷ rest) ≡ start
before_free x [] rest none = before_none (λ b. b == x) x rest (grind arith)
before_free x (b ∷ start) rest none =
    let here : (b == x) ≡ false = grind arith in
    let more : free x start ≡ true = grind arith in
    before_more (λ b. b == x) b (start ++ x ∷ rest) here ∙ ap (λ (l : List ℕ). b ∷ l) (before_free x start rest more)

pub digits_before : (x n : ℕ) (text rest : List ℕ) → (x < 48) ⊎ (57 < x) → text ≡ decimal n ++ x ∷ rest → before_first (λ b. b == x) text ≡ decimal n
digits_before x n text rest out is = ap (before_first (λ b. b == x)) is ∙ before_free x (decimal n) rest (free-decimal x n out)

-- ---- fronts

pub not_front : (text start rest taken : List ℕ) → taken ≡ take (length start) text → false ≡ bytes_eq taken start → text ≡ start ++ rest → ⊥
not_front text start rest taken cut differs is =
    let same : taken ≡ start = cut ∙ ap (take (length start)) is ∙ take-append_seam start rest in
    let equal : bytes_eq taken start ≡ true = (bytes_decides taken start).1 same in
    cc
