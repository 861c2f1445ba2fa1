-- A word that is read as a number, and written again.
use Rattle.std.proofs.Common.{◌≡◌, ◌∙◌, ℕ, ◌<◌, ◌^◌, ◌&&◌, Bool, true, false, List, Option, Some, None, Result, Ok, Err, bytes_eq, decimal, refl, sym, ap, subst, arith}
use Rattle.std.proofs.lemmas.Bool.Decides.{nat_tests}
use Rattle.std.proofs.lemmas.Fmt.{decimal_is_IsNumeral, parse-decimal}
use Rattle.std.specs.Cmp.Lexicographic.{bytes_decides}
use Rattle.std.specs.Prelude.{nat_lt, if◌then◌else◌}
use Rattle.std.specs.Str.Parse.{ParsesUnsigned, digits_value}
use Rattle.sw_host.specs.Words.{number_of}

-- what was read, where it is so written
abbrev pub written : {E : Type 0} → List ℕ → Result ℕ E → Option ℕ
written word (Ok number) = if bytes_eq (decimal number) word then Some number else None
written word (Err why) = None

-- a number whose digits the word is, is that of its digits
value_is : (word : List ℕ) (number : ℕ) → number < 2 ^ 32 → bytes_eq (decimal number) word ≡ true → digits_value 10 word ≡ number
value_is word number small same =
    ap (digits_value 10) (sym ((bytes_decides (decimal number) word).0 same)) ∙ (decimal_is_IsNumeral number (omega (arith, small))).1

module _ {E : Type 0} (word : List ℕ) where
  -- where the word isn't the digits of its number, nothing is written so
  unwritten : (read : Result ℕ E) → ParsesUnsigned 32 10 word read → nat_lt (digits_value 10 word) (2 ^ 32) && bytes_eq (decimal (digits_value 10 word)) word ≡ false → None ≡ written word read
  unwritten (Err why) parses other = refl
  unwritten (Ok number) parses other = by (bytes_eq (decimal number) word) refl
    where
      by : (same : Bool) → bytes_eq (decimal number) word ≡ same → None ≡ (if same then Some number else None)
      by false is = refl
      by true is =
          let within : number < 2 ^ 32 = omega (arith, parses.0.1, parses.1) in
          let value = value_is word number within is in
          let small : nat_lt number (2 ^ 32) ≡ true = grind (arith, nat_tests, within) in
          let test = subst (λ (n : ℕ). nat_lt n (2 ^ 32) && bytes_eq (decimal n) word ≡ false) value other in
          absurd cc

  pub is_number : (read : Result ℕ E) → ParsesUnsigned 32 10 word read → written word read ≡ number_of word
  is_number read parses = by (nat_lt (digits_value 10 word) (2 ^ 32)) (bytes_eq (decimal (digits_value 10 word)) word) refl refl
    where
      by : (small same : Bool) → nat_lt (digits_value 10 word) (2 ^ 32) ≡ small → bytes_eq (decimal (digits_value 10 word)) word ≡ same
          → written word read ≡ (if small && same then Some (digits_value 10 word) else None)
      by true true small same =
          let value = digits_value 10 word in
          let within : value < 2 ^ 32 = grind (arith, nat_tests, small) in
          ap (written word) (parse-decimal 32 value word read within (omega (arith, within)) (sym ((bytes_decides (decimal value) word).0 same)) parses)
          ∙ ap (λ (test : Bool). if test then Some value else None) same
      by true false small same = sym (unwritten read parses (rw small (rw same refl)))
      by false same small is = sym (unwritten read parses (rw small refl))
