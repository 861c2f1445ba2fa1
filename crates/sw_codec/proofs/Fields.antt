-- Numbers, bytes, texts and single bytes: reading them is inverse to spelling them.
use Rattle.std.proofs.Common.{◌≡◌, ℕ, zero, suc, ◌+◌, ◌^◌, ◌<◌, ◌≤◌, Bool, true, false, cond, ltb, List, [], ◌∷◌, ◌++◌, length, take, drop, Option, Some, None, refl, sym, ap, subst, ◌∙◌, arith, inl, inr}
use Rattle.std.specs.Int.{Width, w16, w32, byte_len, from_be_bytes, to_be_bytes}
use Rattle.std.specs.Prelude.{IfOk, Result, Ok, Err}
use Rattle.std.specs.Str.{IsUtf8, is_utf8}
use Rattle.std.proofs.lemmas.Str.{is_utf8-from_IsUtf8, IsUtf8-from_is_utf8}
use Rattle.std.proofs.lemmas.Bool.{cases_lt, ltb-true, ltb-false, le-ltb, lt-ltb, ne_eqb, and_parts, and_from}
use Rattle.std.proofs.lemmas.List.{take_at, drop_at, take-append-drop, length-append, length-take, get_or-drop, get_or-take, get_or_past}
use Rattle.std.proofs.lemmas.Nat.{be_bytes_2, be_bytes_4, from_be_bytes-to_be_bytes_2, from_be_bytes-to_be_bytes_4}
use Rattle.std.proofs.lemmas.Option.{cond_some}
use Rattle.sw_data.specs.declared.exchange.Options.{Options}
use Rattle.sw_data.specs.declared.workers.Kind.{Kind}
use Rattle.sw_data.specs.declared.workers.Kind.TheVariants as kind
use Rattle.sw_data.specs.declared.workers.Mode.{Mode}
use Rattle.sw_data.specs.declared.workers.Mode.TheVariants as mode
use Rattle.sw_codec.specs.Laws.{AreBytes}
use Rattle.sw_codec.specs.Reading.{◌>>=◌, number_at, front_at, bytes_at, text_of, text_at, byte_at, mode_of, kind_of, flag_of, options_of, mode_at, kind_at, flag_at, options_at}
use Rattle.sw_codec.specs.Spelling.{is_body, is_text, bytes_spelling, mode_byte, kind_byte, bit, options_byte}
use Rattle.sw_codec.proofs.Readers.{bind_some, some_is, bytes-rest, Takes, Takes-then, Spells, Means, meant-spells}

bytes-drop : (n : ℕ) (bytes : List ℕ) → AreBytes bytes → AreBytes (drop n bytes)
bytes-drop n bytes h i = rw get_or-drop (h (n + i))

bytes-take : (n : ℕ) (bytes : List ℕ) → AreBytes bytes → AreBytes (take n bytes)
bytes-take n bytes h i =
    elim (cases_lt i n) [
      | inl lt ↦ rw (get_or-take n bytes i 0 lt) (h i)
      | inr le ↦ rw (get_or_past (take n bytes) i 0 (omega (arith, length-take n bytes))) (omega arith)
    ]

-- a test that let a value through
guard_some : {A : Type 0} (b : Bool) (x y : A) → cond b None (Some x) ≡ Some y → (b ≡ false) × (x ≡ y)
guard_some true x y e = absurd cc
guard_some false x y e = (refl, cc)

-- ---- numbers

record IsWide (width : Width) (limit : ℕ) : Type 0 where
  pub len : (n : ℕ) → length (to_be_bytes width n) ≡ byte_len width
  pub back : (bytes : List ℕ) → length bytes ≡ byte_len width → AreBytes bytes → to_be_bytes width (from_be_bytes width bytes) ≡ bytes
  pub again : (n : ℕ) → n < limit → from_be_bytes width (to_be_bytes width n) ≡ n
  pub below : (bytes : List ℕ) → AreBytes bytes → from_be_bytes width bytes < limit

wide16 : IsWide w16 (2 ^ 16)
wide16 = record {
  len = λ n. refl;
  back = λ bytes len fits. be_bytes_2 bytes _ len fits refl;
  again = λ n lt. from_be_bytes-to_be_bytes_2 n lt;
  below = λ bytes fits. omega (arith, fits 0, fits 1);
}

wide32 : IsWide w32 (2 ^ 32)
wide32 = record {
  len = λ n. refl;
  back = λ bytes len fits. be_bytes_4 bytes _ len fits refl;
  again = λ n lt. from_be_bytes-to_be_bytes_4 n lt;
  below = λ bytes fits. omega (arith, fits 0, fits 1, fits 2, fits 3);
}

module _ (width : Width) (limit : ℕ) (wide : IsWide width limit) where
  number-takes : (bytes : List ℕ) (n : ℕ) (rest : List ℕ) → AreBytes bytes → number_at width bytes ≡ Some (n, rest) → Takes bytes (to_be_bytes width n) rest × (ltb n limit ≡ true)
  number-takes bytes n rest fits e =
      let g = guard_some (ltb (length bytes) (byte_len width)) (from_be_bytes width (take (byte_len width) bytes), drop (byte_len width) bytes) (n, rest) e in
      let long : byte_len width ≤ length bytes = ltb-false _ _ g.0 in
      let n-is : from_be_bytes width (take (byte_len width) bytes) ≡ n = ap (λ (p : ℕ × List ℕ). p.0) g.1 in
      let rest-is : drop (byte_len width) bytes ≡ rest = ap (λ (p : ℕ × List ℕ). p.1) g.1 in
      let front : to_be_bytes width n ≡ take (byte_len width) bytes = rw (← n-is) (wide.back (take (byte_len width) bytes) (omega (arith, length-take (byte_len width) bytes)) (bytes-take (byte_len width) bytes fits)) in
      let small : n < limit = rw (← n-is) (wide.below (take (byte_len width) bytes) (bytes-take (byte_len width) bytes fits)) in
      (record { parts = rw (front, ← rest-is) (sym (take-append-drop (byte_len width) bytes)); rest_fits = rw (← rest-is) (bytes-drop (byte_len width) bytes fits) }, lt-ltb n limit small)

  number-again : (n : ℕ) (rest : List ℕ) → ltb n limit ≡ true → number_at width (to_be_bytes width n ++ rest) ≡ Some (n, rest)
  number-again n rest small =
      let len = wide.len n in
      let long : ltb (length (to_be_bytes width n ++ rest)) (byte_len width) ≡ false = le-ltb _ _ (omega (arith, length-append (to_be_bytes width n) rest)) in
      rw (long, take_at (to_be_bytes width n) rest (byte_len width) len, drop_at (to_be_bytes width n) rest (byte_len width) len, wide.again n (ltb-true n limit small)) refl

pub number16-spells : Spells (number_at w16) (to_be_bytes w16) (λ n. ltb n (2 ^ 16))
number16-spells = record { takes = number-takes w16 (2 ^ 16) wide16; again = number-again w16 (2 ^ 16) wide16 }

pub number32-spells : Spells (number_at w32) (to_be_bytes w32) (λ n. ltb n (2 ^ 32))
number32-spells = record { takes = number-takes w32 (2 ^ 32) wide32; again = number-again w32 (2 ^ 32) wide32 }

-- ---- bytes and texts

bytes-takes : (bytes body rest : List ℕ) → AreBytes bytes → bytes_at bytes ≡ Some (body, rest) → Takes bytes (bytes_spelling body) rest × (is_body body ≡ true)
unfolding bytes_at bytes_spelling
bytes-takes bytes body rest fits e =
    let b = bind_some (number_at w32 bytes) (λ size. front_at size.0 size.1) (body, rest) e in
    let size = b.0.0 in
    let behind = b.0.1 in
    let t = number32-spells.takes bytes size behind fits b.1 in
    let g = guard_some (ltb (length behind) size) (take size behind, drop size behind) (body, rest) b.2 in
    let long : size ≤ length behind = ltb-false _ _ g.0 in
    let len : length (take size behind) ≡ size = omega (arith, length-take size behind) in
    let second : Takes behind (take size behind) (drop size behind) = record { parts = sym (take-append-drop size behind); rest_fits = bytes-drop size behind t.0.rest_fits } in
    let both = Takes-then bytes (to_be_bytes w32 size) behind (take size behind) (drop size behind) t.0 second in
    let whole : Takes bytes (to_be_bytes w32 (length (take size behind)) ++ take size behind) (drop size behind) = subst (λ (k : ℕ). Takes bytes (to_be_bytes w32 k ++ take size behind) (drop size behind)) (sym len) both in
    let small : ltb (length (take size behind)) (2 ^ 32) ≡ true = ap (λ (k : ℕ). ltb k (2 ^ 32)) len ∙ t.1 in
    subst (λ (p : List ℕ × List ℕ). Takes bytes (to_be_bytes w32 (length p.0) ++ p.0) p.1 × (ltb (length p.0) (2 ^ 32) ≡ true)) g.1 (whole, small)

bytes-again : (body rest : List ℕ) → is_body body ≡ true → bytes_at (bytes_spelling body ++ rest) ≡ Some (body, rest)
unfolding bytes_at bytes_spelling
bytes-again body rest small =
    let long : ltb (length (body ++ rest)) (length body) ≡ false = le-ltb _ _ (omega (arith, length-append body rest)) in
    ap (λ (r : Option (ℕ × List ℕ)). r >>= λ size. front_at size.0 size.1) (number32-spells.again (length body) (body ++ rest) small)
    ∙ rw (long, take_at body rest (length body) refl, drop_at body rest (length body) refl) refl

pub bytes-spells : Spells bytes_at bytes_spelling is_body
bytes-spells = record { takes = bytes-takes; again = bytes-again }

text-means : Means text_of (λ (text : List ℕ). text) is_body is_text
text-means = record {
  sound = λ a b h e.
      let c = cond_some (is_utf8 a) a b e in
      subst (λ (t : List ℕ). (a ≡ t) × (is_text t ≡ true)) c.1 (refl, and_from (is_body a) (is_utf8 a) h c.0);
  again = λ b h.
      let parts = and_parts (is_body b) (is_utf8 b) h in
      (ap (λ (test : Bool). cond test (Some b) None) parts.1, parts.0);
}

pub text-spells : Spells text_at bytes_spelling is_text
unfolding text_at
text-spells = meant-spells bytes-spells text-means

-- ---- single bytes

pub byte-takes : (bytes : List ℕ) (byte : ℕ) (rest : List ℕ) → AreBytes bytes → byte_at bytes ≡ Some (byte, rest) → Takes bytes (byte ∷ []) rest × (true ≡ true)
byte-takes [] byte rest fits e = absurd cc
byte-takes (first ∷ bytes) byte rest fits e =
    subst (λ (p : ℕ × List ℕ). Takes (first ∷ bytes) (p.0 ∷ []) p.1 × (true ≡ true)) (some_is (first, bytes) (byte, rest) e)
    (record { parts = refl; rest_fits = bytes-rest first bytes fits }, refl)

byte-spells : Spells byte_at (λ byte. byte ∷ []) (λ byte. true)
byte-spells = record { takes = byte-takes; again = λ x rest h. refl }

mode-sound : (byte : ℕ) (value : Mode) → mode_of byte ≡ Some value → byte ≡ mode_byte value
mode-sound zero value e = ap mode_byte (some_is mode.Imports value e)
mode-sound (suc zero) value e = ap mode_byte (some_is mode.All value e)
mode-sound (suc (suc zero)) value e = ap mode_byte (some_is mode.Never value e)
mode-sound (suc (suc (suc n))) value e =
    let past = rw (ne_eqb (suc (suc (suc n))) 0 (λ same. absurd (omega arith)), ne_eqb (suc (suc (suc n))) 1 (λ same. absurd (omega arith)), ne_eqb (suc (suc (suc n))) 2 (λ same. absurd (omega arith))) at e in absurd cc

mode-again : (value : Mode) → mode_of (mode_byte value) ≡ Some value
mode-again mode.Imports = refl
mode-again mode.All = refl
mode-again mode.Never = refl

mode-means : Means mode_of mode_byte (λ byte. true) (λ value. true)
mode-means = record { sound = λ a b h e. (mode-sound a b e, refl); again = λ b h. (mode-again b, refl) }

pub mode-spells : Spells mode_at (λ value. mode_byte value ∷ []) (λ value. true)
unfolding mode_at
mode-spells = meant-spells byte-spells mode-means

kind-sound : (byte : ℕ) (value : Kind) → kind_of byte ≡ Some value → byte ≡ kind_byte value
kind-sound zero value e = ap kind_byte (some_is kind.Classic value e)
kind-sound (suc zero) value e = ap kind_byte (some_is kind.Module value e)
kind-sound (suc (suc n)) value e =
    let past = rw (ne_eqb (suc (suc n)) 0 (λ same. absurd (omega arith)), ne_eqb (suc (suc n)) 1 (λ same. absurd (omega arith))) at e in absurd cc

kind-again : (value : Kind) → kind_of (kind_byte value) ≡ Some value
kind-again kind.Classic = refl
kind-again kind.Module = refl

kind-means : Means kind_of kind_byte (λ byte. true) (λ value. true)
kind-means = record { sound = λ a b h e. (kind-sound a b e, refl); again = λ b h. (kind-again b, refl) }

pub kind-spells : Spells kind_at (λ value. kind_byte value ∷ []) (λ value. true)
unfolding kind_at
kind-spells = meant-spells byte-spells kind-means

flag-sound : (byte : ℕ) (value : Bool) → flag_of byte ≡ Some value → byte ≡ bit 1 value
flag-sound zero value e = ap (bit 1) (some_is false value e)
flag-sound (suc zero) value e = ap (bit 1) (some_is true value e)
flag-sound (suc (suc n)) value e =
    let past = rw (ne_eqb (suc (suc n)) 0 (λ same. absurd (omega arith)), ne_eqb (suc (suc n)) 1 (λ same. absurd (omega arith))) at e in absurd cc

flag-again : (value : Bool) → flag_of (bit 1 value) ≡ Some value
flag-again false = refl
flag-again true = refl

flag-means : Means flag_of (bit 1) (λ byte. true) (λ value. true)
flag-means = record { sound = λ a b h e. (flag-sound a b e, refl); again = λ b h. (flag-again b, refl) }

pub flag-spells : Spells flag_at (λ value. bit 1 value ∷ []) (λ value. true)
unfolding flag_at
flag-spells = meant-spells byte-spells flag-means

abbrev of_bits : Bool → Bool → Bool → Options
of_bits search method vary = record { ignore_search = search; ignore_method = method; ignore_vary = vary }

options-sound : (byte : ℕ) (value : Options) → options_of byte ≡ Some value → byte ≡ options_byte value
options-sound zero value e = ap options_byte (some_is (of_bits false false false) value e)
options-sound (suc zero) value e = ap options_byte (some_is (of_bits true false false) value e)
options-sound (suc (suc zero)) value e = ap options_byte (some_is (of_bits false true false) value e)
options-sound (suc (suc (suc zero))) value e = ap options_byte (some_is (of_bits true true false) value e)
options-sound (suc (suc (suc (suc zero)))) value e = ap options_byte (some_is (of_bits false false true) value e)
options-sound (suc (suc (suc (suc (suc zero))))) value e = ap options_byte (some_is (of_bits true false true) value e)
options-sound (suc (suc (suc (suc (suc (suc zero)))))) value e = ap options_byte (some_is (of_bits false true true) value e)
options-sound (suc (suc (suc (suc (suc (suc (suc zero))))))) value e = ap options_byte (some_is (of_bits true true true) value e)
options-sound (suc (suc (suc (suc (suc (suc (suc (suc n)))))))) value e =
    let past = rw (le-ltb (suc (suc (suc (suc (suc (suc (suc (suc n)))))))) 8 (omega arith)) at e in absurd cc

bits-again : (search method vary : Bool) → options_of (bit 1 search + bit 2 method + bit 4 vary) ≡ Some (of_bits search method vary)
bits-again false false false = refl
bits-again true false false = refl
bits-again false true false = refl
bits-again true true false = refl
bits-again false false true = refl
bits-again true false true = refl
bits-again false true true = refl
bits-again true true true = refl

options-means : Means options_of options_byte (λ byte. true) (λ value. true)
options-means = record {
  sound = λ a b h e. (options-sound a b e, refl);
  again = λ b h. (bits-again b.ignore_search b.ignore_method b.ignore_vary, refl);
}

pub options-spells : Spells options_at (λ value. options_byte value ∷ []) (λ value. true)
unfolding options_at
options-spells = meant-spells byte-spells options-means

-- ---- bytes that are, or aren't, a text

pub text_at-ok : (bytes text rest : List ℕ) → bytes_at bytes ≡ Some (text, rest) → IsUtf8 text → text_at bytes ≡ Some (text, rest)
unfolding text_at
text_at-ok bytes text rest is utf8 =
    ap (λ (r : Option (List ℕ × List ℕ)). r >>= λ one. text_of one.0 >>= λ value. Some (value, one.1)) is
    ∙ ap (λ (test : Bool). cond test (Some text) None >>= λ value. Some (value, rest)) (is_utf8-from_IsUtf8 text utf8)

not_utf8 : (text : List ℕ) (test : Bool) → is_utf8 text ≡ test → (IsUtf8 text → ⊥) → test ≡ false
not_utf8 text true is none = absurd (none (IsUtf8-from_is_utf8 text is))
not_utf8 text false is none = refl

pub text_at-bad : (bytes text rest : List ℕ) → bytes_at bytes ≡ Some (text, rest) → (IsUtf8 text → ⊥) → text_at bytes ≡ None
unfolding text_at
text_at-bad bytes text rest is none =
    ap (λ (r : Option (List ℕ × List ℕ)). r >>= λ one. text_of one.0 >>= λ value. Some (value, one.1)) is
    ∙ ap (λ (test : Bool). cond test (Some text) None >>= λ value. Some (value, rest)) (not_utf8 text (is_utf8 text) refl none)

-- a body that is a text has the spelling of a text
pub text-fits : {A E : Type 0} (result : Result A E) (text body : List ℕ) → body ≡ text → IsUtf8 body → IfOk result (λ done. is_body body ≡ true) → IfOk result (λ done. is_text text ≡ true)
text-fits (Ok done) text body same utf8 fits = subst (λ (t : List ℕ). is_text t ≡ true) same (and_from (is_body body) (is_utf8 body) fits (is_utf8-from_IsUtf8 body utf8))
text-fits (Err error) text body same utf8 fits = tt
