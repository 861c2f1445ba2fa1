-- What is left of a source while the line that divides it is looked for.
use Rattle.std.proofs.Common.{◌≡◌, ◌∙◌, ℕ, ◌-◌, ◌≤◌, List, [], ◌∷◌, ◌++◌, length, take, Some, None, refl, sym, ap, arith, Bor}
use Rattle.std.specs.Prelude.{◌==◌, Bool, true, false, Option, bytes_eq, codes, option_map, if◌then◌else◌, option_copied}
use Rattle.std.specs.Option.{unwrap_or}
use Rattle.std.specs.List.{join_with_byte, slice_split}
use Rattle.std.proofs.lemmas.List.{append_assoc, append-nil, length-append}
use Rattle.std.proofs.Math.Seq.{take-append_seam}
use Rattle.std.proofs.lemmas.List.Splits.{join_with_byte-slice_split, length-slice_split}
use Rattle.sw_data.specs.Parts.{parts_left}
use Rattle.sw_readers.specs.Division.{division, ended, lines_divided}
use Rattle.sw_record.specs.Grammar.{lines_of}

-- what lines are divided into, behind a front
abbrev pub behind : List ℕ → Option (List (List ℕ) × List (List ℕ)) → Option (List ℕ × List ℕ)
behind front found = option_map (λ parts. (front ++ ended parts.0, join_with_byte 10 parts.1)) found

-- a source is divided as what is left of it, behind its front
abbrev pub Goes : List ℕ → Option (List ℕ) → Type 0
Goes source None = division source ≡ None
Goes source (Some text) =
    (front : List ℕ) × (source ≡ front ++ text) × (division source ≡ behind front (lines_divided (lines_of text)))

pub starts : (source : List ℕ) → Goes source (Some source)
unfolding division
starts source = ([], refl, refl)

-- the parts of what is left, joined
abbrev pub joined : (rest : Option (List ℕ)) → List ℕ
joined None = []
joined (Some text) = text

join_parts : (rest : Option (List ℕ)) → join_with_byte 10 (parts_left 10 rest) ≡ joined rest
join_parts None = refl
join_parts (Some text) = join_with_byte-slice_split 10 text

-- the front of a source, by what is left of it
front_of : (source front text : List ℕ) → source ≡ front ++ text → take (length source - length text) source ≡ front
front_of source front text is =
    let size : length source - length text ≡ length front = omega (arith, ap length is, length-append front text) in
    rw (size, is) (take-append_seam front text)

abbrev divided_at : List ℕ → Bool → List (List ℕ) → Option (List (List ℕ) × List (List ℕ))
divided_at line mark rest =
    if mark then Some ([], rest) else option_map (λ parts. (line ∷ parts.0, parts.1)) (lines_divided rest)

-- a further line stands behind the front
behind_line : (front line : List ℕ) (found : Option (List (List ℕ) × List (List ℕ))) →
    behind front (option_map (λ parts. (line ∷ parts.0, parts.1)) found) ≡ behind (front ++ (line ++ 10 ∷ [])) found
behind_line front line None = refl
behind_line front line (Some parts) =
    ap (λ before. Some (before, join_with_byte 10 parts.1)) (sym (append_assoc front (line ++ 10 ∷ []) (ended parts.0)))

module _ (source text line : List ℕ) (rest : Option (List ℕ)) (goes : Goes source (Some text)) (parts : slice_split (λ b. b == 10) text ≡ line ∷ parts_left 10 rest) where
  split : (mark : Bool) → bytes_eq line (codes "%%") ≡ mark → division source ≡ behind goes.0 (divided_at line mark (parts_left 10 rest))
  split mark is = goes.2 ∙ ap (λ lines. behind goes.0 (lines_divided lines)) parts ∙ ap (λ test. behind goes.0 (divided_at line test (parts_left 10 rest))) is

  -- the line is `%%`
  pub found : bytes_eq line (codes "%%") ≡ true → Some (take (length source - length text) source, joined rest) ≡ division source
  found is =
      ap (λ before. Some (before, joined rest)) (front_of source goes.0 text goes.1 ∙ sym (append-nil goes.0))
      ∙ ap (λ after. Some (goes.0 ++ [], after)) (sym (join_parts rest))
      ∙ sym (split true is)

-- a line and those behind it, joined
join_line : (line : List ℕ) (lines : List (List ℕ)) → 1 ≤ length lines →
    join_with_byte 10 (line ∷ lines) ≡ line ++ 10 ∷ join_with_byte 10 lines
join_line line [] some = absurd (omega (arith, some))
join_line line (next ∷ lines) some = refl

-- a text is its first line, a line feed, and what is left
first_line : (text line more : List ℕ) → slice_split (λ b. b == 10) text ≡ line ∷ slice_split (λ b. b == 10) more →
    text ≡ line ++ 10 ∷ more
first_line text line more parts =
    sym (join_with_byte-slice_split 10 text)
    ∙ ap (join_with_byte 10) parts
    ∙ join_line line (slice_split (λ b. b == 10) more) (omega (arith, length-slice_split (λ b. b == 10) more))
    ∙ ap (λ rest. line ++ 10 ∷ rest) (join_with_byte-slice_split 10 more)

-- it is another line
pub goes_on : (source text line : List ℕ) (rest : Option (List ℕ)) → Goes source (Some text) →
    slice_split (λ b. b == 10) text ≡ line ∷ parts_left 10 rest → bytes_eq line (codes "%%") ≡ false → Goes source rest
goes_on source text line None goes parts is = split source text line None goes parts false is
goes_on source text line (Some more) goes parts is =
    let whole : source ≡ (goes.0 ++ (line ++ 10 ∷ [])) ++ more =
    goes.1 ∙ ap (λ rest. goes.0 ++ rest) (first_line text line more parts ∙ sym (append_assoc line (10 ∷ []) more))
    ∙ sym (append_assoc goes.0 (line ++ 10 ∷ []) more) in
    (goes.0 ++ (line ++ 10 ∷ []), whole, split source text line (Some more) goes parts false is ∙ behind_line goes.0 line (lines_divided (lines_of more)))

-- what is left, or nothing
pub left_or : (rest : Option (Bor (List ℕ))) (nothing : Bor (List ℕ)) → nothing.now ≡ [] →
    (unwrap_or rest nothing).now ≡ joined (option_copied rest)
left_or None nothing is = is
left_or (Some text) nothing is = refl
