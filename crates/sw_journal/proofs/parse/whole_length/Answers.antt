use Rattle.std.proofs.Common.{arith, ◌≡◌, ◌≤◌, List, ℕ, [], ◌∷◌, length, get_or, take, length-drop, sym, ◌∙◌, ap}
use Rattle.std.proofs.lemmas.List.{take_rest, length-take}
use Rattle.std.proofs.lemmas.Grind.{same_number_lists, common_steps}
use Rattle.std.specs.Int.{w32, from_be_bytes}
use Rattle.sw_journal.specs.Format.{is_numbered}
use Rattle.sw_journal.proofs.PartLemmas.{payload_length-short, payload_length-unnumbered, is_whole}
use Rattle.sw_journal.specs.Version.{format_at}
use Rattle.sw_journal.proofs.parse.whole_length.Goals as goal
use Rattle.sw_journal.proofs.parse.whole_length.Goals.{After-from_be_bytes-size}

four : (bytes : List ℕ) → 4 ≤ length bytes → take 4 bytes ≡ get_or bytes 0 0 ∷ get_or bytes 1 0 ∷ get_or bytes 2 0 ∷ get_or bytes 3 0 ∷ []
four bytes long = same_number_lists _ _ (omega (arith, length-take 4 bytes)) (λ k lt. grind (arith, common_steps))

-- the length that was read is spelled by the first four bytes
told : (c : After-from_be_bytes-size) → c.from_be_bytes-size.result ≡ from_be_bytes w32 (take 4 c.args.bytes.now)
told c = c.from_be_bytes-size.ensures ∙ sym (ap (λ (l : List ℕ). from_be_bytes w32 l) (four c.args.bytes.now c.in-len4-up.len_at_least))

pub returns-in_default : goal.returns-in_default
returns-in_default c = sym (payload_length-short (format_at c.args.version) c.args.number c.args.bytes.now (omega (arith, c.in_default.len_below)))

pub returns-then-rest-width : goal.returns-then-rest-width
returns-then-rest-width c =
    let size = told (goal.at.returns-then-rest-width c).After-from_be_bytes-size in
    sym (payload_length-short (format_at c.args.version) c.args.number c.args.bytes.now
    (omega (arith, size, c.width.ensures, c.if-rest-width.true, ap length (take_rest c.args.bytes.now 4), length-drop 4 c.args.bytes.now)))

pub returns-then-has_number : goal.returns-then-has_number
returns-then-has_number c =
    let bytes = c.args.bytes.now in
    let f = format_at c.args.version in
    sym (is_whole f c.args.number bytes c.from_be_bytes-size.result (record {
      is_size = sym (told (goal.at.returns-then-has_number c).After-from_be_bytes-size);
      fits = omega (arith, c.width.ensures, c.if-rest-width.false, ap length (take_rest bytes 4), length-drop 4 bytes);
      numbered = ap (λ (l : List ℕ). is_numbered f c.args.number (take f.width l)) (sym (take_rest bytes 4)) ∙ sym c.has_number.ensures ∙ c.if-has_number.true;
    }))

pub returns-else-has_number : goal.returns-else-has_number
returns-else-has_number c =
    let f = format_at c.args.version in
    sym (payload_length-unnumbered f c.args.number c.args.bytes.now
    (ap (λ (l : List ℕ). is_numbered f c.args.number (take f.width l)) (sym (take_rest c.args.bytes.now 4)) ∙ sym c.has_number.ensures ∙ c.if-has_number.false))
