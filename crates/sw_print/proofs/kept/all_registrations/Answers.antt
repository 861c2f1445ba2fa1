use Rattle.std.proofs.Common.{◌≡◌, ◌∙◌, ◌<◌, ◌+◌, ◌++◌, [], take, flat_map, length, get_or, ℕ, List, string_bytes}
use Rattle.std.proofs.lemmas.List.{flat_map_more, take_more}
use Rattle.sw_print.specs.Showing.{registration_lines}
use Rattle.sw_print.proofs.kept.all_registrations.Goals as goal

-- the texts of one more member
one_more : {X : Type 0} (text : X → List ℕ) (xs : List X) (i : ℕ) (x : X) (before line after : List ℕ) → i < length xs
    → x ≡ get_or xs i x → before ≡ flat_map text (take i xs) → line ≡ text x → after ≡ before ++ line
    → after ≡ flat_map text (take (i + 1) xs)
one_more text xs i x before line after inside is was added grown =
    let longer = take_more xs i x inside in
    let joined = flat_map_more text [] (take i xs) x in cc

pub loop-row-preserved : goal.loop-row-preserved
loop-row-preserved c =
    one_more registration_lines c.args.rows.now c.loop-row.row-index c.row-item.result (string_bytes c.loop-row.text)
    c.as_str.result.now (string_bytes c.push_str.new.self) c.loop-row-test.true c.row-item.is
    c.loop-row.invariant (c.as_str.ensures.value ∙ c.in_ok-lines.ensures) c.in_ok-push_str.ensures.bytes
