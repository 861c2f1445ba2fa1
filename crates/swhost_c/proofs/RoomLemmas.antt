-- What stands in a room after bytes were written into it.
use Rattle.std.proofs.Common.{◌≡◌, ℕ, ◌+◌, List, [], ◌++◌, length, take, drop, refl, sym, ◌∙◌, ap, arith}
use Rattle.std.proofs.lemmas.List.{drop-drop, drop_at, length-append, take_at}
use Rattle.sw_disk.specs.DiskRule.{written}
use Rattle.sw_disk.specs.Image.{Image}
use Rattle.swhost_c.specs.Calls.{IsInFront, bytes_of, lengths_of}
use Rattle.swhost_c.specs.declared.handing.Lengths.{Lengths}

-- bytes that are written behind those at the front
pub written_behind : (front more old room new : List ℕ) (at : ℕ) → at ≡ length front → IsInFront front old room → new ≡ written at more room → IsInFront (front ++ more) old new
written_behind front more old room new at size is made =
    let rest = drop (length front) old in
    let behind : drop (at + length more) room ≡ drop (length (front ++ more)) old =
    sym (drop-drop (length more) at room)
    ∙ ap (drop (length more)) (ap (drop at) is ∙ drop_at front rest at (sym size))
    ∙ drop-drop (length more) (length front) old
    ∙ ap (λ n. drop n old) (sym (length-append front more)) in
    made ∙ (λ i. (ap (take at) is ∙ take_at front rest at (sym size)) i ++ more ++ behind i)

-- a text and three parts that are written one behind the other
pub all_written : (text : List ℕ) (first second third : Image) (lengths : Lengths) (old one two three four : List ℕ) → lengths ≡ lengths_of text first
    → one ≡ written 0 text old → two ≡ written lengths.text first.root one → second ≡ first → three ≡ written (lengths.text + lengths.root) second.left two
    → third ≡ second → four ≡ written (lengths.text + lengths.root + lengths.left) third.right three → IsInFront (bytes_of text first) old four
all_written text first second third lengths old one two three four are is_one is_two same is_three still is_four =
    let long : lengths.text ≡ length text = ap (λ (l : Lengths). l.text) are in
    let root : lengths.root ≡ length first.root = ap (λ (l : Lengths). l.root) are in
    let left : lengths.left ≡ length first.left = ap (λ (l : Lengths). l.left) are in
    let two_long : length (text ++ first.root) ≡ length text + length first.root = length-append text first.root in
    let three_long : length (text ++ first.root ++ first.left) ≡ length (text ++ first.root) + length first.left = length-append (text ++ first.root) first.left in
    let at_one : IsInFront text old one = written_behind [] text old old one 0 refl refl is_one in
    let at_two : IsInFront (text ++ first.root) old two = written_behind text first.root old one two lengths.text long at_one is_two in
    let at_three : IsInFront (text ++ first.root ++ first.left) old three =
    written_behind (text ++ first.root) first.left old two three (lengths.text + lengths.root) (omega (arith, long, root, two_long)) at_two
    (is_three ∙ ap (λ (i : Image). written (lengths.text + lengths.root) i.left two) same) in
    written_behind (text ++ first.root ++ first.left) first.right old three four (lengths.text + lengths.root + lengths.left)
    (omega (arith, long, root, left, two_long, three_long)) at_three
    (is_four ∙ ap (λ (i : Image). written (lengths.text + lengths.root + lengths.left) i.right three) (still ∙ same))
