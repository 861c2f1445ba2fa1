-- One place more of the image that a crash leaves.
use Rattle.std.proofs.Common.{◌≡◌, ◌<◌, ◌≤◌, ◌+◌, ℕ, suc, List, [], ◌∷◌, ◌++◌, Bool, true, false, if◌then◌else◌, length, take, drop, set, get_or, refl, sym, ◌∙◌, ap, arith, append_assoc}
use Rattle.std.proofs.lemmas.List.{drop_more, drop-drop, take_more_set, drop-set-lt}
use Rattle.sw_disk.specs.Picks.{in_doubt, later_marks, first_pick, later_picks, picked, picks_left, picked_of, part_picked, image_picked}
use Rattle.sw_disk.specs.declared.part.Part.{Part}
use Rattle.sw_disk.specs.declared.part.Part.TheVariants.{Root, Left, Right}
use Rattle.sw_disk.specs.Image.{get}
use Rattle.sw_disk.specs.Memory.{PartLeaves, MayLeave, image_of}
use Rattle.sw_disk.specs.declared.memory.part.MemoryPart.{MemoryPart}
use Rattle.sw_disk.specs.declared.part.Parts.{Parts}
use Rattle.sw_disk.specs.Doubts.{HasCertain, Leaves}

later_drop : (marks : List Bool) → later_marks marks ≡ drop 1 marks
later_drop [] = refl
later_drop (mark ∷ marks) = refl

later_at : (i : ℕ) (marks : List Bool) → later_marks (drop i marks) ≡ drop (i + 1) marks
later_at i marks = later_drop (drop i marks) ∙ drop-drop 1 i marks

split_choice : (q : Bool) (x y : ℕ) (f : List ℕ → List ℕ) (ps qs : List ℕ) → (if q then x ∷ f ps else y ∷ f qs) ≡ (if q then x else y) ∷ f (if q then ps else qs)
split_choice true x y f ps qs = refl
split_choice false x y f ps qs = refl

module _ (marks : List Bool) (first now new picks rest : List ℕ) (i : ℕ) (within : i < length first) (size : length now ≡ length first) (same : drop i now ≡ drop i first)
    (place : new ≡ set now i (if in_doubt (drop i marks) then first_pick picks else get_or now i 0)) (used : rest ≡ (if in_doubt (drop i marks) then later_picks picks else picks)) where
  behind : drop (i + 1) now ≡ drop (i + 1) first
  behind = sym (drop-drop 1 i now) ∙ (ap (drop 1) same ∙ drop-drop 1 i first)

  at_hand : drop i first ≡ get_or now i 0 ∷ drop (i + 1) first
  at_hand = sym same ∙ (drop_more now i 0 (omega (arith, within, size)) ∙ ap (λ l. get_or now i 0 ∷ l) behind)

  pub rest_step : drop (i + 1) new ≡ drop (i + 1) first
  rest_step = ap (drop (i + 1)) place ∙ (drop-set-lt (i + 1) now i (if in_doubt (drop i marks) then first_pick picks else get_or now i 0) (omega arith) ∙ behind)

  pub picked_step : take i now ++ picked (drop i marks) (drop i first) picks ≡ take (i + 1) new ++ picked (drop (i + 1) marks) (drop (i + 1) first) rest
  picked_step =
      let ms = drop i marks in
      let bs = drop (i + 1) first in
      let pick = if in_doubt ms then first_pick picks else get_or now i 0 in
      ap (λ l. take i now ++ picked ms l picks) at_hand
      ∙ (ap (λ l. take i now ++ l) (split_choice (in_doubt ms) (first_pick picks) (get_or now i 0) (picked (later_marks ms) bs) (later_picks picks) picks)
      ∙ (ap (λ l. take i now ++ pick ∷ picked l bs (if in_doubt ms then later_picks picks else picks)) (later_at i marks)
      ∙ (ap (λ l. take i now ++ pick ∷ picked (drop (i + 1) marks) bs l) (sym used)
      ∙ (sym (append_assoc (take i now) (pick ∷ []) (picked (drop (i + 1) marks) bs rest))
      ∙ ap (λ l. l ++ picked (drop (i + 1) marks) bs rest) (sym (take_more_set now i pick (omega (arith, within, size))) ∙ ap (take (i + 1)) (sym place))))))

  pub left_step : picks_left (drop i marks) (drop i first) picks ≡ picks_left (drop (i + 1) marks) (drop (i + 1) first) rest
  left_step =
      ap (λ l. picks_left (drop i marks) l picks) at_hand
      ∙ (ap (λ l. picks_left l (drop (i + 1) first) (if in_doubt (drop i marks) then later_picks picks else picks)) (later_at i marks)
      ∙ ap (picks_left (drop (i + 1) marks) (drop (i + 1) first)) (sym used))

picked_fits : (bytes : List ℕ) (marks : List Bool) (picks : List ℕ) → length marks ≤ length bytes → HasCertain bytes marks (picked marks bytes picks)
picked_fits bytes [] picks short = tt
picked_fits [] (mark ∷ marks) picks short = absurd (omega (arith, short))
picked_fits (byte ∷ bytes) (true ∷ marks) picks short = (λ is. absurd (cc), picked_fits bytes marks (later_picks picks) (omega (arith, short)))
picked_fits (byte ∷ bytes) (false ∷ marks) picks short = (λ is. refl, picked_fits bytes marks picks (omega (arith, short)))

picked_leaves : (touched : Bool) (marks : List Bool) (bytes picks : List ℕ) → length marks ≤ length bytes → Leaves touched marks bytes (picked_of touched marks bytes picks)
picked_leaves false marks bytes picks short = refl
picked_leaves true marks bytes picks short = picked_fits bytes marks picks short

part_leaves : (part : MemoryPart) (picks : List ℕ) → PartLeaves part (part_picked part picks)
part_leaves part picks = picked_leaves part.touched part.doubts.items part.bytes.items picks part.short

-- what is picked is one of the images that a crash may leave
pub picked_allowed : (parts : Parts MemoryPart) (picks : List ℕ) → MayLeave parts (image_picked parts picks)
picked_allowed parts picks = record { root = part_leaves parts.root _; left = part_leaves parts.left _; right = part_leaves parts.right _ }

length-picked : (marks : List Bool) (bytes picks : List ℕ) → length (picked marks bytes picks) ≡ length bytes
length-picked marks [] picks = refl
length-picked [] (byte ∷ bytes) picks = ap suc (length-picked [] bytes (later_picks picks))
length-picked (true ∷ marks) (byte ∷ bytes) picks = ap suc (length-picked marks bytes (later_picks picks))
length-picked (false ∷ marks) (byte ∷ bytes) picks = ap suc (length-picked marks bytes picks)

length-picked_of : (touched : Bool) (marks : List Bool) (bytes picks : List ℕ) → length (picked_of touched marks bytes picks) ≡ length bytes
length-picked_of false marks bytes picks = refl
length-picked_of true marks bytes picks = length-picked marks bytes picks

-- and each part is as long as what reads give
pub lengths_picked : (parts : Parts MemoryPart) (picks : List ℕ) (part : Part) → length (get part (image_picked parts picks)) ≡ length (get part (image_of parts))
lengths_picked parts picks Root = length-picked_of parts.root.touched _ _ _
lengths_picked parts picks Left = length-picked_of parts.left.touched _ _ _
lengths_picked parts picks Right = length-picked_of parts.right.touched _ _ _
