-- What a crash may leave of a part of a disk in memory, after a write and after a cut.
use Rattle.std.proofs.Common.{◌≡◌, ◌+◌, ◌-◌, ◌<◌, ◌≤◌, ◌↔◌, min, ℕ, zero, suc, List, [], ◌∷◌, ◌++◌, Bool, true, false, if◌then◌else◌, length, get_or, take, drop, map, replicate, refl, sym, ◌∙◌, ap, subst, arith, ⊎_elim, length-take, length-drop, length-append}
use Rattle.std.specs.List.{range_with_len}
use Rattle.std.proofs.lemmas.List.{length-replicate, get_or-take, get_or-drop, get_or-replicate, places}
use Rattle.std.proofs.lemmas.List.FromFn.{length-map-range_with_len, get_or-map-range_with_len}
use Rattle.std.proofs.lemmas.Grind.{same_number_lists}
use Rattle.std.proofs.lemmas.Bool.{cases_lt}
use Rattle.sw_disk.specs.DiskRule.{written, Torn, PendingCut}
use Rattle.sw_disk.specs.Doubts.{HasCertain, Leaves, marked, marks_of, Exactly}
use Rattle.sw_disk.specs.MemoryLaws.{fits_itself}
use Rattle.sw_disk.proofs.Marks.{length-marked}

-- what fits has a byte for each mark
fits_long : (bytes : List ℕ) (marks : List Bool) (c : List ℕ) → HasCertain bytes marks c → length marks ≤ length c
fits_long bytes [] c fits = omega arith
fits_long [] (mark ∷ marks) c fits = absurd fits
fits_long (byte ∷ bytes) (mark ∷ marks) [] fits = absurd fits
fits_long (byte ∷ bytes) (mark ∷ marks) (x ∷ c) fits = omega (arith, fits_long bytes marks c fits.1)

-- and where the mark is false it has what reads give
fits_sure : (bytes : List ℕ) (marks : List Bool) (c : List ℕ) (k : ℕ) → HasCertain bytes marks c → get_or marks k true ≡ false → get_or c k 0 ≡ get_or bytes k 0
fits_sure bytes [] c k fits sure = absurd (cc)
fits_sure [] (mark ∷ marks) c k fits sure = absurd fits
fits_sure (byte ∷ bytes) (mark ∷ marks) [] k fits sure = absurd fits
fits_sure (byte ∷ bytes) (mark ∷ marks) (x ∷ c) zero fits sure = fits.0 sure
fits_sure (byte ∷ bytes) (mark ∷ marks) (x ∷ c) (suc k) fits sure = fits_sure bytes marks c k fits.1 sure

-- what has these two fits
sure_fits : (bytes : List ℕ) (marks : List Bool) (c : List ℕ) → length marks ≤ length bytes → length marks ≤ length c
    → ((k : ℕ) → k < length marks → get_or marks k true ≡ false → get_or c k 0 ≡ get_or bytes k 0) → HasCertain bytes marks c
sure_fits bytes [] c short long sure = tt
sure_fits [] (mark ∷ marks) c short long sure = absurd (omega (arith, short))
sure_fits (byte ∷ bytes) (mark ∷ marks) [] short long sure = absurd (omega (arith, long))
sure_fits (byte ∷ bytes) (mark ∷ marks) (x ∷ c) short long sure =
    (sure 0 (omega arith), sure_fits bytes marks c (omega (arith, short)) (omega (arith, long)) (λ k within. sure (suc k) (omega (arith, within))))

-- a place is sure after n more are in doubt where it was sure and isn't one of them
marked_at : (at n : ℕ) (marks : List Bool) (k : ℕ) → (get_or (marked at n marks) k true ≡ false) ↔ ((get_or marks k true ≡ false) × (at ≤ k → at + n ≤ k))
marked_at at n [] k = (λ e. absurd (cc), λ e. e.0)
marked_at zero zero (mark ∷ marks) k = (λ e. (e, λ _. omega arith), λ e. e.0)
marked_at zero (suc n) (mark ∷ marks) zero = (λ e. absurd (cc), λ e. absurd (omega (arith, e.1 (omega arith))))
marked_at zero (suc n) (mark ∷ marks) (suc k) =
    let rest = marked_at zero n marks k in (λ e. ((rest.0 e).0, λ _. omega (arith, (rest.0 e).1)), λ e. rest.1 (e.0, λ _. omega (arith, e.1)))
marked_at (suc at) n (mark ∷ marks) zero = (λ e. (e, λ le. absurd (omega (arith, le))), λ e. e.0)
marked_at (suc at) n (mark ∷ marks) (suc k) =
    let rest = marked_at at n marks k in (λ e. ((rest.0 e).0, λ le. omega (arith, le, (rest.0 e).1)), λ e. rest.1 (e.0, λ le. omega (arith, le, e.1)))

-- lists with one front are the same at each place of it
front_at : (n k : ℕ) (a b : List ℕ) → take n a ≡ take n b → k < n → get_or a k 0 ≡ get_or b k 0
front_at n k a b same lt = sym (get_or-take n a k 0 lt) ∙ ap (λ l. get_or l k 0) same ∙ get_or-take n b k 0 lt

-- outside of its range, and below the old end, a torn write leaves the bytes that were there
torn_at : (end at n : ℕ) (old new : List ℕ) → Torn end at n old new → (k : ℕ) → k < end → (at ≤ k → at + n ≤ k) → get_or new k 0 ≡ get_or old k 0
torn_at end at n old new torn k lt outside = ⊎_elim (λ front. front_at at k new old torn.before front) behind (cases_lt k at)
  where
    there : (l : List ℕ) (j : ℕ) → at + n + j ≡ k → get_or (drop (at + n) l) j 0 ≡ get_or l k 0
    there l j is = get_or-drop (at + n) l j 0 ∙ ap (λ i. get_or l i 0) is

    behind : at ≤ k → get_or new k 0 ≡ get_or old k 0
    behind le =
        let j = k - (at + n) in
        let is : at + n + j ≡ k = omega (arith, outside le) in
        sym (there new j is) ∙ front_at (end - (at + n)) j (drop (at + n) new) (drop (at + n) old) torn.behind (omega (arith, lt, is)) ∙ there old j is

-- lists that are the same below n have one front
front_from_at : (n : ℕ) (a b : List ℕ) → min n (length a) ≡ min n (length b) → ((k : ℕ) → k < n → k < length a → get_or a k 0 ≡ get_or b k 0) → take n a ≡ take n b
front_from_at n a b long same = same_number_lists (take n a) (take n b) (omega (arith, length-take n a, length-take n b)) (λ k lt.
    let below : k < n = omega (arith, lt, length-take n a) in
    get_or-take n a k 0 below ∙ same k below (omega (arith, lt, length-take n a)) ∙ sym (get_or-take n b k 0 below))

-- and what leaves these is a torn write
torn_from_at : (end at n : ℕ) (old new : List ℕ) → at ≤ end → min end (length old) ≡ min end (length new)
    → ((k : ℕ) → k < end → k < length new → (at ≤ k → at + n ≤ k) → get_or new k 0 ≡ get_or old k 0) → Torn end at n old new
torn_from_at end at n old new fits long same = record {
  before = front_from_at at new old (omega arith) (λ k lt within. same k (omega arith) within (λ le. absurd (omega (arith, le))));
  behind = front_from_at (end - (at + n)) (drop (at + n) new) (drop (at + n) old) (omega (arith, length-drop (at + n) new, length-drop (at + n) old))
      (λ k lt within. get_or-drop (at + n) new k 0 ∙ same (at + n + k) (omega arith) (omega (arith, length-drop (at + n) new)) (λ le. omega arith) ∙ sym (get_or-drop (at + n) old k 0));
  no_shorter = omega arith;
}

-- the marks of a part, one that wasn't touched too
marks_short : (touched : Bool) (marks : List Bool) (bytes : List ℕ) → length marks ≤ length bytes → length (marks_of touched marks bytes) ≤ length bytes
marks_short false marks bytes short = omega (arith, length-replicate (length bytes) false)
marks_short true marks bytes short = short

left_fits : (touched : Bool) (marks : List Bool) (bytes d : List ℕ) → length marks ≤ length bytes → Leaves touched marks bytes d → HasCertain bytes (marks_of touched marks bytes) d
left_fits false marks bytes d short left = subst (HasCertain bytes (replicate (length bytes) false)) (sym left) (fits_itself bytes _ (marks_short false marks bytes short))
left_fits true marks bytes d short left = left

chosen : (mark : Bool) (x y : ℕ) → (mark ≡ false → y ≡ x) → (if mark then x else y) ≡ x
chosen true x y same = refl
chosen false x y same = same refl

-- a write, of which reads now give what a torn write may leave
module _ (marks : List Bool) (bytes now : List ℕ) (at n : ℕ) (short : length marks ≤ length bytes) (torn : Torn (length bytes) at n bytes now) where
  -- what fits now was the same outside of the range, where nothing was in doubt
  kept_outside : (c : List ℕ) → HasCertain now (marked at n marks) c → (k : ℕ) → k < length bytes → get_or marks k true ≡ false → (at ≤ k → at + n ≤ k) → get_or c k 0 ≡ get_or bytes k 0
  kept_outside c fits k lt sure outside =
      fits_sure now (marked at n marks) c k fits ((marked_at at n marks k).1 (sure, outside)) ∙ torn_at (length bytes) at n bytes now torn k lt outside

  -- so it comes from what fitted, by a torn write
  write_back : at ≤ length bytes → (c : List ℕ) → HasCertain now (marked at n marks) c → (d : List ℕ) × HasCertain bytes marks d × Torn (length bytes) at n d c
  write_back fits c left =
      let f : ℕ → ℕ = λ k. if get_or marks k true then get_or c k 0 else get_or bytes k 0 in
      let d = map f (range_with_len 0 (length c)) in
      let size : length d ≡ length c = length-map-range_with_len f 0 (length c) in
      let is : (k : ℕ) → k < length c → get_or d k 0 ≡ f k = λ k lt. get_or-map-range_with_len f 0 (length c) k k 0 lt (omega arith) in
      let long : length marks ≤ length c = omega (arith, fits_long now (marked at n marks) c left, length-marked at n marks) in (
        d,
        sure_fits bytes marks d short (omega (arith, size, long))
            (λ k lt sure. is k (omega (arith, lt, long)) ∙ ap (λ (b : Bool). if b then get_or c k 0 else get_or bytes k 0) sure),
        torn_from_at (length bytes) at n d c fits (omega (arith, size))
            (λ k lt within outside. sym (is k within ∙ chosen (get_or marks k true) (get_or c k 0) (get_or bytes k 0) (λ sure. sym (kept_outside c left k lt sure outside)))),
      )

  -- and what comes so from what fitted fits
  write_forth : (c d : List ℕ) → HasCertain bytes marks d → Torn (length bytes) at n d c → HasCertain now (marked at n marks) c
  write_forth c d left step =
      sure_fits now (marked at n marks) c (omega (arith, short, length-marked at n marks, torn.no_shorter)) (omega (arith, short, fits_long bytes marks d left, length-marked at n marks, step.no_shorter))
      (λ k lt sure.
      let was = (marked_at at n marks k).0 sure in
      let below : k < length bytes = omega (arith, lt, short, length-marked at n marks) in
      torn_at (length bytes) at n d c step k below was.1 ∙ fits_sure bytes marks d k left was.0 ∙ sym (torn_at (length bytes) at n bytes now torn k below was.1))

-- a cut, of which reads now give the same front
module _ (marks : List Bool) (bytes now : List ℕ) (len : ℕ) (short : length marks ≤ length bytes) (fits : len ≤ length bytes) (same : take len now ≡ take len bytes) where
  kept_front : (c : List ℕ) → HasCertain now (take len marks) c → (k : ℕ) → k < len → get_or marks k true ≡ false → get_or c k 0 ≡ get_or bytes k 0
  kept_front c left k lt sure = fits_sure now (take len marks) c k left (get_or-take len marks k true lt ∙ sure) ∙ front_at len k now bytes same lt

  cut_back : (c : List ℕ) → HasCertain now (take len marks) c → (d : List ℕ) × HasCertain bytes marks d × PendingCut len d c
  cut_back c left =
      let rest = take (length marks - len) (drop len bytes) in
      let long : min len (length marks) ≤ length c = omega (arith, fits_long now (take len marks) c left, length-take len marks) in
      let size : length (take len c ++ rest) ≡ min len (length c) + min (length marks - len) (length bytes - len) =
      omega (arith, length-append (take len c) rest, length-take len c, length-take (length marks - len) (drop len bytes), length-drop len bytes) in (
        take len c ++ rest,
        sure_fits bytes marks (take len c ++ rest) short (omega arith) (λ k lt sure. grind (arith, places, kept_front c left k)),
        front_from_at len c (take len c ++ rest) (omega arith) (λ k lt within. grind (arith, places)),
      )

  cut_forth : (c d : List ℕ) → HasCertain bytes marks d → PendingCut len d c → HasCertain now (take len marks) c
  cut_forth c d left step =
      sure_fits now (take len marks) c (omega (arith, length-take len marks, short, ap length same, length-take len now, length-take len bytes))
      (omega (arith, length-take len marks, fits_long bytes marks d left, ap length step, length-take len c, length-take len d))
      (λ k lt sure.
      let within : k < len = omega (arith, lt, length-take len marks) in
      front_at len k c d step within ∙ fits_sure bytes marks d k left (sym (get_or-take len marks k true within) ∙ sure) ∙ sym (front_at len k now bytes same within))

-- a write that was done is a torn one
pub written_torn : (at : ℕ) (new old : List ℕ) → at ≤ length old → Torn (length old) at (length new) old (written at new old)
written_torn at new old fits = torn_from_at (length old) at (length new) old (written at new old) fits
    (omega (arith, length-append (take at old ++ new) (drop (at + length new) old), length-append (take at old) new, length-take at old, length-drop (at + length new) old))
    (λ k lt within outside. grind (arith, places))

-- and so is one that changed nothing
pub same_torn_write : (at n : ℕ) (old : List ℕ) → Torn (length old) at n old old
same_torn_write at n old = record { before = refl; behind = refl; no_shorter = omega arith }

-- a part that wasn't touched leaves what reads gave
wrote_back : (touched : Bool) (marks : List Bool) (bytes now : List ℕ) (at n : ℕ) → length marks ≤ length bytes → at ≤ length bytes → Torn (length bytes) at n bytes now
    → (c : List ℕ) → HasCertain now (marked at n (marks_of touched marks bytes)) c → (d : List ℕ) × Leaves touched marks bytes d × Torn (length bytes) at n d c
wrote_back true marks bytes now at n short fits torn c left = write_back marks bytes now at n short torn fits c left
wrote_back false marks bytes now at n short fits torn c left =
    let none = replicate (length bytes) false in
    let size = length-replicate (length bytes) false in (
      bytes,
      refl,
      torn_from_at (length bytes) at n bytes c fits (omega (arith, fits_long now (marked at n none) c left, length-marked at n none, size))
          (λ k lt within outside. kept_outside none bytes now at n (omega (arith, size)) torn c left k lt (get_or-replicate (length bytes) k false true lt) outside),
    )

clipped_back : (touched : Bool) (marks : List Bool) (bytes now : List ℕ) (len : ℕ) → length marks ≤ length bytes → len ≤ length bytes → take len now ≡ take len bytes
    → (c : List ℕ) → HasCertain now (take len (marks_of touched marks bytes)) c → (d : List ℕ) × Leaves touched marks bytes d × PendingCut len d c
clipped_back true marks bytes now len short fits same c left = cut_back marks bytes now len short fits same c left
clipped_back false marks bytes now len short fits same c left =
    let none = replicate (length bytes) false in
    let size = length-replicate (length bytes) false in (
      bytes,
      refl,
      front_from_at len c bytes (omega (arith, fits, fits_long now (take len none) c left, length-take len none, size))
          (λ k lt within. kept_front none bytes now len (omega (arith, size)) fits same c left k lt (get_or-replicate (length bytes) k false true (omega (arith, lt, fits)))),
    )

-- what a part's fields are after a write and after a cut
module _ (touched touched' : Bool) (marks marks' : List Bool) (bytes now : List ℕ) (is_touched : touched' ≡ true) (short : length marks ≤ length bytes) where
  -- what may be left is what fits the marks, so that it may have been left
  pub wrote : (at n : ℕ) → marks' ≡ marked at n (marks_of touched marks bytes) → at ≤ length bytes → Torn (length bytes) at n bytes now
      → Exactly (Torn (length bytes) at n) (Leaves touched marks bytes) (Leaves touched' marks' now)
  wrote at n are fits torn = subst (λ t. Exactly (Torn (length bytes) at n) (Leaves touched marks bytes) (Leaves t marks' now)) (sym is_touched) (record {
    nothing_else = λ c left. wrote_back touched marks bytes now at n short fits torn c (subst (λ m. HasCertain now m c) are left);
    each = λ c d left step. subst (λ m. HasCertain now m c) (sym are)
        (write_forth (marks_of touched marks bytes) bytes now at n (marks_short touched marks bytes short) torn c d (left_fits touched marks bytes d short left) step);
  })

  pub clipped : (len : ℕ) → marks' ≡ take len (marks_of touched marks bytes) → len ≤ length bytes → take len now ≡ take len bytes
      → Exactly (PendingCut len) (Leaves touched marks bytes) (Leaves touched' marks' now)
  clipped len are fits same = subst (λ t. Exactly (PendingCut len) (Leaves touched marks bytes) (Leaves t marks' now)) (sym is_touched) (record {
    nothing_else = λ c left. clipped_back touched marks bytes now len short fits same c (subst (λ m. HasCertain now m c) are left);
    each = λ c d left step. subst (λ m. HasCertain now m c) (sym are)
        (cut_forth (marks_of touched marks bytes) bytes now len (marks_short touched marks bytes short) fits same c d (left_fits touched marks bytes d short left) step);
  })
