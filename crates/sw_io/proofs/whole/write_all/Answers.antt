use Rattle.std.proofs.Common.{◌≡◌, ◌++◌, ◌∙◌, List, ℕ, ap, sym, take, drop, append_assoc, take-append-drop, arith}
use Rattle.std.proofs.KnownBytes.{Appends-trans}
use Rattle.sw_io.proofs.whole.write_all.Goals as goal

-- the front grows by what was taken of the rest
split_later : (all front rest : List ℕ) (n : ℕ) → all ≡ front ++ rest → all ≡ (front ++ take n rest) ++ drop n rest
split_later all front rest n is =
    is ∙ ap (λ l. front ++ l) (sym (take-append-drop n rest)) ∙ sym (append_assoc front (take n rest) (drop n rest))

pub loop-rest-preserved : goal.loop-rest-preserved
loop-rest-preserved g c =
    let (front, is, had) = c.loop-rest.invariant.taken in
    record {
      taken = (
        front ++ take c.in_ok-taken.taken c.loop-rest.rest.now,
        rw c.split_at.ensures.back (split_later _ front c.loop-rest.rest.now c.in_ok-taken.taken is),
        record {
          held = Appends-trans _ _ _ _ _ had.held c.in_ok-taken.ensures.bytes;
          handed =
              c.in_ok-taken.ensures.taken
              ∙ ap (λ (all : List ℕ). all ++ take c.in_ok-taken.taken c.loop-rest.rest.now) had.handed
              ∙ append_assoc _ front (take c.in_ok-taken.taken c.loop-rest.rest.now);
        },
      );
      count = omega (arith, c.in_ok-taken.ensures.count);
    }
