use Rattle.std.proofs.Common.{◌<◌, List, ℕ, Option, None, Some, refl, ap, length, length-append, arith}
use Rattle.std.specs.Io.KnownBytes.{Consumes}
use Rattle.std.proofs.KnownBytes.{Consumes-trans}
use Rattle.sw_data.specs.Streams.{Tells}
use Rattle.sw_io.proofs.whole.read_all.Goals as goal

-- a source that lost so many bytes had as many left
longer : (old new : Option (List ℕ)) (lost : List ℕ) (n : ℕ) → Consumes old new lost → n < length lost
    → (all : List ℕ) × Tells old all × (n < length all)
longer None new lost n is more = (lost, tt, more)
longer (Some xs) None lost n is more = absurd is
longer (Some xs) (Some ys) lost n is more = (xs, refl, omega (arith, ap length is, length-append lost ys))

pub returns-then-count-limit-clause-too_large : goal.returns-then-count-limit-clause-too_large
returns-then-count-limit-clause-too_large g c _ =
    longer _ _ _ _ (Consumes-trans _ _ _ _ _ c.loop-all.invariant.lost c.in_ok-count.ensures.bytes.0)
    (simp length-append (omega (arith, c.in_ok-count.ensures.within, c.loop-all.all.ok)))

pub returns-then-count-limit-clause-consumed : goal.returns-then-count-limit-clause-consumed
returns-then-count-limit-clause-consumed g c =
    (_, Consumes-trans _ _ _ _ _ c.loop-all.invariant.lost c.in_ok-count.ensures.bytes.0)

pub returns-in_err-extend_from_slice-clause-consumed :
    goal.returns-in_err-extend_from_slice-clause-consumed
returns-in_err-extend_from_slice-clause-consumed g c =
    (_, Consumes-trans _ _ _ _ _ c.loop-all.invariant.lost c.in_ok-count.ensures.bytes.0)
