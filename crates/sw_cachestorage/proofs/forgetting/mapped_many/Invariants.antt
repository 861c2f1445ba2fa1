-- The mapped registrations of the key that the walk has passed are counted.
use Rattle.std.proofs.Common.{◌-◌, length}
use Rattle.sw_cachestorage.proofs.ForgetWalk.{CountsMapped}
use Rattle.sw_cachestorage.proofs.Walks.{place_of}
use Rattle.sw_cachestorage.proofs.forgetting.mapped_many.Given as goal

abbrev pub invariant-loop-at : goal.invariant-loop-at
invariant-loop-at l = CountsMapped l.key l.host l.many l.at

abbrev pub decreases-loop-at : goal.decreases-loop-at
decreases-loop-at l = length l.host.registrations.rows - place_of l.host.registrations.rows l.at
