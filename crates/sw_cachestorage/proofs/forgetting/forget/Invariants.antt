-- The registrations of the key that the walk has passed are forgotten.
use Rattle.std.proofs.Common.{◌≡◌, ◌-◌, length}
use Rattle.sw_cachestorage.proofs.ForgetWalk.{IsForgotten}
use Rattle.sw_cachestorage.proofs.Walks.{place_of}
use Rattle.sw_state.specs.Hosted.{state_of}
use Rattle.sw_cachestorage.proofs.forgetting.forget.Given as goal

abbrev pub invariant-loop-at : goal.invariant-loop-at
invariant-loop-at l =
    IsForgotten l.key (state_of l.initial.host) l.initial.notices l.host l.notices l.at
    × (l.host ≡ record l.initial.host { scopes = l.host.scopes; workers = l.host.workers; registrations = l.host.registrations })

abbrev pub decreases-loop-at : goal.decreases-loop-at
decreases-loop-at l = length l.host.registrations.rows - place_of l.host.registrations.rows l.at
