-- No client has a focus.
use Rattle.std.proofs.Common.{ℕ, List, refl, subst, sym}
use Rattle.std.specs.List.{IsDistinct}
use Rattle.sw_client.specs.Keyed.{IsKeyed}
use Rattle.sw_roster.proofs.recent.Recent.new.Goals as goal

pub invariant_of-result : goal.invariant_of-result
unfolding IsDistinct
invariant_of-result c =
    subst (λ (entries : List (ℕ × ℕ)). IsKeyed (λ number. number) entries) (sym c.new.ensures) (record { rows = refl; apart = tt })
