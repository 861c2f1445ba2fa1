-- A fetch that fits a host fits it whatever its navigation preloads are.
use Rattle.std.specs.Prelude.{ℕ}
use Rattle.sw_ledgers.specs.Preloaded as preloads
use Rattle.sw_state.specs.Hosted.{Hosted}
use Rattle.sw_work.specs.Plans.{FitsFetch}
use Rattle.sw_work.specs.declared.plan.NewFetch.{NewFetch}

pub fetch_later : (draw : NewFetch) (job : ℕ) (host : Hosted) (table : preloads.Table) → FitsFetch draw job host → FitsFetch draw job (record host { preloads = table })
fetch_later draw job host table fits = record { number = fits.number; address = fits.address; room = fits.room }
