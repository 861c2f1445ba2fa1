-- What a plan needs of a host.
use Rattle.std.specs.Prelude.{◌≡◌, ◌≤◌, []}
use Rattle.sw_work.specs.declared.plan.Plan.{Plan}
use Rattle.sw_state.specs.Hosted.{Hosted}
use Rattle.sw_work.specs.Plans.{FitsWork, work_room}

-- own: a plan may be carried out on a host without memory, and no notice was told yet
pub record Fits (plan : Plan) (host : Hosted) : Type 0 where
  pub work : FitsWork plan.work host
  pub room : work_room plan.work host ≤ plan.notices.spare
  pub notices : plan.notices.rows ≡ []
