-- The durable changes that a plan holds.
use Rattle.std.specs.Prelude.{List, Option, Some, None}
use Rattle.sw_data.specs.declared.storage.Change.{Change}
use Rattle.sw_work.specs.declared.plan.Act.{Act}
use Rattle.sw_work.specs.declared.plan.Act.TheVariants as act
use Rattle.sw_work.specs.declared.plan.Work.{Work}
use Rattle.sw_work.specs.declared.plan.Work.TheVariants as work

-- own: those of an act on caches, and of no other
abbrev pub held_by : Act → Option (List Change)
held_by (act.Caches done changes) = Some changes
held_by _ = None

-- own: those of an action or a call on caches, and of the end of an addAll's fetches
abbrev pub held : Work → Option (List Change)
held (work.Asked asked) = held_by asked.act
held (work.Added task step) = Some step.changes
held _ = None
