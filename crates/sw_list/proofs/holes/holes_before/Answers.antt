use Rattle.std.proofs.Common.{rules}
use Rattle.std.specs.Prelude.{nat_le}
use Rattle.std.proofs.lemmas.List.Sorted.{IsPartitionPoint-from_clause, IsPartitionedBy-leb}
use Rattle.sw_list.specs.declared.holes.Hole.{Hole}
use Rattle.sw_list.proofs.Lists.{prefix_point}
use Rattle.sw_list.proofs.holes.holes_before.Goals as goal

pub returns : goal.returns
returns c =
    let point = IsPartitionPoint-from_clause (λ (hole : Hole). nat_le hole.before c.args.place) _ _ c.partition_point.ensures.partitioned
    (IsPartitionedBy-leb (λ hole. hole.before) c.args.holes.now c.args.place c.requires) (λ a r q k. search rules) in
    prefix_point _ c.args.holes.now c.partition_point.result c.partition_point.ensures.bound point
