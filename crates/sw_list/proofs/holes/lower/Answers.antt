use Rattle.std.proofs.Common.{◌<◌, arith, length}
use Rattle.std.proofs.lemmas.List.{get_or_default}
use Rattle.std.proofs.lemmas.List.Edits.{map_over_more}
use Rattle.sw_list.specs.Holes.{lowered}
use Rattle.sw_list.proofs.holes.lower.Goals as goal

pub loop-hole-preserved : goal.loop-hole-preserved
loop-hole-preserved c =
    let within : c.loop-hole.hole-index < length c.loop-hole.holes = omega arith in
    map_over_more lowered c.args.holes.now c.loop-hole.holes c.loop-hole.hole-index _ (omega arith) c.loop-hole.invariant (get_or_default _ _ _ _ within)
