use Rattle.std.proofs.Common.{length, ◌-◌, ◌≡◌, ◌≤◌, take}
use Rattle.sw_disk.specs.Image.{get}
use Rattle.sw_disk.specs.Plain.{plain_image}
use Rattle.swhost_c.proofs.disk.read_part.Given as goal

abbrev pub invariant-loop-at : goal.invariant-loop-at
invariant-loop-at l = record {
  within : l.at ≤ length l.into;
  long : length l.into ≡ length (get l.part (plain_image l.initial.disk));
  front : take l.at l.into ≡ take l.at (get l.part (plain_image l.initial.disk));
  image : plain_image l.disk ≡ plain_image l.initial.disk;
}

abbrev pub decreases-loop-at : goal.decreases-loop-at
decreases-loop-at l = length l.initial.into - l.at
