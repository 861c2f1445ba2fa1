-- What becomes of three parts of which one is lent.
use Rattle.std.specs.Borrow.{Lends, MutBor, Fml}
use denote.RattleType.{RattleType}
use Rattle.sw_disk.specs.declared.part.Part.{Part}
use Rattle.sw_disk.specs.declared.part.Parts.{Parts}
use Rattle.sw_disk.specs.contracts.part.Parts.{the_row}
use Rattle.sw_disk.specs.Image.{put}

-- own: the parts end with the last value behind the result as one of them
abbrev pub LendsPart : (T : RattleType) → Part → MutBor (Parts T.Denot) → MutBor T.Denot → Fml
LendsPart T part s r = Lends (the_row T) T s r (λ w. put part w s.now)
