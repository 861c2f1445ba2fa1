use Rattle.std.proofs.Common.{[], sym}
use Rattle.sw_bucket.proofs.bucket.uses_of.Goals as goal

pub returns : goal.returns
returns c = λ base legal is. c.in_ok-note.ensures.ok base [] (c.new-uses.ensures base) legal ([], sym is)
