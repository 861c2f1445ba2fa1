-- A part of an algorithm that is taken, or isn't.
use Rattle.std.proofs.Common.{◌≡◌, Bool, true, false, if◌then◌else◌}
use Rattle.sw_rules.specs.Noticing.{Did, NoticeList}
use Rattle.sw_rules.specs.State.{State}
use Rattle.sw_rules.specs.Told.{Told}

pub did_if : (b : Bool) (one other : Told) (before after : NoticeList) (new : State) → b ≡ true → Did one before after new → Did (if b then one else other) before after new
did_if true one other before after new is did = did
did_if false one other before after new is did = absurd cc

pub did_else : (b : Bool) (one other : Told) (before after : NoticeList) (new : State) → b ≡ false → Did other before after new → Did (if b then one else other) before after new
did_else true one other before after new is did = absurd cc
did_else false one other before after new is did = did
