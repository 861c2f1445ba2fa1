use Rattle.std.proofs.Common.{◌∙◌, sym}
use Rattle.sw_bucket.proofs.Spelled.{none_spelled, read_as}
use Rattle.sw_bucket.proofs.touched.changes_in.Goals as goal

pub returns-then-is_empty : goal.returns-then-is_empty
returns-then-is_empty c = λ changes is.
    c.new.ensures.items ∙ sym (none_spelled changes c.args.bytes.now (sym c.is_empty.ensures ∙ c.if-is_empty.true) is)

pub returns-in-Ok : goal.returns-in-Ok
returns-in-Ok c = λ changes is.
    read_as c.in-Ok.changes.items changes c.args.bytes.now (sym c.is_empty.ensures ∙ c.if-is_empty.false) c.in-Ok.ensures is
