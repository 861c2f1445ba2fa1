use Rattle.std.proofs.Common.{List, Ok, sym, ap, ◌∙◌, arith}
use Rattle.sw_data.specs.declared.storage.Change.{Change}
use Rattle.sw_codec.proofs.Payloads.{begins, shorter, bad, last, more}
use Rattle.sw_codec.proofs.reading.changes.read.Goals as goal

pub loop-change-init : goal.loop-change-init
loop-change-init c = rw c.new-changes.ensures.items (begins c.args.bytes.now (λ i. omega (arith, c.type_inv.bytes i)))

pub returns-in-Err-Bad : goal.returns-in-Err-Bad
returns-in-Err-Bad c =
    let none = rw c.in-Err-Bad.field-0-is at c.in-Err-Bad.ensures in
    bad c.args.bytes.now c.loop-change.changes.items c.loop-change.rest.now c.loop-change.invariant none

pub returns-then-is_empty : goal.returns-then-is_empty
returns-then-is_empty c =
    last c.args.bytes.now c.loop-change.changes.items c.loop-change.rest.now c.loop-change.invariant c.in-Ok.change c.in-Ok.after.now c.in-Ok.ensures (sym c.is_empty.ensures ∙ c.if-is_empty.true)
    ∙ ap (λ (l : List Change). Ok l) (sym c.in_ok-push-in-Ok.ensures.items)

pub loop-change-smaller : goal.loop-change-smaller
loop-change-smaller c = shorter c.loop-change.rest.now c.in-Ok.change c.in-Ok.after.now c.loop-change.invariant.fits c.in-Ok.ensures

pub loop-change-preserved : goal.loop-change-preserved
loop-change-preserved c =
    rw c.in_ok-push-in-Ok.ensures.items
    (more c.args.bytes.now c.loop-change.changes.items c.loop-change.rest.now c.loop-change.invariant c.in-Ok.change c.in-Ok.after.now c.in-Ok.ensures (sym c.is_empty.ensures ∙ c.if-is_empty.false))
