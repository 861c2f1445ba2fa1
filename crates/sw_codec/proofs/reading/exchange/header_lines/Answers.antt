use Rattle.std.proofs.lemmas.Result.{err_from_is_err_and}
use Rattle.sw_codec.specs.Reading.{items_at, header_at}
use Rattle.sw_codec.proofs.Loops.{goes_on, fails, is_done}
use Rattle.sw_codec.proofs.reading.exchange.header_lines.Goals as goal

pub returns-in_err-line : goal.returns-in_err-line
returns-in_err-line c =
    let p = err_from_is_err_and c.from_residual.result c.from_residual.ensures.1 in
    rw (p.1, p.2) (fails header_at c.in_err-line.field-0.0 c.loop.lines c.args.count c.loop.counter c.loop.rest.now (items_at header_at c.args.count c.args.bytes.now) c.loop-test.true c.in_err-line.ensures c.loop.invariant)

pub loop-preserved : goal.loop-preserved
loop-preserved c =
    rw c.in_ok-push.ensures.ok (goes_on header_at c.loop.lines c.args.count c.loop.counter c.loop.rest.now c.in_ok-line.line c.in_ok-line.after.now (items_at header_at c.args.count c.args.bytes.now) c.loop-test.true c.in_ok-line.ensures c.loop.invariant)

pub returns : goal.returns
returns c = is_done header_at c.loop.lines c.args.count c.loop.counter c.loop.rest.now (items_at header_at c.args.count c.args.bytes.now) c.loop-test.false c.loop.invariant
