use Rattle.std.proofs.Common.{arith, sym}
use Rattle.sw_journal.specs.Version.{format_at}
use Rattle.sw_journal.proofs.PartLemmas.{whole_is}
use Rattle.sw_journal.proofs.parse.split_record.Goals as goal

pub split_at-requires : goal.split_at-requires
split_at-requires c =
    let whole = whole_is (format_at c.args.version) c.args.number c.args.bytes.now c.in_ok-size.size (sym c.in_ok-size.ensures) in
    omega (arith, whole.fits, c.width.ensures)

pub split_at-requires-2 : goal.split_at-requires-2
split_at-requires-2 c =
    let whole = whole_is (format_at c.args.version) c.args.number c.args.bytes.now c.in_ok-size.size (sym c.in_ok-size.ensures) in
    omega (arith, whole.fits, c.width.ensures, c.split_at.ensures.back_len)
