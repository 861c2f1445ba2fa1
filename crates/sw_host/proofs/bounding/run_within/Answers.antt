-- A run under a limit is reported as it has ended; where it was not begun the disk is as it was opened.
use Rattle.std.proofs.Common.{inl, sym, subst}
use Rattle.sw_host.proofs.BoundLemmas.{ends_bounded, left_by_bounded}
use Rattle.sw_host.proofs.bounding.run_within.Goals as goal
use Rattle.sw_store.specs.Opened.{IsUnopened}

pub returns-in-Ok-clause-ends : goal.returns-in-Ok-clause-ends
returns-in-Ok-clause-ends g c =
    ends_bounded g.D.Disk c.args.start.value c.run_bounded.new.disk c.args.limit c.args.recording c.args.store.base c.in-Ok.history.items c.in-Ok.end c.in-Ok.used
    c.printed.result c.in-Ok.ensures.ended c.in-Ok.ensures.usage c.printed.ensures.status c.printed.ensures.some c.printed.ensures.text

pub returns-in-Ok-clause-left : goal.returns-in-Ok-clause-left
returns-in-Ok-clause-left g c =
    left_by_bounded g.D.Disk c.args.start.value c.run_bounded.new.disk c.args.limit c.args.recording c.args.store.base c.in-Ok.history.items c.in-Ok.end c.printed.result c.in-Ok.ensures.ended

pub returns-in-Err-clause-left : goal.returns-in-Err-clause-left
returns-in-Err-clause-left g c = inl (subst (IsUnopened g.D.Disk c.args.start.value) (sym c.in-Err.ensures.same) c.requires.unopened)
