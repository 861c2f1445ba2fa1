-- What is kept is written anew, or stays, or the disk or want of memory ends the run.
use Rattle.std.proofs.Common.{sym, subst}
use Rattle.sw_bucket.proofs.RunLemmas.{cut_ends, standing, stands}
use Rattle.sw_bucket.proofs.writing.tended.Goals as goal
use Rattle.sw_bucket.specs.Evicting.{IsCut}
use Rattle.sw_bucket.specs.declared.ends.BoundedEnd.{BoundedEnd}

pub tend-requires-clause-stopped : goal.tend-requires-clause-stopped
tend-requires-clause-stopped g c =
    let it = c.requires.next in
    (standing it.0, it.1, stands it.0 it.1 g.D.Disk c.args.disk.now c.args.store.now it.2 c.requires.quiet.staged it.3)

pub returns-in-Ok-clause-goes_on : goal.returns-in-Ok-clause-goes_on
returns-in-Ok-clause-goes_on g c course history goes work ahead =
    let stopped = stands course history g.D.Disk c.args.disk.now c.args.store.now goes c.requires.quiet.staged work.keeps in (
      (c.in-Ok.ensures.stopped (standing course) history tt stopped).stops,
      c.in-Ok.ensures.quiet,
      c.in-Ok.ensures.goes_on (standing course) course.start history stopped work ahead,
    )

pub returns-in-Err-clause-goes_on : goal.returns-in-Err-clause-goes_on
returns-in-Err-clause-goes_on g c course history goes work ahead =
    let stopped = stands course history g.D.Disk c.args.disk.now c.args.store.now goes c.requires.quiet.staged work.keeps in
    subst (λ (ended : BoundedEnd). IsCut g.D.Disk c.tend.new.disk course history ended) (sym {A = BoundedEnd} c.cut.ensures)
    (cut_ends g.D.Disk c.tend.new.disk course history c.in-Err.end c.in-Err.ensures.cut (c.in-Err.ensures.goes_on (standing course) course.start history stopped work ahead))
