-- What is kept is written anew, or stays.
use Rattle.sw_turns.proofs.SettleLemmas.{anew_by, ends_spoilt, ends_untended, is_made, stopped_still, tended_still, works_still}
use Rattle.sw_turns.proofs.settling.tend.Goals as goal

pub tend-requires-clause-made : goal.tend-requires-clause-made
tend-requires-clause-made g c =
    let halted = c.requires.stopped in
    is_made g.D.Disk c.args.disk.now c.args.disk.now halted.0 halted.1 c.args.store.now halted.2 c.requires.quiet.staged

pub returns-in-Ok-clause-goes_on : goal.returns-in-Ok-clause-goes_on
returns-in-Ok-clause-goes_on g c s start history halted work ahead =
    works_still g.D.Disk c.args.disk.now c.tend.new.disk s history c.args.store.now halted c.requires.quiet.staged start work
    c.tend.ensures.later c.tend.ensures.any_moment c.tend.new.self
    (record {
      quiet = c.in-Ok.ensures.quiet;
      core = c.tend.ensures.core;
      limit = c.tend.ensures.limit;
      keeps = c.in-Ok.ensures.keeps;
      told = c.in-Ok.ensures.told;
    })
    c.tend.ensures.most c.tend.ensures.count ahead

pub returns-in-Ok-clause-stopped : goal.returns-in-Ok-clause-stopped
returns-in-Ok-clause-stopped g c s history room halted =
    stopped_still g.D.Disk c.args.disk.now c.tend.new.disk s history c.args.store.now halted c.requires.quiet.staged c.tend.new.self room
    (record {
      quiet = c.in-Ok.ensures.quiet;
      core = c.tend.ensures.core;
      limit = c.tend.ensures.limit;
      keeps = c.in-Ok.ensures.keeps;
      told = c.in-Ok.ensures.told;
    })

pub returns-in-Ok-clause-tended : goal.returns-in-Ok-clause-tended
returns-in-Ok-clause-tended g c s history halted =
    tended_still g.D.Disk c.args.disk.now c.tend.new.disk s history c.args.store.now halted c.requires.quiet.staged c.tend.new.self c.in-Ok.ensures.tended

pub returns-in-Err-NoMemory-clause-goes_on : goal.returns-in-Err-NoMemory-clause-goes_on
returns-in-Err-NoMemory-clause-goes_on g c s start history halted work ahead =
    ends_untended g.D.Disk c.args.disk.now c.tend.new.disk s history c.args.store.now halted c.requires.quiet.staged start work
    (c.in-Err-NoMemory.ensures.no_memory (cc c.in-Err-NoMemory.field-0-is)).1

pub returns-in-Err-DiskFault-clause-goes_on : goal.returns-in-Err-DiskFault-clause-goes_on
returns-in-Err-DiskFault-clause-goes_on g c s start history halted work ahead =
    ends_spoilt g.D.Disk c.args.disk.now c.tend.new.disk s history c.args.store.now halted c.requires.quiet.staged start work
    c.tend.ensures.later c.tend.ensures.any_moment c.new.result c.new.ensures.items (c.in-Err-DiskFault.ensures.fault (cc c.in-Err-DiskFault.field-0-is)).0

pub returns-in-Ok-clause-anew : goal.returns-in-Ok-clause-anew
returns-in-Ok-clause-anew g c =
    anew_by g.D.Disk c.args.disk.now c.tend.new.disk c.args.store.now c.tend.new.self _ c.tend.ensures.core c.in-Ok.ensures.did c.in-Ok.ensures.did_not
