-- A group is written, and its entries are the history's; or it was refused.
use Rattle.std.proofs.Common.{◌≡◌, ◌++◌, List, ◌∙◌, ap, sym, subst}
use Rattle.sw_data.specs.declared.histories.Entry.{Entry}
use Rattle.sw_turns.proofs.PaceLemmas.{latest_grows}
use Rattle.sw_turns.proofs.SettleLemmas.{HasWritten, ahead, ends_refused, stopped_on, tended_on, works_on}
use Rattle.sw_turns.proofs.settling.write_group.Given.{Over}
use Rattle.sw_turns.proofs.settling.write_group.Goals as goal
use Rattle.sw_turns.proofs.settling.write_group.Goals.{After-add_all}
use Rattle.sw_turns.specs.Settling.{HasStopped}
use Rattle.sw_turns.specs.Surviving.{IsAtWork, kept_of}
use Rattle.sw_store.specs.Stores.{IsTended, all_stamped}

wrote : (g : Over) (c : After-add_all g) → HasWritten g.D.Disk c.args.disk.now c.commit.new.disk c.args.store.now c.commit.new.self
wrote g c = record {
  quiet = c.in-Ok.ensures.ok;
  core = c.commit.ensures.core;
  mark = c.commit.ensures.mark;
  limit = c.commit.ensures.limit;
  keeps = c.in-Ok.ensures.keeps;
  any_moment = c.commit.ensures.any_moment;
  acknowledged = c.in-Ok.ensures.acknowledged;
  told = c.in-Ok.ensures.told;
  nothing = c.commit.ensures.nothing;
  most = c.commit.ensures.most;
  later = c.commit.ensures.later;
  count = c.commit.ensures.count;
}

history_is : (g : Over) (c : After-add_all g) → c.args.history.now.items ++ all_stamped (g.D.Disk.clock c.commit.new.disk) c.args.store.now.staged ≡ c.add_all.new.history.items
history_is g c = sym (c.add_all.ensures.items ∙ ap (λ (entries : List Entry). c.args.history.now.items ++ entries) c.in-Ok.ensures.entries)

pub unreachable-requires : goal.unreachable-requires
unreachable-requires g c =
    let some = (c.in-Err-Broken.ensures.broken c.in-Err-Broken.field-0-0).0 (cc c.in-Err-Broken.field-0-is) in
    cc (c.requires.since, some)

pub returns-in-Ok-clause-goes_on : goal.returns-in-Ok-clause-goes_on
returns-in-Ok-clause-goes_on g c s start halted work =
    subst (λ (entries : List Entry). IsAtWork g.D.Disk start c.commit.new.disk s.base entries c.commit.new.self) (history_is g c)
    (works_on g.D.Disk c.args.disk.now c.commit.new.disk s c.args.history.now.items c.args.store.now halted start work c.commit.new.self (wrote g c))

pub returns-in-Ok-clause-ahead : goal.returns-in-Ok-clause-ahead
returns-in-Ok-clause-ahead g c s start halted work some =
    rw (← history_is g c)
    (ahead g.D.Disk c.args.disk.now c.commit.new.disk s c.args.history.now.items c.args.store.now halted start work c.commit.new.self (wrote g c) some)

pub returns-in-Ok-clause-stopped : goal.returns-in-Ok-clause-stopped
returns-in-Ok-clause-stopped g c s halted =
    subst (λ (entries : List Entry). HasStopped g.D.Disk c.commit.new.disk s entries c.commit.new.self) (history_is g c)
    (stopped_on g.D.Disk c.args.disk.now c.commit.new.disk s c.args.history.now.items c.args.store.now halted c.commit.new.self (wrote g c))

pub returns-in-Ok-clause-grows : goal.returns-in-Ok-clause-grows
returns-in-Ok-clause-grows g c s halted =
    rw (← history_is g c) (latest_grows s.base c.args.history.now.items c.args.store.now.staged halted.opens (g.D.Disk.clock c.commit.new.disk))

pub returns-in-Ok-clause-tended : goal.returns-in-Ok-clause-tended
returns-in-Ok-clause-tended g c s halted none tended =
    subst (λ (entries : List Entry). IsTended (kept_of s.base entries) c.commit.new.self) (history_is g c)
    (tended_on g.D.Disk c.args.disk.now c.commit.new.disk s c.args.history.now.items c.args.store.now halted c.commit.new.self (wrote g c) none tended)

pub returns-in-Ok-clause-written : goal.returns-in-Ok-clause-written
returns-in-Ok-clause-written g c = (g.D.Disk.clock c.commit.new.disk, sym (history_is g c))

pub returns-in-Err-DiskFault-clause-goes_on : goal.returns-in-Err-DiskFault-clause-goes_on
returns-in-Err-DiskFault-clause-goes_on g c s start halted work =
    let fault = c.in-Err-DiskFault.ensures.fault c.in-Err-DiskFault.refused (cc c.in-Err-DiskFault.field-0-is) in
    ends_refused g.D.Disk c.args.disk.now c.commit.new.disk s c.args.history.now.items c.args.store.now halted start work
    c.in-Err-DiskFault.refused fault.0 fault.1 c.commit.ensures.later c.commit.ensures.any_moment
