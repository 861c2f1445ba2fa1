use Rattle.sw_disk.specs.DiskRule.{ForTold}
use Rattle.sw_disk.specs.Meanings.{Becomes, IsDurable}
use Rattle.sw_disk.proofs.Images.{ok_so}
use Rattle.sw_journal.specs.Journal.{Since}
use Rattle.sw_kept.proofs.Appended.{keeps_more, leaves_either, ok_three, since_more, stays_told}
use Rattle.sw_kept.proofs.appending.append.Goals as goal
use Rattle.sw_kept.specs.Keeping.{KeepsNow, StaysTold}
use Rattle.sw_kept.specs.Stored.{HasKept}
use Rattle.sw_rules.specs.Storage.{kept_after}
use Rattle.sw_twin.specs.Twin.{HasMore, StandsFor}

pub returns-clause-keeps : goal.returns-clause-keeps
returns-clause-keeps g c kept all spells keeps =
    let disk = g.D.Disk in
    let twin = c.args.twin.now in
    let next = c.append.new.self in
    let start = c.args.disk.now in
    let end = c.append.new.disk in
    let payload = c.args.payload.now in
    ok_three c.append.result (Becomes disk start end (HasMore twin payload)) (IsDurable disk end) (StandsFor next disk end) (KeepsNow next (kept_after kept all) disk end)
    (keeps_more twin kept disk start end keeps payload all spells next) c.append.ensures.added c.append.ensures.durable c.append.ensures.stands

pub returns-clause-any_moment : goal.returns-clause-any_moment
returns-clause-any_moment g c kept all spells keeps =
    leaves_either c.args.twin.now kept g.D.Disk c.args.disk.now c.append.new.disk keeps c.args.payload.now all spells c.append.ensures.any_moment

pub returns-clause-acknowledged : goal.returns-clause-acknowledged
returns-clause-acknowledged g c kept all spells keeps =
    let disk = g.D.Disk in
    let twin = c.args.twin.now in
    let start = c.args.disk.now in
    let end = c.append.new.disk in
    let payload = c.args.payload.now in
    ok_so c.append.result (ForTold (disk.seen start) (λ image. Since disk end end (HasMore twin payload image))) (ForTold (disk.seen start) (λ image. Since disk end end (HasKept (kept_after kept all))))
    (since_more twin kept disk start end keeps payload all spells) c.append.ensures.acknowledged

pub returns-clause-told : goal.returns-clause-told
returns-clause-told g c =
    let disk = g.D.Disk in
    let start = c.args.disk.now in
    let end = c.append.new.disk in
    let more = HasMore c.args.twin.now c.args.payload.now in
    ok_so c.append.result (Becomes disk start end more) (StaysTold disk start end) (stays_told disk start end more) c.append.ensures.added
