use Rattle.std.proofs.Common.{◌≡◌, ℕ, ◌+◌, List, length, arith}
use Rattle.sw_disk.specs.Image.{Image}
use Rattle.sw_disk.specs.Meanings.{Becomes, IsDurable}
use Rattle.sw_disk.proofs.Images.{ok_so}
use Rattle.sw_journal.specs.Content.{content}
use Rattle.sw_journal.specs.Format.{format_2}
use Rattle.sw_journal.specs.WholePart.{IsWhole, place_behind}
use Rattle.sw_kept.proofs.Appended.{ok_three, stays_told}
use Rattle.sw_kept.proofs.Checkpoints.{keeps_over, leaves_over, whole_end}
use Rattle.sw_kept.proofs.checkpoint.go_over.Goals as goal
use Rattle.sw_kept.specs.Keeping.{KeepsNow, StaysTold}
use Rattle.sw_twin.specs.Current.{content_of}
use Rattle.sw_twin.specs.Twin.{StandsFor}

pub returns-clause-keeps : goal.returns-clause-keeps
returns-clause-keeps g c kept is keeps =
    let disk = g.D.Disk in
    let next = c.checkpoint.new.self in
    let start = c.args.disk.now in
    let end = c.checkpoint.new.disk in
    let contents = c.args.contents.now in
    ok_three c.checkpoint.result (Becomes disk start end (λ old new. content_of new ≡ content contents)) (IsDurable disk end) (StandsFor next disk end) (KeepsNow next kept disk end)
    (keeps_over c.args.twin.now kept disk start end keeps contents is.keeps next) c.checkpoint.ensures.has c.checkpoint.ensures.durable c.checkpoint.ensures.stands

pub returns-clause-any_moment : goal.returns-clause-any_moment
returns-clause-any_moment g c kept is keeps =
    leaves_over c.args.twin.now kept g.D.Disk c.args.disk.now c.checkpoint.new.disk keeps c.args.contents.now is.keeps c.checkpoint.ensures.any_moment

pub returns-clause-told : goal.returns-clause-told
returns-clause-told g c =
    let disk = g.D.Disk in
    let start = c.args.disk.now in
    let end = c.checkpoint.new.disk in
    let has = λ (old new : Image). content_of new ≡ content c.args.contents.now in
    ok_so c.checkpoint.result (Becomes disk start end has) (StaysTold disk start end) (stays_told disk start end has) c.checkpoint.ensures.has

pub returns-clause-end : goal.returns-clause-end
returns-clause-end g c =
    let next = c.checkpoint.new.self in
    let contents = c.args.contents.now in
    let is = c.requires.contents.1 in
    ok_so c.checkpoint.result
    ((payloads : List (List ℕ)) → IsWhole payloads contents → (next.journal.gate ≡ place_behind format_2 16 payloads) × (next.journal.count ≡ length payloads))
    (next.journal.gate + 1 ≡ length contents)
    (λ end. omega (arith, (end is.payloads is.whole).0, whole_end is.payloads contents is.whole)) c.checkpoint.ensures.end
