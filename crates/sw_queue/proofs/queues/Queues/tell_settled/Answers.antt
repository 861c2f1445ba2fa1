use Rattle.std.proofs.Common.{List, ℕ, ◌≡◌, ◌∙◌, ◌<◌, ◌++◌, true, length, map, filter, sym, ap, subst, append_assoc, arith}
use Rattle.std.specs.Prelude.{◌&&◌, is_none}
use Rattle.std.specs.List.{All, flat_map}
use Rattle.sw_data.specs.declared.answers.Notice.TheVariants as notice
use Rattle.sw_data.specs.declared.rows.JobRow.{JobRow}
use Rattle.sw_rules.specs.Jobs.{gets_value}
use Rattle.sw_queue.specs.Kept.{followers_of}
use Rattle.sw_queue.specs.Tables.{Table, has_job, told_at}
use Rattle.sw_queue.proofs.Running.{passing_below}
use Rattle.sw_queue.proofs.Settling.{followers_below}
use Rattle.sw_queue.proofs.Telling.{told_there, told_whole}
use Rattle.sw_queue.proofs.queues.Queues.tell_settled.Goals as goal

pub index-requires : goal.index-requires
index-requires c =
    let below = passing_below _ c.self.invariant.kept.numbers _ c.args.job
    (subst (λ (t : Table). has_job (λ row. is_none row.leader) c.args.job t.rows ≡ true) (sym c.self.view_is) c.requires.there) in
    omega (arith, below, c.self.inside.rows.ok)

pub tell_rows-requires-clause-jobs : goal.tell_rows-requires-clause-jobs
tell_rows-requires-clause-jobs c =
    let rows = c.self.inside.rows.items in
    let own = c.at.ensures ∙ c.self.invariant.kept.followers c.args.job in
    subst (λ (all : List JobRow). All (λ job. job < length all) c.at.result.now) (sym c.as_slice.ensures.value)
    (subst (λ (jobs : List ℕ). All (λ job. job < length rows) jobs) (sym own)
    (followers_below rows c.self.invariant.kept.numbers c.args.job))

pub returns-clause-told : goal.returns-clause-told
returns-clause-told c =
    let rows = c.self.inside.rows.items in
    let value = c.args.value in
    let job = c.args.job in
    let before = c.args.notices.now.rows in
    let kept = c.self.invariant.kept in
    let own = c.at.ensures ∙ kept.followers job in
    let below = passing_below rows kept.numbers _ job
    (subst (λ (t : Table). has_job (λ row. is_none row.leader) job t.rows ≡ true) (sym c.self.view_is) c.requires.there) in
    c.tell_rows.ensures.told
    ∙ ((λ i. c.tell_one.ensures.told i ++ flat_map (told_at value (c.as_slice.ensures.value i)) (own i))
    ∙ ((λ i. (before ++ told_there value rows job c.index.result.now c.index.ensures below i) ++ flat_map (told_at value rows) (followers_of job rows))
    ∙ (append_assoc before (told_at value rows job) (flat_map (told_at value rows) (followers_of job rows))
    ∙ (ap (λ notices. before ++ notices) (told_whole value rows _ _ kept job)
    ∙ ap (λ (t : Table). before ++ map (λ row. notice.Settled row.job.number value) (filter (λ row. gets_value job row && row.job.has_client) t.rows)) c.self.view_is))))
