-- A batch goes by its plan, or is refused by what it throws.
use Rattle.std.proofs.Common.{◌∙◌, sym, ap, subst}
use Rattle.sw_cachestorage.specs.Acts.{IsOutcome}
use Rattle.sw_cachestorage.specs.Faults.{done_answer}
use Rattle.sw_cachestorage.specs.declared.act.CacheAct.TheVariants as act
use Rattle.sw_cachestorage.proofs.BatchLemmas.{goes, on_pairs}
use Rattle.sw_rules.specs.Caching.{batch_changes, pairs_of}
use Rattle.sw_cachestorage.proofs.writes.batch.Goals as goal

pub returns-in-Ok-clause-step : goal.returns-in-Ok-clause-step
returns-in-Ok-clause-step c = λ others.
    let key = c.args.key.now in
    let name = c.args.name.now in
    let ops = c.args.ops.items in
    let rows = c.args.caches.now.rows in
    let told = c.in_ok-changes.ensures ∙ ap (batch_changes key name) c.as_slice.ensures.value in
    subst (λ reply. IsOutcome (on_pairs key name ops rows (done_answer c.args.truth) c.args.alone others (pairs_of key name rows)) others rows (record { answer = reply; act = act.Carry c.in-Ok.plan; changes = c.in_ok-changes.changes })) (sym c.done.ensures)
    (subst (λ changes. IsOutcome (on_pairs key name ops rows (done_answer c.args.truth) c.args.alone others (pairs_of key name rows)) others rows (record { answer = done_answer c.args.truth; act = act.Carry c.in-Ok.plan; changes = changes })) (sym told)
    (goes key name ops rows (done_answer c.args.truth) c.args.alone others c.in-Ok.plan c.in-Ok.ensures.ok))
