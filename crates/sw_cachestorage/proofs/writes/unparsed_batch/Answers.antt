-- The operations throw nothing but the quota: the address is told, behind them.
use Rattle.std.proofs.Common.{◌≡◌, ◌∙◌, [], length, Some, sym, subst, arith}
use Rattle.sw_cachestorage.specs.declared.act.CacheAct.TheVariants as act
use Rattle.sw_cachestorage.proofs.UnparsedLemmas.{IsTold, unparsed}
use Rattle.sw_data.specs.declared.answers.Answer.TheVariants as answer
use Rattle.sw_data.specs.declared.answers.Cause.TheVariants as cause
use Rattle.sw_data.specs.declared.answers.Fault.TheVariants as fault
use Rattle.sw_rules.specs.Caching.{pairs_of}
use Rattle.sw_cachestorage.proofs.writes.unparsed_batch.Goals as goal

pub returns-in-None-clause-step : goal.returns-in-None-clause-step
returns-in-None-clause-step c = λ others.
    let ops = c.args.before.items in
    let at : length ops ≡ c.in-Ok.at = omega (arith, c.in-Ok.ensures, c.len.ensures) in
    subst (IsTold c.args.key.now c.args.name.now ops c.args.caches.now.rows others (pairs_of c.args.key.now c.args.name.now c.args.caches.now.rows))
    ((λ i. record { answer = answer.Fault (fault.TypeError cause.Unparsed (Some (at i))); act = act.Nothing; changes = [] }) ∙ sym c.refused.ensures)
    (unparsed c.args.key.now c.args.name.now ops c.args.caches.now.rows others c.plan-planned.result c.plan-planned.ensures.ok c.plan-planned.ensures.err (sym c.thrown.ensures ∙ c.in-None.is))
