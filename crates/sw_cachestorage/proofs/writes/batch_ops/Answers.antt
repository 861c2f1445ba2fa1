-- All addresses parse, or the first that doesn't is told behind the operations before it.
use Rattle.std.proofs.Common.{◌≡◌, subst, arith}
use Rattle.std.specs.Prelude.{Ok, Err, IfOk}
use Rattle.sw_cachestorage.specs.Acts.{IsStep}
use Rattle.sw_rules.specs.Caching.{batch_parsed, parsed_ops, with_cache_pairs}
use Rattle.sw_cachestorage.proofs.writes.batch_ops.Goals as goal

pub returns-in-Ok-clause-step : goal.returns-in-Ok-clause-step
returns-in-Ok-clause-step c =
    let key = c.args.key.now in
    let name = c.args.asked.now.name in
    let parsed : Ok c.in-Ok.ops.items ≡ parsed_ops c.args.base.now c.args.asked.now.operations = grind (arith, c.in-Ok.is, c.in_ok-ops.ensures, c.as_slice.ensures) in
    subst (λ ops. IfOk c.batch.result (IsStep c.args.caches.now.rows (λ state. with_cache_pairs state key name (batch_parsed state key name ops)))) parsed c.batch.ensures.step

pub returns-in-Err-clause-step : goal.returns-in-Err-clause-step
returns-in-Err-clause-step c =
    let key = c.args.key.now in
    let name = c.args.asked.now.name in
    let parsed : Err c.in-Err.before.items ≡ parsed_ops c.args.base.now c.args.asked.now.operations = grind (arith, c.in-Err.is, c.in_ok-ops.ensures, c.as_slice.ensures) in
    subst (λ ops. IfOk c.unparsed_batch.result (IsStep c.args.caches.now.rows (λ state. with_cache_pairs state key name (batch_parsed state key name ops)))) parsed c.unparsed_batch.ensures.step
