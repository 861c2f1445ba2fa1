use Rattle.std.proofs.Common.{◌≡◌, ◌∙◌, sym}
use Rattle.sw_rules.specs.Storage.{with_batch}
use Rattle.sw_caches.specs.declared.fault.BatchFault.TheVariants as fault
use Rattle.sw_change.proofs.CacheLemmas.{batch_done, batch_refused}
use Rattle.sw_change.proofs.Entries.{on_ok}
use Rattle.sw_change.proofs.cached.change_pairs.Goals as goal

pub returns-in-Ok-clause-ok : goal.returns-in-Ok-clause-ok
returns-in-Ok-clause-ok c = batch_done c.args.key.now c.args.name.now c.args.operations.items c.args.caches.now.rows c.batch.new.self.rows c.in-Ok.ensures.ok

pub returns-in-Err-clause-ok : goal.returns-in-Err-clause-ok
returns-in-Err-clause-ok c =
    let key = c.args.key.now in
    let name = c.args.name.now in
    let ops = c.args.operations.items in
    let rows = c.args.caches.now.rows in
    let why = c.in-Err.why in
    on_ok c.want_of_memory.result (why ≡ fault.NoMemory → ⊥) (c.batch.new.self.rows ≡ with_batch key name ops rows) c.want_of_memory.ensures
    (λ other. c.in-Err.ensures.same ∙ sym (batch_refused key name ops why rows other c.in-Err.ensures.err))
