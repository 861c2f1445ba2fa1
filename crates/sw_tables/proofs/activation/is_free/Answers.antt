use Rattle.std.proofs.Common.{◌∙◌, sym}
use Rattle.sw_tables.specs.Lent.{lent}
use Rattle.sw_tables.proofs.Trying.{unused_free, used_not_free, without}
use Rattle.sw_tables.proofs.activation.is_free.Goals as goal

pub returns-then-is_used-clause-free : goal.returns-then-is_used-clause-free
returns-then-is_used-clause-free c scopes rest =
    used_not_free (lent scopes c.args.workers.now c.args.registrations.now c.args.clients.now rest) c.args.registration
    (sym (c.is_used.ensures.used scopes c.args.workers.now c.args.registrations.now rest c.requires.slots c.requires.noted) ∙ c.if-is_used.true)

pub returns-clause-free : goal.returns-clause-free
returns-clause-free c scopes rest =
    unused_free (lent scopes c.args.workers.now c.args.registrations.now c.args.clients.now rest) c.args.registration c.has_pending_worker.result
    (sym (c.is_used.ensures.used scopes c.args.workers.now c.args.registrations.now rest c.requires.slots c.requires.noted) ∙ c.if-is_used.false)
    (c.has_pending_worker.ensures.pending scopes c.args.clients.now rest)

pub returns-clause-quiet : goal.returns-clause-quiet
returns-clause-quiet c is = c.has_pending_worker.ensures.quiet (without c.has_pending_worker.result is)
