use Rattle.std.proofs.Common.{◌∙◌, sym}
use Rattle.sw_tables.specs.Lent.{lent}
use Rattle.sw_tables.proofs.Trying.{is_cleared, not_cleared}
use Rattle.sw_tables.proofs.activation.try_clear.Goals as goal

pub clear-requires-clause-quiet : goal.clear-requires-clause-quiet
clear-requires-clause-quiet c = c.is_free.ensures.quiet c.if-is_free.true

pub returns-then-is_free-clause-did : goal.returns-then-is_free-clause-did
returns-then-is_free-clause-did c scopes rest =
    is_cleared (lent scopes c.args.workers.now c.args.registrations.now c.args.clients.now rest) c.args.registration c.args.notices.now c.clear.new.notices
    (lent scopes c.clear.new.workers c.clear.new.registrations c.args.clients.now rest)
    (sym (c.is_free.ensures.free scopes rest) ∙ c.if-is_free.true) (c.clear.ensures.did scopes c.args.clients.now rest)

pub returns-else-is_free-clause-did : goal.returns-else-is_free-clause-did
returns-else-is_free-clause-did c scopes rest =
    not_cleared (lent scopes c.args.workers.now c.args.registrations.now c.args.clients.now rest) c.args.registration c.args.notices.now
    (sym (c.is_free.ensures.free scopes rest) ∙ c.if-is_free.false)
