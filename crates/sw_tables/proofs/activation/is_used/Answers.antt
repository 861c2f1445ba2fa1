use Rattle.std.proofs.Common.{◌∙◌, nat_lt, sym, ap}
use Rattle.sw_tables.proofs.Users.{used_count}
use Rattle.sw_tables.proofs.activation.is_used.Goals as goal

pub returns-clause-used : goal.returns-clause-used
returns-clause-used c scopes of_workers of_registrations rest has noted =
    ap (λ n. nat_lt 0 n) c.users.ensures.count ∙ sym (used_count c.args.registration scopes of_workers of_registrations c.args.clients.now rest has noted)
