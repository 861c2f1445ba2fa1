use Rattle.std.proofs.Common.{◌≡◌, ℕ, slice_get, Some, None, sym, subst, arith}
use Rattle.sw_client.specs.Table.{clients_of}
use Rattle.sw_rules.specs.Clients as rules
use Rattle.sw_rules.specs.Noticing.{Did}
use Rattle.sw_tables.specs.Lent.{lent}
use Rattle.sw_activate.proofs.OneByOne.{not_past, number_at}
use Rattle.sw_activate.proofs.claims.claim_at.Goals as goal

pub returns-in-Some-clause-did : goal.returns-in-Some-clause-did
returns-in-Some-clause-did c = λ rest d.
    let here : slice_get (clients_of c.args.clients.now) c.args.place ≡ Some c.in-Some.row.now = grind (arith, c.at.ensures, c.in-Some.is) in
    subst (λ (n : ℕ). Did (rules.claim_client (lent c.args.map.now c.args.workers.now c.args.registrations.now c.args.clients.now rest) c.args.worker c.args.registration n)
    c.args.notices.now c.claim_client.new.notices (lent c.args.map.now c.claim_client.new.workers c.claim_client.new.registrations c.claim_client.new.clients rest))
    (sym (number_at c.args.place c.args.clients.now c.in-Some.row.now d c.requires.place here))
    (c.claim_client.ensures.did rest)

pub returns-in-None-clause-did : goal.returns-in-None-clause-did
returns-in-None-clause-did c = λ rest d.
    let none : slice_get (clients_of c.args.clients.now) c.args.place ≡ None = grind (arith, c.at.ensures, c.in-None.is) in
    absurd (not_past c.args.place c.args.clients.now c.requires.place none)
