use Rattle.std.proofs.Common.{ℕ, ◌≡◌, ◌∙◌, min, sym, ap, arith}
use Rattle.sw_rules.specs.Rows.{changed}
use Rattle.sw_client.specs.Table.{Table, controlled_by, users_of, uses}
use Rattle.sw_client.proofs.TakeOver.{handed_counted, handed_rows, none_handed}
use Rattle.sw_client.proofs.Tallying.{handed_tallied}
use Rattle.sw_client.proofs.Clients.take_over.Goals as goal

pub returns-then-users-eq0-clause-rows : goal.returns-then-users-eq0-clause-rows
returns-then-users-eq0-clause-rows c =
    let none : users_of c.args.registration c.args.self.now.rows ≡ 0 = omega (arith, c.users.ensures.count, c.if-users-eq0.true) in
    let same = none_handed c.args.registration c.args.worker c.args.self.now.rows none in
    λ i. record { rows = sym same i; known = c.args.self.now.known; spare = c.args.self.now.spare }

pub invariant_of-self : goal.invariant_of-self
invariant_of-self c = record {
  counted = handed_counted c.args.registration c.args.worker c.self.inside.rows.entries c.hand_over.new.rows.entries c.self.inside.counts.items c.self.invariant.counted c.hand_over.ensures.entries;
  tallied = handed_tallied c.args.registration c.args.worker c.self.inside.rows.entries c.hand_over.new.rows.entries c.self.inside.keys c.self.invariant.tallied c.hand_over.ensures.entries;
}

pub returns-clause-rows : goal.returns-clause-rows
returns-clause-rows c =
    let rows = handed_rows c.args.registration c.args.worker c.self.inside.rows.entries c.hand_over.new.rows.entries c.hand_over.ensures.entries
    ∙ ap (λ (table : Table). changed (uses c.args.registration) (controlled_by (c.args.worker, c.args.registration)) table.rows) c.self.view_is in
    let known = ap (λ (table : Table). table.known) c.self.view_is in
    let spare = ap (λ (room : ℕ). min room c.self.inside.keys.spare) c.hand_over.ensures.room ∙ ap (λ (table : Table). table.spare) c.self.view_is in
    λ i. record { rows = rows i; known = known i; spare = spare i }
