use Rattle.std.proofs.Common.{◌≡◌, Some, None, sym, arith}
use Rattle.sw_pages.proofs.Named.{named_by}
use Rattle.sw_rules.specs.Rows.{named_scope}
use Rattle.sw_state.specs.Hosted.{shown_of, state_of}
use Rattle.sw_pages.proofs.slots.named.Goals as goal

pub returns-in-Some-mapped_row-clause-found : goal.returns-in-Some-mapped_row-clause-found
returns-in-Some-mapped_row-clause-found c act =
    let client = c.in-Some.client.now in
    let scoped : named_scope client c.args.of.now.scope ≡ Some c.in-Some-2.scope = grind (arith, c.in_ok-scope.ensures, c.in-Some-2.is) in
    named_by (state_of c.args.host.now) c.args.of.now act client c.in-Some-2.scope (Some (shown_of c.args.host.now c.in-Some-mapped_row.row.now))
    (sym c.in-Some.ensures) scoped (sym c.in-Some-mapped_row.ensures.row)

pub returns-clause-none : goal.returns-clause-none
returns-clause-none c act =
    let client = c.in-Some.client.now in
    let scoped : named_scope client c.args.of.now.scope ≡ Some c.in-Some-2.scope = grind (arith, c.in_ok-scope.ensures, c.in-Some-2.is) in
    named_by (state_of c.args.host.now) c.args.of.now act client c.in-Some-2.scope None (sym c.in-Some.ensures) scoped (sym c.in-None.ensures.row)
