use Rattle.std.proofs.Common.{◌∙◌, ◌+◌, ◌++◌, ℕ, List, drop, filter, map, ap}
use Rattle.sw_pages.proofs.Listed.{more}
use Rattle.sw_pages.specs.Listed.{is_listed}
use Rattle.sw_pages.proofs.look.numbers_of.Goals as goal

pub loop-number-preserved : goal.loop-number-preserved
loop-number-preserved c =
    let rows = c.args.registrations.now.rows in
    let test = is_listed c.args.scopes.now c.args.key.now in
    ap (λ (found : List ℕ). found ++ map (λ row. row.number) (filter test (drop (c.loop-number.number + 1) rows))) c.in_ok-add_listed.ensures
    ∙ more (λ row. row.number) test c.loop-number.found.items c.loop-number.number rows c.requires
    ∙ c.loop-number.invariant
