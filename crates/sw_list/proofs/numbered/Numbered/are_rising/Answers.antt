use Rattle.std.proofs.Common.{◌<◌, All, subst}
use Rattle.std.specs.List.{AllPairs}
use Rattle.sw_list.specs.Numbers.{Numbers}
use Rattle.sw_list.proofs.Keeping.{rows_all, rows_rising}
use Rattle.sw_list.proofs.numbered.Numbered.are_rising.Goals as goal

pub returns-clause-rising : goal.returns-clause-rising
returns-clause-rising g c =
    subst (λ (n : Numbers g.row.V.Denot). AllPairs (λ left right. left.0 < right.0) n.rows) c.self.view_is (rows_rising c.self.inside.slots.items c.self.invariant.rising)

pub returns-clause-below : goal.returns-clause-below
returns-clause-below g c =
    subst (λ (n : Numbers g.row.V.Denot). All (λ row. row.0 < n.next) n.rows) c.self.view_is (rows_all (λ number. number < c.self.inside.next) c.self.inside.slots.items c.self.invariant.below)
