use Rattle.std.proofs.Common.{List, subst}
use Rattle.std.specs.Prelude.{MatchOption}
use Rattle.sw_sizes.specs.Counted.{StandsAt, StandsNowhere}
use Rattle.sw_sizes.specs.Rows.{Row}
use Rattle.sw_sizes.proofs.RowLemmas.{found_or_not}
use Rattle.sw_sizes.proofs.sizes.Sizes.place.Goals as goal

pub returns-clause-stands : goal.returns-clause-stands
returns-clause-stands c =
    let key = c.args.key.now in
    let scope = c.args.scope.now in
    subst (λ (rows : List Row). MatchOption c.place.result (StandsNowhere key scope rows) (StandsAt key scope rows)) c.self.view_is
    (found_or_not key scope c.self.inside.rows.rows c.place.result c.self.invariant.1 c.place.ensures)
