use Rattle.std.proofs.Common.{ℕ, Option, option_map, ap}
use Rattle.sw_rules.specs.State.{Worker}
use Rattle.sw_pages.proofs.look.active_of.Goals as goal

abbrev before : ℕ → Option Worker → Option (ℕ × ℕ)
before registration o = option_map (λ worker. (worker, registration)) (option_map (λ row. row.number) o)

pub returns-in-Some-clause-found : goal.returns-in-Some-clause-found
returns-in-Some-clause-found c = ap (before c.args.registration) c.in-Some.ensures.row

pub returns-in-None-clause-found : goal.returns-in-None-clause-found
returns-in-None-clause-found c = ap (before c.args.registration) c.in-None.ensures.row
