use Rattle.std.proofs.Common.{◌∙◌, ◌++◌, ◌∷◌, [], Bool, cond, ap}
use Rattle.sw_caches.specs.Tables.{empty_cache}
use Rattle.sw_change.proofs.CacheLemmas.{found_any}
use Rattle.sw_change.proofs.cached.make_cache.Goals as goal

pub returns-clause-ok : goal.returns-clause-ok
returns-clause-ok c =
    let key = c.args.key.now in
    let name = c.args.name.now in
    let rows = c.args.caches.now.rows in
    c.in_ok-make.ensures.rows ∙ ap (λ (there : Bool). cond there rows (rows ++ empty_cache key name ∷ [])) (found_any key name rows)
