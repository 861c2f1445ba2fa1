use Rattle.std.proofs.Common.{◌≡◌, ◌∙◌, Bool, true, false, ap, refl, sym}
use Rattle.std.specs.Prelude.{bytes_eq, not}
use Rattle.std.specs.List.{list_any}
use Rattle.sw_list.specs.Named.{named_row}
use Rattle.sw_caches.specs.Tables.{kept_row}
use Rattle.sw_caches.proofs.WalkLemmas.{any_next}
use Rattle.sw_caches.proofs.table.Caches.is_empty_key.Goals as goal

not_not : (b : Bool) → b ≡ not (not b)
not_not true = refl
not_not false = refl

pub returns : goal.returns
returns c =
    not_not c.is_none.result
    ∙ ap not (sym c.is_none.ensures
    ∙ (any_next c.args.key.now c.self.inside.rows.rows (λ found. kept_row (named_row found.0.now)) (λ found. found.1) c.next_cache.result c.next_cache.ensures
    ∙ ap (λ table. list_any (λ row. bytes_eq row.key c.args.key.now) table.rows) c.self.view_is))
