use Rattle.std.proofs.Common.{◌≡◌, Bool, [], subst}
use Rattle.std.specs.Prelude.{MatchOption}
use Rattle.sw_data.specs.declared.storage.KeptCache.{KeptCache}
use Rattle.sw_list.specs.Named.{named_row}
use Rattle.sw_caches.specs.Tables.{IsNextBy, kept_row, passing_from}
use Rattle.sw_caches.proofs.WalkLemmas.{asked_key}
use Rattle.sw_caches.proofs.rows.next_asked.Goals as goal

pub returns-in-None : goal.returns-in-None
returns-in-None c =
    let rows = c.args.rows.now.rows in
    let from = c.args.from in
    rw c.in-None.is (subst (λ (test : KeptCache → Bool). MatchOption c.next_cache.result (passing_from test from rows ≡ []) (λ found. IsNextBy test from rows (kept_row (named_row found.0.now)) found.1)) (asked_key c.args.key.now) c.next_cache.ensures)
