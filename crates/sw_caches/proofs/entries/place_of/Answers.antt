use Rattle.std.proofs.Common.{arith, rules, ltb, ap, ◌∙◌}
use Rattle.std.proofs.lemmas.List.{get_or_default}
use Rattle.std.proofs.lemmas.List.Sorted.{IsPartitionPoint-from_clause}
use Rattle.sw_caches.specs.Entries.{number, pair}
use Rattle.sw_list.proofs.FindLemmas.{absent, parted}
use Rattle.sw_caches.proofs.entries.place_of.Goals as goal
use Rattle.sw_caches.proofs.entries.place_of.Goals.{else-place-entries-via-then-place-entries+else-entries-place, else-place-entries-via-else-place-entries}

pub returns-else-place-entries : goal.returns-else-place-entries
returns-else-place-entries c =
    let point = IsPartitionPoint-from_clause (λ entry. ltb entry.number c.args.number) _ _ c.partition_point-place.ensures.partitioned
    (parted number pair c.args.entries.now c.args.number c.requires) (λ a r q k. search rules) in
    absent number pair c.args.entries.now c.args.number c.partition_point-place.result c.requires point
    (λ d l is. elim c.else-place-entries.branch [
      | else-place-entries-via-then-place-entries+else-entries-place w ↦ w.if-entries-place.false (ap number (get_or_default _ _ _ d l) ∙ is)
      | else-place-entries-via-else-place-entries w ↦ omega arith
    ])
