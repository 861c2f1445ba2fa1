use Rattle.std.proofs.Common.{◌≡◌, ◌≤◌, vec_len, vec_capacity}
use Rattle.sw_rules.specs.Matching.{matches_pair}
use Rattle.sw_list.specs.Numbered.{IsThinned}
use Rattle.sw_caches.specs.Bytes.{made_size}
use Rattle.sw_caches.specs.Entries.{number, pair, pair_digest, pairs}
use Rattle.sw_caches.proofs.entries.drop_matching.Given as goal

abbrev pub invariant-loop-place : goal.invariant-loop-place
invariant-loop-place l = record {
  thinned : IsThinned number pair pair_digest (matches_pair l.query l.options) l.initial.entries.items l.initial.slots l.entries.items l.slots;
  bytes : l.bytes ≡ made_size l.names (pairs l.entries.items);
  bound : vec_len l.entries ≤ vec_len l.initial.entries;
  capacity : vec_capacity l.entries ≡ vec_capacity l.initial.entries;
}

abbrev pub decreases-loop-place : goal.decreases-loop-place
decreases-loop-place l = vec_len l.entries
