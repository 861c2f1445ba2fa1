-- What a batch comes to on one cache: the queries that take pairs out, and the pairs that it adds.
use Rattle.std.specs.Prelude.{◌≡◌, ℕ, ◌+◌, ◌<◌, ◌≤◌, ◌^◌, Bool, true, not, ◌||◌, List, ◌++◌, filter, fold, length, Result, Err, if◌then◌else◌}
use Rattle.std.specs.List.{list_any}
use Rattle.std.specs.BTreeSet.{BTreeSet}
use Rattle.sw_data.specs.declared.exchange.Request.{Request}
use Rattle.sw_data.specs.declared.exchange.Options.{Options}
use Rattle.sw_data.specs.Exchange.{no_options}
use Rattle.sw_rules.specs.Matching.{Pair, finds_nothing, matches_pair}
use Rattle.sw_data.specs.declared.exchange.Op.{Op}
use Rattle.sw_data.specs.declared.exchange.Op.TheVariants as op
use Rattle.sw_rules.specs.Batch.{TypeError, InvalidState, Quota, without_matching}
use Rattle.sw_rules.specs.Batch as rules
use Rattle.sw_caches.specs.declared.fault.BatchFault.{BatchFault}
use Rattle.sw_caches.specs.declared.fault.BatchFault.TheVariants as fault
use Rattle.sw_caches.specs.declared.plan.PairsPlan.{PairsPlan}
use Rattle.sw_list.specs.Marks.{Slot, has, is_marked}
use Rattle.sw_list.specs.Numbered.{AllBelow, AllFrom}
use Rattle.sw_caches.specs.Entries.{AreIndexed, marks, number, pairs}

-- a pair is taken out by one of the queries, or by a put in whose place it stands
abbrev pub is_removed : List (Request × Options) → List Pair → Pair → Bool
is_removed deletes puts pair =
    list_any (λ query. matches_pair query.0 query.1 pair) deletes
    || list_any (λ put. matches_pair put.0 no_options pair) puts

-- the pairs that are left
abbrev pub left_by : List (Request × Options) → List Pair → List Pair → List Pair
left_by deletes puts old = filter (λ pair. not (is_removed deletes puts pair)) old

-- the pairs after a plan is carried out
abbrev pub carried : PairsPlan → List Pair → List Pair
carried plan old =
    left_by plan.deletes.items (pairs plan.added.items) old ++ pairs plan.added.items

-- a fault is what the definition throws; want of memory may come at any time
abbrev pub IsThrown : BatchFault → Result (List Pair) rules.BatchFault → Type 0
IsThrown (fault.TypeError at why) outcome = outcome ≡ Err (TypeError at why)
IsThrown (fault.InvalidState at) outcome = outcome ≡ Err (InvalidState at)
IsThrown (fault.Quota size) outcome = outcome ≡ Err (Quota size)
IsThrown fault.CacheGone outcome = ⊥
IsThrown fault.NoMemory outcome = Unit {0}

-- a plan that is being made: the index has what it adds, under numbers of its own that rise from its first one on, and nothing else from there on
pub record IsDraft (plan : PairsPlan) (slots : BTreeSet Slot) : Type 0 where
  pub indexed : AreIndexed plan.added.items slots
  pub tight : (key n : ℕ) → plan.first ≤ n → has slots key n ≡ true → is_marked (marks plan.added.items) key n ≡ true
  pub high : AllFrom number plan.first plan.added.items
  pub low : AllBelow number plan.next plan.added.items
  pub start : 0 < plan.first
  pub later : plan.first ≤ plan.next

-- a cache as its plans see it: its pairs, its index, its next number, the room behind its pairs, and the bytes of its key and name
pub record Indexed : Type 0 where
  pub pairs : List Pair
  pub slots : BTreeSet Slot
  pub next : ℕ
  pub spare : ℕ
  pub names : ℕ

-- a plan was made for this cache, and there is room for what it adds
pub record FitsCache (plan : PairsPlan) (cache : Indexed) : Type 0 where
  pub draft : IsDraft plan cache.slots
  pub first : plan.first ≡ cache.next
  pub room : length plan.added.items ≤ cache.spare
  pub few : length cache.pairs + length plan.added.items < 2 ^ 32

-- the pairs that an operation leaves, where it isn't refused
abbrev pub without_op : Op → List Pair → List Pair
without_op (op.Delete request options) old = if finds_nothing request options then old else without_matching request options old
without_op (op.Put request response) old = without_matching request no_options old

-- the pairs that operations leave, one after another
abbrev pub without_ops : List Op → List Pair → List Pair
without_ops ops old = fold (λ left item. without_op item left) old ops
