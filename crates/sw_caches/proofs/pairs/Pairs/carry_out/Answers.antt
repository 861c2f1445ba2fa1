use Rattle.std.proofs.Common.{arith, rules, ◌≡◌, ◌≤◌, ◌+◌, ◌-◌, ◌++◌, [], true, length, ap, sym, subst, ◌∙◌}
use Rattle.std.specs.Prelude.{vec_len, vec_capacity}
use Rattle.std.specs.Result.{is_ok}
use Rattle.std.proofs.lemmas.List.{length-append, map-append, length-map}
use Rattle.sw_list.specs.Marks.{has}
use Rattle.sw_list.specs.Numbered.{AllBelow, KeepsAbove}
use Rattle.sw_caches.specs.Bytes.{made_size, puts_size}
use Rattle.sw_caches.specs.Entries.{AreIndexed, DropMarks, number, pair, pair_digest, pairs}
use Rattle.sw_caches.specs.Plans.{left_by}
use Rattle.sw_caches.proofs.BatchLemmas.{left_both}
use Rattle.sw_caches.proofs.BytesLemmas.{bytes_joined, bytes_left}
use Rattle.sw_list.proofs.IndexLemmas.{above_more, arrived, below_all, beside, drops_more, joined}
use Rattle.sw_caches.proofs.pairs.Pairs.carry_out.Goals as goal

pub overflow_add-self : goal.overflow_add-self
overflow_add-self c =
    let was = c.self.inside in
    let names = was.names in
    let deletes = c.args.plan.deletes.items in
    let first : pairs c.drop_deleted.new.entries.items ≡ left_by deletes [] (pairs was.entries.items) =
    c.drop_deleted.ensures.pairs ∙ ap (λ list. left_by list [] (pairs was.entries.items)) c.deref.ensures.value in
    let second = c.drop_replaced.ensures.pairs in
    let less = bytes_left names deletes [] (pairs was.entries.items) in
    let fewer = bytes_left names [] (pairs c.deref-2.result.now) (pairs c.drop_deleted.new.entries.items) in
    let left = c.drop_replaced.ensures.bytes in
    let one = ap (made_size names) first in
    let two = ap (made_size names) second in
    let before : made_size names (pairs was.entries.items) ≡ made_size c.args.self.now.names c.args.self.now.pairs = λ i. made_size (c.self.view_is i).names (c.self.view_is i).pairs in
    let room = c.requires.room in
    omega (arith, less, fewer, left, one, two, before, room)

pub invariant_of-self : goal.invariant_of-self
invariant_of-self c =
    let plan = c.args.plan in
    let was = c.self.inside in
    let new = c.drop_replaced.new in
    let spare : vec_capacity was.entries - vec_len was.entries ≡ c.args.self.now.spare = ap (λ v. v.spare) c.self.view_is in
    let count : length was.entries.items ≡ length c.args.self.now.pairs = sym (length-map was.entries.items pair) ∙ ap (λ v. length v.pairs) c.self.view_is in
    let slots = ap (λ v. v.slots) c.self.view_is in
    let first : was.next ≡ plan.first = ap (λ v. v.next) c.self.view_is ∙ sym c.requires.fits.first in
    let old_low : AllBelow number plan.first was.entries.items = subst (λ n. AllBelow number n was.entries.items) first c.self.invariant.1 in
    let above : KeepsAbove number was.entries.items was.slots new.entries.items new.slots =
    above_more number was.entries.items c.drop_deleted.new.entries.items new.entries.items was.slots c.drop_deleted.new.slots new.slots c.drop_deleted.ensures.above c.drop_replaced.ensures.above in
    let low = (above plan.first old_low).0 in
    let drops : DropMarks was.entries.items was.slots new.entries.items new.slots =
    drops_more number pair pair_digest was.entries.items c.drop_deleted.new.entries.items new.entries.items was.slots c.drop_deleted.new.slots new.slots c.drop_deleted.ensures.marks c.drop_replaced.ensures.marks in
    let indexed : AreIndexed plan.added.items was.slots = subst (AreIndexed plan.added.items) (sym slots) c.requires.fits.draft.indexed in
    let added : AreIndexed plan.added.items new.slots = beside number pair pair_digest was.entries.items new.entries.items plan.added.items was.slots new.slots plan.first above old_low c.requires.fits.draft.high indexed in
    let room : vec_len new.entries + vec_len plan.added ≤ vec_capacity new.entries =
    let first_bound = c.drop_deleted.ensures.bound in
    let bound = c.drop_replaced.ensures.bound in
    let capacity = c.drop_replaced.ensures.capacity ∙ c.drop_deleted.ensures.capacity in
    let fits = c.requires.fits.room in
    omega (arith, was.entries.ok, plan.added.ok, fits, first_bound, bound, capacity, spare) in
    let is : is_ok c.append.result ≡ true = search (rules, c.append.ensures.succeeds room) in
    rw (c.append.ensures.items, c.clear.ensures.items, is) (
      joined number pair pair_digest new.entries.items plan.added.items new.slots plan.first low c.requires.fits.draft.high c.drop_replaced.ensures.indexed added,
      below_all number new.entries.items plan.added.items plan.first plan.next c.requires.fits.draft.later low c.requires.fits.draft.low,
      (let start = c.requires.fits.draft.start in let later = c.requires.fits.draft.later in omega (arith, start, later)),
      (let first_bound = c.drop_deleted.ensures.bound in
          let bound = c.drop_replaced.ensures.bound in
          let few = c.requires.fits.few in
          omega (arith, length-append new.entries.items plan.added.items, was.entries.ok, new.entries.ok, first_bound, bound, count, few)),
      arrived number pair pair_digest new.entries.items plan.added.items new.slots plan.first plan.next c.requires.fits.draft.later c.requires.fits.draft.low
          (λ key n h l. (drops key n h).1 (c.self.invariant.4.kept key n (drops key n h).0 (omega (arith, first, l))))
          (λ key n h le. c.requires.fits.draft.tight key n le (subst (λ s. has s key n ≡ true) slots (drops key n h).0)),
      (let names = ap (λ v. v.names) c.self.view_is in
          let left = c.drop_replaced.ensures.bytes in
          let come = c.requires.bytes ∙ ap (λ n. puts_size n (pairs plan.added.items)) (sym names) in
          omega (arith, left, come, bytes_joined was.names new.entries.items plan.added.items)),
    )

pub returns-clause-pairs : goal.returns-clause-pairs
returns-clause-pairs c =
    let plan = c.args.plan in
    let was = c.self.inside in
    let new = c.drop_replaced.new in
    let spare : vec_capacity was.entries - vec_len was.entries ≡ c.args.self.now.spare = ap (λ v. v.spare) c.self.view_is in
    let room : vec_len new.entries + vec_len plan.added ≤ vec_capacity new.entries =
    let first_bound = c.drop_deleted.ensures.bound in
    let bound = c.drop_replaced.ensures.bound in
    let capacity = c.drop_replaced.ensures.capacity ∙ c.drop_deleted.ensures.capacity in
    let fits = c.requires.fits.room in
    omega (arith, was.entries.ok, plan.added.ok, fits, first_bound, bound, capacity, spare) in
    let is : is_ok c.append.result ≡ true = search (rules, c.append.ensures.succeeds room) in
    let first : pairs c.drop_deleted.new.entries.items ≡ left_by plan.deletes.items [] c.args.self.now.pairs =
    c.drop_deleted.ensures.pairs ∙ (λ i. left_by (c.deref.ensures.value i) [] (c.self.view_is i).pairs) in
    let both : pairs new.entries.items ≡ left_by plan.deletes.items (pairs plan.added.items) c.args.self.now.pairs =
    c.drop_replaced.ensures.pairs ∙ ((λ i. left_by [] (pairs (c.deref-2.ensures.value i)) (first i)) ∙ left_both plan.deletes.items (pairs plan.added.items) c.args.self.now.pairs) in
    rw (c.append.ensures.items, is) (map-append pair new.entries.items plan.added.items ∙ ap (λ left. left ++ pairs plan.added.items) both)
