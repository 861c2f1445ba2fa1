use Rattle.std.proofs.Common.{List, ℕ, ◌≡◌, ◌∙◌, ◌<◌, true, Some, length, refl, sym, ap, subst, arith}
use Rattle.std.specs.Prelude.{is_none}
use Rattle.std.specs.List.{All}
use Rattle.std.proofs.lemmas.List.{with_items_is}
use Rattle.sw_data.specs.declared.rows.JobRow.{JobRow}
use Rattle.sw_list.specs.Tally.{Tallies}
use Rattle.sw_rules.specs.Jobs.{gets_value}
use Rattle.sw_rules.specs.Rows.{is_first}
use Rattle.sw_queue.specs.Kept.{followers_of}
use Rattle.sw_queue.specs.Ready.{AreMarked, is_unfinished_of}
use Rattle.sw_queue.specs.Tables.{Table, has_job}
use Rattle.sw_queue.proofs.Heads.{followers_stay, head_settled}
use Rattle.sw_queue.proofs.Marking.{marked_changed}
use Rattle.sw_queue.proofs.Running.{passing_below, table_set}
use Rattle.sw_queue.proofs.Settling.{followers_below, kept_settled, settled_whole}
use Rattle.sw_queue.proofs.Tallying.{tallied_changed}
use Rattle.sw_queue.proofs.queues.Queues.settle.Goals as goal

pub settle_rows-requires-clause-job : goal.settle_rows-requires-clause-job
settle_rows-requires-clause-job c =
    let below = passing_below _ c.self.invariant.kept.numbers _ c.args.job
    (subst (λ (t : Table). has_job (λ row. is_none row.leader) c.args.job t.rows ≡ true) (sym c.self.view_is) c.requires) in
    subst (λ (rows : List JobRow). c.args.job < length rows) (sym c.as_mut_slice.ensures.value) below

pub settle_rows-requires-clause-followers : goal.settle_rows-requires-clause-followers
settle_rows-requires-clause-followers c =
    let rows = c.self.inside.rows.items in
    let own = c.at-followers.ensures ∙ c.self.invariant.kept.followers c.args.job in
    subst (λ (all : List JobRow). All (λ follower. follower < length all) c.at-followers.result.now) (sym c.as_mut_slice.ensures.value)
    (subst (λ (followers : List ℕ). All (λ follower. follower < length rows) followers) (sym own)
    (followers_below rows c.self.invariant.kept.numbers c.args.job))

pub invariant_of-self : goal.invariant_of-self
invariant_of-self c =
    let rows = c.self.inside.rows.items in
    let is = settled_whole c.args.value rows _ _ c.args.job _ c.self.invariant.kept.numbers c.as_mut_slice.ensures.value
    (c.at-followers.ensures ∙ c.self.invariant.kept.followers c.args.job) c.settle_rows.ensures in
    let many : length c.settle_rows.new.rows ≡ c.self.inside.rows.len = omega (arith, is.1, c.self.inside.rows.ok) in
    let those = with_items_is c.self.inside.rows c.settle_rows.new.rows many ∙ is.0 in
    record {
      kept = kept_settled c.args.value rows _ _ _ c.args.job c.self.invariant.kept those;
      marked = subst (λ (rs : List JobRow). AreMarked rs c.self.inside.index c.self.inside.ready) (sym those)
          (marked_changed rows c.self.inside.index c.self.inside.ready (gets_value c.args.job) (λ row. record row { settled = Some c.args.value })
          c.self.invariant.marked (λ row. refl) (λ row. refl) (λ row. refl));
      tallied = subst (λ (rs : List JobRow). Tallies is_unfinished_of rs c.self.inside.keys) (sym those)
          (tallied_changed rows c.self.inside.keys (gets_value c.args.job) (λ row. record row { settled = Some c.args.value })
          c.self.invariant.tallied (λ row. refl) (λ row. refl) (λ row. refl));
    }

pub returns-clause-settled : goal.returns-clause-settled
returns-clause-settled c =
    let rows = c.self.inside.rows.items in
    let is = settled_whole c.args.value rows _ _ c.args.job _ c.self.invariant.kept.numbers c.as_mut_slice.ensures.value
    (c.at-followers.ensures ∙ c.self.invariant.kept.followers c.args.job) c.settle_rows.ensures in
    let many : length c.settle_rows.new.rows ≡ c.self.inside.rows.len = omega (arith, is.1, c.self.inside.rows.ok) in
    table_set _ _ (gets_value c.args.job) (λ row. record row { settled = Some c.args.value }) _ c.self.view_is
    (with_items_is c.self.inside.rows c.settle_rows.new.rows many ∙ is.0)

pub returns-clause-heads : goal.returns-clause-heads
returns-clause-heads c first =
    let rows = c.self.inside.rows.items in
    let is = settled_whole c.args.value rows _ _ c.args.job _ c.self.invariant.kept.numbers c.as_mut_slice.ensures.value
    (c.at-followers.ensures ∙ c.self.invariant.kept.followers c.args.job) c.settle_rows.ensures in
    let many : length c.settle_rows.new.rows ≡ c.self.inside.rows.len = omega (arith, is.1, c.self.inside.rows.ok) in
    head_settled rows _ _ _ c.args.job c.args.value c.self.invariant.kept (invariant_of-self c).kept (with_items_is c.self.inside.rows c.settle_rows.new.rows many ∙ is.0)
    (subst (λ (t : Table). has_job (is_first t.rows) c.args.job t.rows ≡ true) (sym c.self.view_is) first)

pub returns-clause-followers : goal.returns-clause-followers
returns-clause-followers c other =
    followers_stay _ _ _ _ _ c.self.invariant.kept (invariant_of-self c).kept other
    ∙ ap (λ (t : Table). followers_of other t.rows) c.self.view_is
