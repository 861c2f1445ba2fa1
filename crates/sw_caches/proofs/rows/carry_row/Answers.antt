use Rattle.std.proofs.Common.{◌≡◌, ◌∙◌, ◌+◌, ◌<◌, ap, refl, subst, sym}
use Rattle.std.specs.Prelude.{◌^◌}
use Rattle.sw_caches.specs.Bytes.{made_size, puts_size}
use Rattle.sw_caches.specs.Entries.{pairs}
use Rattle.sw_caches.specs.Plans.{FitsCache, Indexed, carried}
use Rattle.sw_caches.specs.Tables.{index_size}
use Rattle.sw_caches.proofs.CarryLemmas.{room_here}
use Rattle.sw_caches.proofs.TableLemmas.{named_written, row_carried, row_counts, some_is}
use Rattle.sw_caches.proofs.rows.carry_row.Goals as goal

pub carry_out-requires : goal.carry_out-requires
carry_out-requires c =
    let plan = c.args.plan in
    let same : c.value_mut-cache.result.now ≡ c.requires.index = some_is c.value_mut-cache.result.now c.requires.index (sym c.value_mut-cache.ensures.value ∙ c.requires.stands) in
    record {
      fits = subst (FitsCache plan.change) (sym same) c.requires.fits;
      bytes = c.requires.bytes ∙ ap (λ (index : Indexed). puts_size index.names (pairs plan.change.added.items)) (sym same);
      room = subst (λ (index : Indexed). made_size index.names index.pairs + plan.bytes < 2 ^ 64) (sym same) (room_here c.args.rows.now.rows plan c.requires);
    }

pub returns-clause-rows : goal.returns-clause-rows
returns-clause-rows c =
    row_carried c.args.rows.now.rows c.args.plan.place c.value_mut-cache.result.now c.value_mut-cache.ensures.value c.args.plan c.carry_out.new.self refl c.carry_out.ensures.pairs

pub returns-clause-names : goal.returns-clause-names
returns-clause-names c =
    named_written c.args.rows.now.rows c.args.plan.place c.value_mut-cache.result.now c.value_mut-cache.ensures.value c.carry_out.new.self c.carry_out.ensures.names

pub returns-clause-bytes : goal.returns-clause-bytes
returns-clause-bytes c row stands =
    let change = c.args.plan.change in
    let counts = row_counts c.args.rows.now.rows c.args.plan.place c.value_mut-cache.result.now c.value_mut-cache.ensures.value in (
      c.bytes-before.ensures ∙ counts index_size row stands,
      c.bytes.ensures
          ∙ ((λ i. made_size (c.carry_out.ensures.names i) (c.carry_out.ensures.pairs i))
          ∙ counts (λ index. made_size index.names (carried change index.pairs)) row stands),
    )
