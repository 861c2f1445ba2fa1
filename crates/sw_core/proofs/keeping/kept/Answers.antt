use Rattle.std.proofs.Common.{◌∙◌, List, length, map, ap, sym}
use Rattle.std.specs.List.{filter_map, range_with_len}
use Rattle.sw_data.specs.declared.rows.RegistrationRow.{RegistrationRow}
use Rattle.sw_core.proofs.Durable.{durable_rows}
use Rattle.sw_core.specs.Keeping.{kept_numbered, number_at}
use Rattle.sw_core.proofs.keeping.kept.Goals as goal

pub returns : goal.returns
returns c = λ of_clients rest preload preload_value caches.
    let rows = c.args.registrations.now.rows in
    let kept = kept_numbered c.args.workers.now.rows c.args.preloads.now.rows rows in
    durable_rows c.args.map.now c.args.workers.now c.args.registrations.now of_clients rest c.args.preloads.now.rows c.requires.slots preload preload_value
    c.from_vec.result c.from_vec-2.result
    (c.from_vec.ensures
    ∙ (c.in_ok-rows.ensures
    ∙ (ap (filter_map kept) (c.deref.ensures.value ∙ c.in_ok-numbers.ensures)
    ∙ ap (λ (all : List RegistrationRow). filter_map kept (map (number_at c.args.map.now all) (range_with_len 0 (length all)))) c.rows.ensures)))
    (caches ∙ sym (c.from_vec-2.ensures ∙ c.in_ok-to_kept.ensures))
