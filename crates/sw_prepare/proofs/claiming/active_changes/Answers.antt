use Rattle.std.proofs.Common.{◌≡◌, ◌∙◌, ◌++◌, [], ℕ, List, get_or, take, sym, ap}
use Rattle.std.specs.List.{flat_map}
use Rattle.std.proofs.lemmas.List.{flat_map_more, take_all, take_more}
use Rattle.sw_activate.specs.Claiming.{activation_change}
use Rattle.sw_data.specs.declared.storage.Change.{Change}
use Rattle.sw_tables.specs.Lent.{lent}
use Rattle.sw_prepare.proofs.claiming.active_changes.Goals as goal

pub loop-number-preserved : goal.loop-number-preserved
loop-number-preserved c = λ of_workers of_clients rest has.
    let of_one : ℕ → List Change = activation_change (lent c.args.map.now of_workers c.args.registrations.now of_clients rest) in
    let done = take c.loop-number.number-index c.args.numbers.now in
    let number = get_or c.args.numbers.now c.loop-number.number-index 0 in
    let told : c.in_ok-more.more.items ≡ of_one number = c.in_ok-more.ensures of_workers of_clients rest has in
    c.in_ok-append.ensures.items
    ∙ ((λ i. c.loop-number.invariant of_workers of_clients rest has i ++ told i)
    ∙ (flat_map_more of_one [] done number
    ∙ ap (flat_map of_one) (sym (take_more c.args.numbers.now c.loop-number.number-index 0 c.loop-number-test.true))))

pub returns : goal.returns
returns c = λ of_workers of_clients rest has.
    c.loop-number.invariant of_workers of_clients rest has
    ∙ ap (flat_map (activation_change (lent c.args.map.now of_workers c.args.registrations.now of_clients rest)))
    (take_all c.loop-number.number-index c.args.numbers.now c.loop-number-test.false)
