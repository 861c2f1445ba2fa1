use Rattle.std.proofs.Common.{◌∙◌, ◌++◌, List, ℕ, take, sym, ap, append_assoc}
use Rattle.std.specs.List.{filter_map}
use Rattle.std.specs.Option.{option_to_list}
use Rattle.sw_bucket.proofs.Listed.{one_more}
use Rattle.sw_bucket.proofs.touched.push_changed.Goals as goal
use Rattle.sw_bucket.specs.Touched.{change_key}

pub loop-change-preserved : goal.loop-change-preserved
loop-change-preserved c =
    let l = c.loop-change in
    let front : List (List ℕ) = c.args.keys.now.items in
    let given : List (List ℕ) = filter_map change_key (take l.change-index c.args.changes.now) in
    c.in_ok-push_key.ensures
    ∙ ((λ i. l.invariant i ++ option_to_list (c.change_key.ensures i))
    ∙ (append_assoc front given (option_to_list (change_key c.change-item.result))
    ∙ ap (λ (keys : List (List ℕ)). front ++ keys) (sym (one_more change_key c.args.changes.now l.change-index c.change-item.result c.loop-change-test.true c.change-item.is))))
