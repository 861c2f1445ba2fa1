-- One more line stands behind those before.
use Rattle.std.proofs.Common.{◌≡◌, ◌∙◌, ◌+◌, ◌≤◌, ◌++◌, ℕ, List, None, length, take, get_or, ap, sym, arith, append_assoc}
use Rattle.std.proofs.lemmas.List.{length-take-le, take_more}
use Rattle.sw_host.proofs.WatchLemmas.{one_more_line}
use Rattle.sw_host.proofs.watching.with_looks.Goals as goal
use Rattle.sw_host.specs.Watching.{look_text, looks_text}
use Rattle.sw_view.specs.declared.looker.Look.{Look}

pub loop-number-preserved : goal.loop-number-preserved
loop-number-preserved c =
    let loop = c.loop-number in
    let n : ℕ = loop.number in
    let looks : List Look = c.args.looks.now in
    let none : Look = record { entries = 0; registration = None } in
    let look : Look = get_or looks n none in
    let so_far : List Look = take n looks in
    let within : n ≤ length looks = omega (arith, c.loop-number-test.true) in
    let count : n ≡ 0 + length so_far = omega (arith, length-take-le n looks within) in
    c.in_ok-push_str.ensures.bytes ∙ (λ i. loop.invariant i ++ (c.as_str.ensures.value ∙ c.in_ok-line.ensures) i)
    ∙ append_assoc c.args.text.now (looks_text 0 so_far) (look_text n look)
    ∙ ap (λ (lines : List ℕ). c.args.text.now ++ lines)
    (ap (λ (k : ℕ). looks_text 0 so_far ++ look_text k look) count ∙ sym (one_more_line 0 so_far look)
    ∙ ap (looks_text 0) (sym (take_more looks n none c.loop-number-test.true)))
