use Rattle.std.proofs.Common.{◌≡◌, ◌∙◌, true, false, ap, sym, arith}
use Rattle.sw_pages.proofs.Preloading.{set_by}
use Rattle.sw_pages.specs.Acts.{outcome_of}
use Rattle.sw_state.specs.Hosted.{shown_of, state_of}
use Rattle.sw_pages.proofs.preload.set.Goals as goal

pub returns-then-not-is_active-clause-gives : goal.returns-then-not-is_active-clause-gives
returns-then-not-is_active-clause-gives c who =
    let host = c.args.host.now in
    let none : c.is_active.result ≡ false = grind (arith, c.if-not-is_active.true) in
    set_by (state_of host) (shown_of host c.args.row.now) c.args.on c.args.value false (sym c.is_active.ensures ∙ none)
    ∙ ap (λ worked. outcome_of who worked (state_of host)) (sym c.answered.ensures)

pub returns-clause-gives : goal.returns-clause-gives
returns-clause-gives c who =
    let host = c.args.host.now in
    let active : c.is_active.result ≡ true = grind (arith, c.if-not-is_active.false) in
    set_by (state_of host) (shown_of host c.args.row.now) c.args.on c.args.value true (sym c.is_active.ensures ∙ active)
