use Rattle.std.proofs.Common.{◌∙◌, ap, sym}
use Rattle.std.proofs.lemmas.Result.{IfErr-at_err, IfOk-at_ok}
use Rattle.sw_pages.specs.Acts.{outcome_of}
use Rattle.sw_pages.specs.Named.{NamesNone, NamesRow}
use Rattle.sw_pages.specs.declared.worked.Worked.{Worked}
use Rattle.sw_rules.specs.Preloading.{preload_set}
use Rattle.sw_state.specs.Hosted.{shown_of, state_of}
use Rattle.sw_pages.proofs.preload.preload_value.Goals as goal

pub returns-in-Err-clause-gives : goal.returns-in-Err-clause-gives
returns-in-Err-clause-gives c who =
    let host = c.args.host.now in
    let none = IfErr-at_err (λ reply. NamesNone c.args.of.now reply host) c.in-Err.is c.in_ok-row.ensures.none in
    none (λ other. preload_set (state_of host) other other.preload c.args.value.now)
    ∙ sym (ap (λ (worked : Worked). outcome_of who worked (state_of host)) c.answered.ensures)

pub returns-clause-gives : goal.returns-clause-gives
returns-clause-gives c who =
    let host = c.args.host.now in
    let row = shown_of host c.in-Ok.row.now in
    let named = IfOk-at_ok (λ row. NamesRow c.args.of.now row.now host) c.in-Ok.is c.in_ok-row.ensures.found in
    named (λ other. preload_set (state_of host) other other.preload c.args.value.now)
    ∙ ap (λ on. preload_set (state_of host) row on c.args.value.now) (sym c.is_on-on.ensures)
    ∙ ap (preload_set (state_of host) row c.is_on-on.result) (sym c.in_ok-value.ensures)
    ∙ c.set.ensures.gives who
