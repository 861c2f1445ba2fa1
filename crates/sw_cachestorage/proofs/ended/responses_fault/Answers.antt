-- The response at this place is the first bad one, or the rest is left.
use Rattle.std.proofs.Common.{◌∙◌, ◌+◌, Some, drop, sym, ap}
use Rattle.sw_cachestorage.proofs.FetchedLemmas.{fault_here, or_later, request_here}
use Rattle.sw_data.specs.declared.answers.Fault.TheVariants as fault
use Rattle.sw_rules.specs.Caching.{responses_fault}
use Rattle.sw_cachestorage.proofs.ended.responses_fault.Goals as goal

pub returns-in-Some : goal.returns-in-Some
returns-in-Some c =
    let requests = c.args.requests.now in
    let lines = c.args.lines.now in
    let place = c.loop-place.place in
    let here = request_here requests place c.loop-place-test.true in
    let later = responses_fault (place + 1) (drop (place + 1) requests) (drop (place + 1) lines) in
    ap (λ n. Some (fault.TypeError c.in-Some.cause (Some n))) c.in_ok-number_of.ensures
    ∙ sym (c.loop-place.invariant ∙ (fault_here requests lines place here.0 here.1 ∙ ap (λ bad. or_later place bad later) (sym c.fault_at.ensures ∙ c.in-Some.is)))

pub loop-place-preserved : goal.loop-place-preserved
loop-place-preserved c =
    let requests = c.args.requests.now in
    let lines = c.args.lines.now in
    let place = c.loop-place.place in
    let here = request_here requests place c.loop-place-test.true in
    let later = responses_fault (place + 1) (drop (place + 1) requests) (drop (place + 1) lines) in
    c.loop-place.invariant ∙ (fault_here requests lines place here.0 here.1 ∙ ap (λ bad. or_later place bad later) (sym c.fault_at.ensures ∙ c.in_default.is))
