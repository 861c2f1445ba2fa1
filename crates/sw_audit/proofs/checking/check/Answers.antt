use Rattle.std.proofs.Common.{◌≡◌, ◌∙◌, ℕ, List, [], ◌∷◌, ◌++◌, refl, sym, ap}
use Rattle.sw_print.specs.Transcript.{line_of_entry}
use Rattle.sw_rules.specs.Restart.{restart}
use Rattle.sw_audit.specs.Accepted.{Says}
use Rattle.sw_audit.specs.Continuing.{Decides}
use Rattle.sw_audit.proofs.Going.{a_restart, opened, opening_of, said, unopened}
use Rattle.sw_audit.proofs.checking.check.Goals as goal

pub returns-in-Some : goal.returns-in-Some
returns-in-Some g c = λ base recording made begun.
    let own = a_restart base in
    let first = c.in-Ok.ensures recording (own.0 ∷ []) (restart base) (begun own.0 own.1) in
    let stands = begun first.0 (opening_of base first.0 first.1) in
    let printed : c.args.transcript.now ≡ line_of_entry first.0 ++ c.in-Some.rest.now =
    c.in-Some.ensures.some ∙ ap (λ (line : List ℕ). line ++ c.in-Some.rest.now) (c.as_bytes.ensures ∙ first.2) in
    said (Decides recording (first.0 ∷ []) (restart base) c.in-Some.rest.now) (Says base recording c.args.transcript.now) c.decide.result
    (λ verdict decides. opened base recording c.args.transcript.now first.0 first.1 c.in-Some.rest.now verdict made printed decides)
    (c.decide.ensures recording (first.0 ∷ []) (restart base) stands refl)

pub returns-in-Ok : goal.returns-in-Ok
returns-in-Ok g c = λ base recording made begun.
    let own = a_restart base in
    let first = c.in-Ok.ensures recording (own.0 ∷ []) (restart base) (begun own.0 own.1) in
    unopened base recording c.args.transcript.now first.0 first.1
    (λ rest is. c.in-None.ensures.none refl rest (is ∙ ap (λ (line : List ℕ). line ++ rest) (sym (c.as_bytes.ensures ∙ first.2))))
