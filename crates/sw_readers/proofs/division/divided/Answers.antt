-- What stands before what is left is the front; what follows the line that divides is the rest.
use Rattle.std.proofs.Common.{◌≡◌, ◌∙◌, ap, sym, subst, refl, Some}
use Rattle.std.specs.Prelude.{bytes_eq, option_copied}
use Rattle.sw_readers.proofs.DivisionLemmas.{Goes, found, goes_on, left_or, starts}
use Rattle.sw_readers.proofs.division.divided.Goals as goal

pub loop-left-init : goal.loop-left-init
loop-left-init c = starts c.args.source.now

pub returns-then-eq : goal.returns-then-eq
returns-then-eq c =
    let goes = subst (λ left. Goes c.args.source.now (option_copied left)) c.in-Some.is c.loop-left.invariant in
    let is = subst (λ mark. bytes_eq c.first_part.result.0.now mark ≡ c.eq.result) c.as_slice.ensures (sym c.eq.ensures) ∙ c.if-eq.true in
    let rest = left_or c.first_part.result.1 _ refl in
    (λ i. Some (c.split_at.ensures.front i, (ap (λ text. text.now) c.unwrap_or.ensures ∙ rest) i))
    ∙ found c.args.source.now c.in-Some.text.now c.first_part.result.0.now (option_copied c.first_part.result.1) goes c.first_part.ensures.parts is

pub loop-left-preserved : goal.loop-left-preserved
loop-left-preserved c =
    let goes = subst (λ left. Goes c.args.source.now (option_copied left)) c.in-Some.is c.loop-left.invariant in
    let is = subst (λ mark. bytes_eq c.first_part.result.0.now mark ≡ c.eq.result) c.as_slice.ensures (sym c.eq.ensures) ∙ c.if-eq.false in
    goes_on c.args.source.now c.in-Some.text.now c.first_part.result.0.now (option_copied c.first_part.result.1) goes c.first_part.ensures.parts is
