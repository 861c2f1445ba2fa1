use Rattle.std.proofs.Common.{arith, ◌++◌, [], ◌∷◌, ℕ, List, sym, ◌∙◌, ap}
use Rattle.std.proofs.lemmas.List.{drop_all}
use Rattle.sw_journal.specs.Content.{content}
use Rattle.sw_journal.specs.Format.{format_2}
use Rattle.sw_journal.specs.WholePart.{IsWhole, open_records}
use Rattle.sw_journal.proofs.WholeParts.{content-whole_2}
use Rattle.sw_twin.proofs.whole.part_of.Goals as goal

pub returns-clause-whole : goal.returns-clause-whole
returns-clause-whole c =
    let l = c.loop-payload in
    let payloads = c.args.payloads.now in
    record {
      short = c.requires;
      few = omega (arith, c.loop-payload-test.false, l.invariant.number, l.auto.number-fits);
      whole = c.from_vec.ensures ∙ c.in_ok-push.ensures.items
          ∙ ap (λ (rest : List (List ℕ)). l.part.items ++ (open_records format_2 l.number rest ++ 0 ∷ [])) (sym (drop_all l.payload-index payloads c.loop-payload-test.false)) ∙ l.invariant.spelled;
    }

pub returns-clause-content : goal.returns-clause-content
returns-clause-content c =
    let is : IsWhole c.args.payloads.now c.from_vec.result = returns-clause-whole c in
    ap content is.whole ∙ content-whole_2 c.args.payloads.now is.short is.few
