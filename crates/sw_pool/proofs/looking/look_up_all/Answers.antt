-- One more look-up has its answer, of no fewer entries than those before.
use Rattle.std.proofs.Common.{◌≡◌, ◌+◌, ◌∙◌, ◌++◌, [], ◌∷◌, ℕ, List, take, ap, sym, subst, arith}
use Rattle.std.proofs.lemmas.List.{take_all, take_more}
use Rattle.sw_data.specs.declared.histories.Entry.{Entry}
use Rattle.sw_data.specs.declared.storage.Kept.{Kept}
use Rattle.sw_pool.proofs.LookLemmas.{answers_stay, last_behind, last_of, one_more}
use Rattle.sw_pool.proofs.looking.look_up_all.Goals as goal
use Rattle.sw_pool.specs.declared.looking.Asked.{Asked}
use Rattle.sw_pool.specs.Looks.{AreAnswers, IsAnswer}
use Rattle.sw_view.proofs.Fronts.{prefix_length}
use Rattle.sw_view.specs.Mapped.{matched_after}
use Rattle.sw_view.specs.declared.looker.Look.{Look}

pub loop-place-preserved : goal.loop-place-preserved
loop-place-preserved g c =
    let loop = c.loop-place in
    let was : List Entry = loop.looker.entries in
    let now : List Entry = c.look_up.new.self.entries in
    let base : Kept = c.args.looker.now.base in
    let look : Look = c.in-Ok.look in
    let place : Asked = c.place-item.result in
    let so_far : List Asked = take loop.place-index c.args.asked.now in
    let looks : List Look = loop.looks.items in
    let front = c.in-Ok.ensures.later in
    let longer = prefix_length was now front in
    let same : c.look_up.new.self.base ≡ base = c.in-Ok.ensures.base ∙ loop.invariant.base in
    let all : take look.entries now ≡ now = take_all look.entries now (omega (arith, c.in-Ok.ensures.entries)) in
    let answer : IsAnswer base now (last_of 0 looks) place look = record {
      later = omega (arith, loop.invariant.last, longer, c.in-Ok.ensures.entries);
      within = omega (arith, c.in-Ok.ensures.entries);
      found = c.in-Ok.ensures.matched ∙ ap (λ (b : Kept). matched_after b now place.key c.as_bytes.result.now) same
          ∙ ap (λ (address : List ℕ). matched_after base now place.key address) c.as_bytes.ensures
          ∙ ap (λ (entries : List Entry). matched_after base entries place.key place.address) (sym all);
    } in
    let answers = one_more base now 0 so_far looks place look (answers_stay base was now 0 so_far looks front loop.invariant.answers) answer in
    let grown : so_far ++ place ∷ [] ≡ take (loop.place-index + 1) c.args.asked.now =
    ap (λ (item : Asked). so_far ++ item ∷ []) c.place-item.is ∙ sym (take_more c.args.asked.now loop.place-index place c.loop-place-test.true) in
    let pushed : c.push.new.self.items ≡ looks ++ look ∷ [] = c.in_ok-push-in-Ok.ensures.items in
    record {
      base = same;
      book = c.in-Ok.ensures.book ∙ loop.invariant.book;
      answers =
          subst (λ (made : List Look). AreAnswers base now 0 (take (loop.place-index + 1) c.args.asked.now) made) (sym pushed)
          (subst (λ (places : List Asked). AreAnswers base now 0 places (looks ++ look ∷ [])) grown answers);
      last = omega (arith, ap (last_of 0) pushed, last_behind base 0 looks look, c.in-Ok.ensures.entries);
    }
