-- One part of an algorithm after another.
use Rattle.std.proofs.Common.{◌≡◌, ◌∙◌, List, [], ◌++◌, sym, ap}
use Rattle.std.proofs.lemmas.List.{append_assoc, append-nil}
use Rattle.sw_data.specs.declared.answers.Notice.{Notice}
use Rattle.sw_rules.specs.Noticing.{Did, NoticeList}
use Rattle.sw_rules.specs.State.{State}
use Rattle.sw_rules.specs.Told.{Told, followed}

-- a part that tells nothing
pub did_quietly : (told : Told) (list : NoticeList) (new : State) → told.notices ≡ [] → new ≡ told.state → Did told list list new
did_quietly told list new none is = record {
  state = is;
  notices = sym (append-nil list.rows) ∙ ap (λ (rows : List Notice). list.rows ++ rows) (sym none);
}

-- a part, and then another on the state that it leaves
pub did_then : (told : Told) (next : State → Told) (before mid after : NoticeList) (one two : State)
    → Did told before mid one → Did (next one) mid after two → Did (followed told next) before after two
unfolding followed
did_then told next before mid after one two first second = record {
  state = second.state ∙ ap (λ (s : State). (next s).state) first.state;
  notices =
      second.notices
      ∙ (ap (λ (rows : List Notice). rows ++ (next one).notices) first.notices
      ∙ (append_assoc before.rows told.notices (next one).notices
      ∙ ap (λ (s : State). before.rows ++ (told.notices ++ (next s).notices)) first.state));
}
