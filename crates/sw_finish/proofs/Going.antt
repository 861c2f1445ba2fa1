-- What agrees with an outcome that came about has come about.
use Rattle.std.proofs.Common.{◌∙◌, List, ◌++◌, Option, Some, sym, ap}
use Rattle.sw_data.specs.declared.answers.Answer.{Answer}
use Rattle.sw_data.specs.declared.answers.Notice.{Notice}
use Rattle.sw_rules.specs.Noticing.{NoticeList}
use Rattle.sw_rules.specs.State.{State}
use Rattle.sw_rules.specs.Told.{Outcome}
use Rattle.sw_work.specs.Plans.{Agree, Goes}

pub agree_goes : (one other : Outcome) (reply : Option Answer) (before after : NoticeList) (new : State) → Agree one other → Goes other reply before after new
    → Goes one reply before after new
agree_goes one other reply before after new agrees goes = record {
  answer = goes.answer ∙ ap Some (sym agrees.answer);
  did = record {
    state = goes.did.state ∙ sym agrees.state;
    notices = goes.did.notices ∙ ap (λ (told : List Notice). before.rows ++ told) (sym agrees.notices);
  };
}
