use Rattle.std.proofs.Common.{◌∙◌, Some, None, sym, ap, subst}
use Rattle.std.specs.Option.{option_copied}
use Rattle.sw_data.specs.declared.events.Event.{Event}
use Rattle.sw_bucket.proofs.Due.{due_past}
use Rattle.sw_bucket.proofs.bucket.BucketBound.due.Goals as goal
use Rattle.sw_bucket.specs.Eviction.{forget_page, next_forget}
use Rattle.sw_bucket.specs.Filling.{Filled, IsFilled}
use Rattle.sw_state.specs.Hosted.{state_of}

pub returns-in_ok-forget_event-in-Some : goal.returns-in_ok-forget_event-in-Some
returns-in_ok-forget_event-in-Some c = record {
  due = λ base history was legal is.
      ap (λ (event : Event). Some event) c.in_ok-forget_event-in-Some.ensures
      ∙ (due_past base history (state_of c.args.core.now) _ (Some c.in-Some.key.now) (subst (IsFilled base history) (sym c.self.view_is) was) is
      (sym (ap option_copied c.in-Some.is) ∙ c.in_ok-key.ensures.found) c.in_ok-key.ensures.sorted c.if-self.false
      ∙ ap (λ (bucket : Filled). next_forget bucket.limit base history (state_of c.args.core.now)) c.self.view_is);
  forget = (forget_page c.in-Some.key.now, c.in_ok-forget_event-in-Some.ensures);
}

pub returns-in-None : goal.returns-in-None
returns-in-None c = record {
  due = λ base history was legal is.
      due_past base history (state_of c.args.core.now) _ None (subst (IsFilled base history) (sym c.self.view_is) was) is
      (sym (ap option_copied c.in-None.is) ∙ c.in_ok-key.ensures.found) c.in_ok-key.ensures.sorted c.if-self.false
      ∙ ap (λ (bucket : Filled). next_forget bucket.limit base history (state_of c.args.core.now)) c.self.view_is;
  forget = tt;
}
