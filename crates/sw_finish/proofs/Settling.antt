-- An addAll settles.
use Rattle.std.proofs.Common.{◌≡◌, ◌∙◌, ℕ, List, ◌++◌, Some, sym, ap}
use Rattle.std.proofs.lemmas.List.{append-nil}
use Rattle.sw_cachestorage.specs.Acts.{acted}
use Rattle.sw_cachestorage.specs.Added.{IsAdded}
use Rattle.sw_cachestorage.specs.declared.ended.AddedStep.{AddedStep}
use Rattle.sw_data.specs.declared.answers.Notice.{Notice}
use Rattle.sw_rules.specs.Caching.{settle_task}
use Rattle.sw_rules.specs.Noticing.{NoticeList}
use Rattle.sw_rules.specs.State.{State}
use Rattle.sw_rules.specs.Told.{Outcome}
use Rattle.sw_work.specs.Plans.{Goes}

-- the end of an addAll's fetches goes so
pub added_goes : (old mid new : State) (ended : AddedStep) (task : ℕ) (outcome : Outcome) (list : NoticeList)
    → mid ≡ record old { caches = acted ended.act old.caches } → IsAdded outcome old task ended
    → new ≡ (settle_task mid task ended.value ended.faulted).state → Goes outcome (Some ended.answer) list list new
added_goes old mid new ended task outcome list is added settled = record {
  answer = ap Some (sym added.answer);
  did = record {
    state = settled ∙ (ap (λ (s : State). (settle_task s task ended.value ended.faulted).state) is ∙ sym added.state_is);
    notices = sym (append-nil list.rows) ∙ ap (λ (told : List Notice). list.rows ++ told) (sym added.notices);
  };
}
