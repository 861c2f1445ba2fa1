-- An addAll that goes on to its fetches fits where its promise has room; and room that is made twice leaves the rows as they were.
use Rattle.std.proofs.Common.{◌≡◌, ◌∙◌, ℕ, Option, Some, None, IfSome, sym, ap, subst, arith}
use Rattle.sw_cachestorage.specs.Adding.{FitsNew, FitsStart}
use Rattle.sw_cachestorage.specs.declared.adding.NewAddAll.{NewAddAll}
use Rattle.sw_data.specs.declared.events.Who.TheVariants as maker
use Rattle.sw_rules.specs.Rows.{maker_worker}
use Rattle.sw_rules.specs.State.{State}
use Rattle.sw_state.specs.Hosted.{Hosted, SameRows, state_of}
use Rattle.sw_work.specs.Plans as plans
use Rattle.sw_work.specs.Plans.{FitsThen, caller_of}
use Rattle.sw_work.specs.declared.plan.Then.{Then}

pub starts : (lane at : ℕ) (old new : Hosted) (begun_start : Option NewAddAll) (fresh : NewAddAll) (next : Then) → begun_start ≡ Some fresh
    → FitsStart begun_start old → IfSome begun_start (λ started. started.row.maker ≡ maker.Lane lane at)
    → new ≡ record old { promises = new.promises } → caller_of next ≡ None → ((s : State) → FitsThen next s new) → plans.FitsStart fresh next new
starts lane at old new begun_start fresh next is fits made others caller room =
    let fitted : FitsNew fresh old = subst (λ (o : Option NewAddAll). FitsStart o old) is fits in
    let own : fresh.row.maker ≡ maker.Lane lane at = subst (λ (o : Option NewAddAll). IfSome o (λ started. started.row.maker ≡ maker.Lane lane at)) is made in
    record {
      new = subst (λ (h : Hosted). FitsNew fresh h) (sym others) fitted;
      then = room (state_of new);
      maker = ap maker_worker own ∙ sym caller;
    }

pub same_twice : (old mid new : Hosted) → SameRows old mid → SameRows mid new → SameRows old new
same_twice old mid new one other = record {
  scopes = λ key scope. other.scopes key scope ∙ one.scopes key scope;
  jobs = other.jobs ∙ one.jobs;
  workers = other.workers ∙ one.workers;
  events = other.events ∙ one.events;
  registrations = other.registrations ∙ one.registrations;
  clients = other.clients ∙ one.clients;
  known = omega (arith, one.known, other.known);
  caches = other.caches ∙ one.caches;
  preloads = other.preloads ∙ one.preloads;
  promises = other.promises ∙ one.promises;
  tasks = other.tasks ∙ one.tasks;
  draws = other.draws ∙ one.draws;
}
