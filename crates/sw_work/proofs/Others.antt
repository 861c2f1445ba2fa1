-- What an event that the host makes comes to.
use Rattle.std.proofs.Common.{◌≡◌, ℕ, List, Option, Some, None, refl, sym, subst, if◌then◌else◌}
use Rattle.std.specs.Prelude.{not}
use Rattle.sw_data.specs.declared.events.Event.{Event}
use Rattle.sw_data.specs.declared.events.Event.TheVariants as event
use Rattle.sw_data.specs.declared.events.Who.{Who}
use Rattle.sw_data.specs.declared.events.Who.TheVariants as who
use Rattle.sw_data.specs.declared.recordings.FetchLine.{FetchLine}
use Rattle.sw_data.specs.declared.recordings.Place.{Place}
use Rattle.sw_data.specs.Events.{is_handler, who_of}
use Rattle.sw_rules.specs.State.{State}
use Rattle.sw_rules.specs.Activating.{activated, tryactivate}
use Rattle.sw_rules.specs.Caching.{added, with_key}
use Rattle.sw_rules.specs.Forgetting.{forget}
use Rattle.sw_rules.specs.Installing.{evaluated, fetched, installed}
use Rattle.sw_rules.specs.Registering.{run}
use Rattle.sw_rules.specs.Step.{is_host, step}
use Rattle.sw_rules.specs.Told.{Outcome}

-- the host makes its own events, and may forget
by_host : (w : Who) (o : Option Outcome) → w ≡ who.Host → (if is_host w then o else None) ≡ o
by_host w o is = subst (λ (x : Who). (if is_host x then o else None) ≡ o) (sym is) refl

by_no_handler : (w : Who) (o : Option Outcome) → w ≡ who.Host → (if not (is_handler w) then o else None) ≡ o
by_no_handler w o is = subst (λ (x : Who). (if not (is_handler x) then o else None) ≡ o) (sym is) refl

module _ (state : State) (happened : Event) (w : Who) (number : ℕ) (host : who_of happened ≡ who.Host) where
  pub run_comes : happened ≡ event.Run w number → step state happened ≡ run state number
  unfolding step who_of
  run_comes is = subst (λ (e : Event). who_of e ≡ who.Host → step state e ≡ run state number) (sym is) (λ made. by_host w (run state number) made) host

  pub evaluated_comes : happened ≡ event.Evaluated w number → step state happened ≡ evaluated state number
  unfolding step who_of
  evaluated_comes is = subst (λ (e : Event). who_of e ≡ who.Host → step state e ≡ evaluated state number) (sym is) (λ made. by_host w (evaluated state number) made) host

  pub installed_comes : happened ≡ event.Installed w number → step state happened ≡ installed state number
  unfolding step who_of
  installed_comes is = subst (λ (e : Event). who_of e ≡ who.Host → step state e ≡ installed state number) (sym is) (λ made. by_host w (installed state number) made) host

  pub tries_comes : happened ≡ event.TryActivate w number → step state happened ≡ tryactivate state number
  unfolding step who_of
  tries_comes is = subst (λ (e : Event). who_of e ≡ who.Host → step state e ≡ tryactivate state number) (sym is) (λ made. by_host w (tryactivate state number) made) host

  pub activated_comes : happened ≡ event.Activated w number → step state happened ≡ activated state number
  unfolding step who_of
  activated_comes is = subst (λ (e : Event). who_of e ≡ who.Host → step state e ≡ activated state number) (sym is) (λ made. by_host w (activated state number) made) host

  pub fetched_comes : (line : Option FetchLine) → happened ≡ event.Fetched w number line → step state happened ≡ fetched state number line
  unfolding step who_of
  fetched_comes line is = subst (λ (e : Event). who_of e ≡ who.Host → step state e ≡ fetched state number line) (sym is) (λ made. by_host w (fetched state number line) made) host

  pub added_comes : (lines : List (Option FetchLine)) → happened ≡ event.Added w number lines → step state happened ≡ added state number lines
  unfolding step who_of
  added_comes lines is = subst (λ (e : Event). who_of e ≡ who.Host → step state e ≡ added state number lines) (sym is) (λ made. by_host w (added state number lines) made) host

-- what the host forgets
pub forgets_comes : (state : State) (happened : Event) (w : Who) (place : Place) → who_of happened ≡ who.Host → happened ≡ event.Forget w place
    → step state happened ≡ Some (with_key state place (forget state))
unfolding step who_of
forgets_comes state happened w place host is =
    let comes : Outcome = with_key state place (forget state) in
    subst (λ (e : Event). who_of e ≡ who.Host → step state e ≡ Some comes) (sym is) (λ made. by_no_handler w (Some comes) made) host
