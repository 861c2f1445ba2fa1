-- The events of handlers and of the host, which may happen.
use Rattle.std.proofs.Common.{◌≡◌, ◌∙◌, ℕ, true, false, List, Option, Some, None, option_map, option_and_then, refl, sym, ap, subst}
use Rattle.std.proofs.lemmas.Option.{option_and_then_some}
use Rattle.sw_data.specs.declared.events.Event.{Event}
use Rattle.sw_data.specs.declared.events.Event.TheVariants as event
use Rattle.sw_data.specs.declared.events.Who.{Who}
use Rattle.sw_data.specs.declared.events.Who.TheVariants as who
use Rattle.sw_data.specs.declared.histories.Entry.{Entry}
use Rattle.sw_data.specs.declared.recordings.Call.{Call}
use Rattle.sw_data.specs.declared.recordings.Recording.{Recording}
use Rattle.sw_data.specs.Events.{is_lane, who_of}
use Rattle.sw_lane.specs.Left.{Left}
use Rattle.sw_lane.specs.Recorded.{AreLanesOf}
use Rattle.sw_lane.proofs.Following.{stays}
use Rattle.sw_audit.proofs.OneHistory.{some_same}
use Rattle.sw_rules.specs.Picks.{HasLines, IsNextOfLane, is_host_forget}
use Rattle.sw_rules.specs.Rows.{free_handler, job_row, task_row}
use Rattle.sw_rules.specs.State.{State, AddAll, Handler}
use Rattle.sw_rules.specs.Step.{enabled}
use Rattle.sw_rules.specs.Tasks.{add_all_lines, job_line, next_call}
use Rattle.sw_audit.specs.declared.marks.Kind.{Kind}
use Rattle.sw_audit.specs.declared.marks.Kind.TheVariants as kind
use Rattle.sw_audit.specs.declared.marks.Mark.{Mark}
use Rattle.sw_audit.specs.declared.marks.Mark.TheVariants as mark
use Rattle.sw_audit.specs.Named.{call_event, called_event, host_event, named}
use Rattle.sw_audit.specs.Taken.{IsTaken}

-- own: an event is no lane's: it carries the recorded lines, and isn't a forgetting of the host
record IsOther (recording : Recording) (state : State) (happened : Event) : Type 0 where
  maker : is_lane (who_of happened) ≡ false
  lines : HasLines recording state happened
  unforced : is_host_forget happened ≡ false

is_called : (recording : Recording) (state : State) (worker : ℕ) (handler : Handler) (called : Option Call) (happened : Event)
    → option_map (event.Call (who.Handler worker handler.phase handler.made)) called ≡ Some happened → IsOther recording state happened
unfolding who_of
is_called recording state worker handler None happened is = cc
is_called recording state worker handler (Some call) happened is =
    subst (λ (e : Event). IsOther recording state e) (some_same (event.Call (who.Handler worker handler.phase handler.made) call) happened is)
    (record { maker = refl; lines = tt; unforced = refl })

is_added : (recording : Recording) (state : State) (task : ℕ) (row : Option AddAll) (happened : Event) → task_row state task ≡ row
    → option_map (λ (found : AddAll). event.Added who.Host task (add_all_lines recording found)) row ≡ Some happened → IsOther recording state happened
unfolding who_of
is_added recording state task None happened found is = cc
is_added recording state task (Some row) happened found is =
    subst (λ (e : Event). IsOther recording state e) (some_same (event.Added who.Host task (add_all_lines recording row)) happened is)
    (record { maker = refl; lines = sym (ap (option_map (add_all_lines recording)) found); unforced = refl })

is_hosted : (recording : Recording) (state : State) (what : Kind) (number : ℕ) (happened : Event) → host_event recording state what number ≡ Some happened → IsOther recording state happened
unfolding who_of
is_hosted recording state kind.Run number happened is =
    subst (λ (e : Event). IsOther recording state e) (some_same (event.Run who.Host number) happened is) (record { maker = refl; lines = tt; unforced = refl })
is_hosted recording state kind.Fetched number happened is =
    subst (λ (e : Event). IsOther recording state e) (some_same (event.Fetched who.Host number (option_and_then (job_line recording) (job_row state number))) happened is)
    (record { maker = refl; lines = refl; unforced = refl })
is_hosted recording state kind.Evaluated number happened is =
    subst (λ (e : Event). IsOther recording state e) (some_same (event.Evaluated who.Host number) happened is) (record { maker = refl; lines = tt; unforced = refl })
is_hosted recording state kind.Installed number happened is =
    subst (λ (e : Event). IsOther recording state e) (some_same (event.Installed who.Host number) happened is) (record { maker = refl; lines = tt; unforced = refl })
is_hosted recording state kind.TryActivate number happened is =
    subst (λ (e : Event). IsOther recording state e) (some_same (event.TryActivate who.Host number) happened is) (record { maker = refl; lines = tt; unforced = refl })
is_hosted recording state kind.Activated number happened is =
    subst (λ (e : Event). IsOther recording state e) (some_same (event.Activated who.Host number) happened is) (record { maker = refl; lines = tt; unforced = refl })
is_hosted recording state kind.Added number happened is = is_added recording state number (task_row state number) happened refl is

not_next : (recording : Recording) (before : List Entry) (entry : Entry) (w : Who) → is_lane w ≡ false → IsNextOfLane recording before entry w
not_next recording before entry who.Host other = tt
not_next recording before entry (who.Lane lane at) other = cc
not_next recording before entry (who.Handler worker p number) other = tt

module _ (recording : Recording) (before : List Entry) (state : State) (lanes : List Left) (happened : Event) (ours : AreLanesOf recording before lanes) (may : enabled state happened ≡ true) where
  other_taken : (marked : Mark) → IsOther recording state happened → named recording before state marked ≡ Some happened → IsTaken recording before state marked lanes happened
  other_taken marked other names = record {
    named = names;
    may = may;
    following = λ entry is made. record {
      recorded = record {
        action = not_next recording before entry entry.who (ap is_lane made ∙ other.maker);
        lines = subst (λ (e : Event). HasLines recording state e) (sym is) other.lines;
      };
      unforced = ap is_host_forget is ∙ other.unforced;
    };
    lanes = λ entry made. stays recording before lanes entry ours (ap is_lane made ∙ other.maker);
  }

  -- the call that comes next, where it may happen
  pub call_taken : (worker : ℕ) → called_event state worker ≡ Some happened → IsTaken recording before state (mark.Handler worker) lanes happened
  call_taken worker is =
      other_taken (mark.Handler worker)
      (option_and_then_some (call_event state worker) (free_handler state worker) happened is
      (λ handler found comes. is_called recording state worker handler (next_call state worker handler) happened comes))
      is

  -- an event of the host, where it may happen
  pub host_taken : (what : Kind) (number : ℕ) → host_event recording state what number ≡ Some happened → IsTaken recording before state (mark.Host what number) lanes happened
  host_taken what number is = other_taken (mark.Host what number) (is_hosted recording state what number happened is) is
