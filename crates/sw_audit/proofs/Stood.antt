-- A host goes on with its recording.
use Rattle.std.proofs.Common.{◌≡◌, ◌∙◌, true, List, [], ◌∷◌, ◌++◌, Option, Some, Result, Ok, Err, IfOk, IfSome, refl, sym, ap, subst}
use Rattle.sw_audit.specs.Following.{IsEntered, IsLed, HasFollowed}
use Rattle.sw_audit.specs.Taking.{IsFound}
use Rattle.sw_audit.specs.declared.marks.Mark.{Mark}
use Rattle.sw_audit.specs.Named.{IsNamed}
use Rattle.sw_audit.specs.Taken.{IsTaken}
use Rattle.sw_data.specs.declared.answers.Answer.TheVariants as answer
use Rattle.sw_data.specs.declared.events.Event.{Event}
use Rattle.sw_data.specs.declared.histories.Entry.{Entry}
use Rattle.sw_data.specs.declared.recordings.FetchLine.{FetchLine}
use Rattle.sw_data.specs.declared.recordings.Recording.{Recording}
use Rattle.sw_data.specs.declared.storage.Kept.{Kept}
use Rattle.sw_data.specs.Events.{is_lane, who_of}
use Rattle.sw_lane.specs.Left.{Left}
use Rattle.sw_lane.specs.Recorded.{AreLanesOf}
use Rattle.sw_lane.proofs.Following.{stays}
use Rattle.sw_laws.specs.Coherent.{Coherent}
use Rattle.sw_rules.specs.History.{IsOpening, moved}
use Rattle.sw_rules.specs.Restart.{restart}
use Rattle.sw_rules.specs.State.{State}
use Rattle.sw_rules.specs.Step.{enabled}
use Rattle.sw_state.specs.Hosted.{Hosted, state_of}

-- what an entry that is there has
pub there_on : {E : Type 0} (result : Result (Option Entry) E) (entry : Entry) (P : Entry → Type 0) → result ≡ Ok (Some entry) → P entry
    → IfOk result (λ found. IfSome found P)
there_on {E} result entry P is has = subst (λ (r : Result (Option Entry) E). IfOk r (λ found. IfSome found P)) (sym is) has

pub none_on : {E : Type 0} (result : Result (Option Entry) E) (why : E) (P : Option Entry → Type 0) → result ≡ Err why → IfOk result P
none_on {E} result why P is = subst (λ (r : Result (Option Entry) E). IfOk r P) (sym is) tt

-- ---- what happens

-- an event that was found for a mark, and has happened, is the one that the mark names
module _ (old : Hosted) (lanes left : List Left) (net : List FetchLine) (marked : Mark) (found : Option Event) (happened : Event) (is : found ≡ Some happened)
    (finds : IsFound (state_of old) lanes net marked found left) where
  takes : (recording : Recording) (before : List Entry) → AreLanesOf recording before lanes → recording.fetches ≡ net → IsTaken recording before (state_of old) marked left happened
  takes recording before ours lines =
      subst (λ (o : Option Event). IfSome o (IsTaken recording before (state_of old) marked left)) is (finds.some recording before ours lines)

  pub may_enter : IsLed old lanes net → enabled (state_of old) happened ≡ true
  may_enter led = (takes led.recording led.before led.ours led.lines).may

  -- once it was taken, the host follows some recording after an entry of it
  pub still_led : (new : Hosted) → IsLed old lanes net → Coherent (state_of new) → IsLed new left net
  still_led new led sound = record {
    sound = sound;
    recording = led.recording;
    before = led.before ++ some ∷ [];
    ours = (takes led.recording led.before led.ours led.lines).lanes some refl;
    lines = led.lines;
  }
    where
      some : Entry
      some = record { pass = 0; who = who_of happened; event = happened; answer = answer.Ok; notices = []; stamp = 0 }

  module _ (new : Hosted) (entry : Entry) (enters : IsEntered happened (state_of old) entry (state_of new)) where
    own_maker : entry.who ≡ who_of happened
    own_maker = (enters.step []).maker ∙ ap who_of enters.event

    pub names_it : (recording : Recording) (before : List Entry) (state : State) → HasFollowed (record { core = old; lanes = lanes; net = net }) recording before state
        → IsNamed recording before state marked entry
    names_it recording before state stands =
        let taken = takes recording before stands.ours stands.lines in
        subst (λ (s : State). IsNamed recording before s marked entry) stands.is_in
        (record {
          named = taken.named ∙ ap (λ (e : Event). Some e) (sym enters.event);
          step = enters.step before;
          following = taken.following entry enters.event own_maker;
        })

    pub stands_then : (recording : Recording) (before : List Entry) (state : State) → HasFollowed (record { core = old; lanes = lanes; net = net }) recording before state
        → HasFollowed (record { core = new; lanes = left; net = net }) recording (before ++ entry ∷ []) (moved state entry)
    stands_then recording before state stands = record {
      is_in = enters.left ∙ ap (λ (s : State). moved s entry) stands.is_in;
      ours = (takes recording before stands.ours stands.lines).lanes entry own_maker;
      lines = stands.lines;
    }

-- ---- the restart

pub first_stands : (core : Hosted) (lanes : List Left) (net : List FetchLine) (base : Kept) (recording : Recording) → state_of core ≡ restart base
    → AreLanesOf recording [] lanes → recording.fetches ≡ net → (opening : Entry) → IsOpening base opening
    → HasFollowed (record { core = core; lanes = lanes; net = net }) recording (opening ∷ []) (restart base)
first_stands core lanes net base recording is ours lines opening opens = record {
  is_in = is;
  ours = stays recording [] lanes opening ours (ap is_lane opens.maker);
  lines = lines;
}
