-- What a mark tells of its event.
use Rattle.std.proofs.Common.{◌≡◌, ◌⊎◌, ℕ, ◌<◌, ◌^◌, true, false, List, [], ◌∷◌, ◌++◌, refl, arith, decimal, codes, inl, inr}
use Rattle.std.proofs.lemmas.Fmt.{decimal_injective}
use Rattle.sw_data.specs.declared.events.Event.{Event}
use Rattle.sw_data.specs.declared.events.Event.TheVariants as event
use Rattle.sw_data.specs.declared.events.Who.{Who}
use Rattle.sw_data.specs.declared.events.Who.TheVariants as who
use Rattle.sw_data.specs.declared.recordings.Call.{Call}
use Rattle.sw_data.specs.declared.recordings.Call.TheVariants as call
use Rattle.sw_data.specs.declared.workers.Phase.{Phase}
use Rattle.sw_data.specs.declared.workers.Phase.TheVariants as phase
use Rattle.sw_data.specs.Events.{who_of}
use Rattle.sw_print.specs.Transcript.{call_word, event_text, mark, phase_word, who_text}
use Rattle.sw_rules.specs.Picks.{is_host_forget}
use Rattle.sw_audit.proofs.Cuts.{cut, free, free-append, free-decimal}

-- ---- makers

same_phase_word : (p q : Phase) → phase_word p ≡ phase_word q → p ≡ q
same_phase_word phase.Install phase.Install is = refl
same_phase_word phase.Install phase.Activate is = cc
same_phase_word phase.Activate phase.Install is = cc
same_phase_word phase.Activate phase.Activate is = refl

free_phase : (p : Phase) → (free 46 (phase_word p) ≡ true) × (free 32 (phase_word p) ≡ true) × (free 62 (phase_word p) ≡ true)
free_phase phase.Install = (refl, refl, refl)
free_phase phase.Activate = (refl, refl, refl)

-- the numbers of a maker of which its text tells are below 2^64: its lane, or its worker
abbrev pub WhoFits : Who → Type 0
WhoFits who.Host = Unit {0}
WhoFits (who.Lane lane at) = lane < 2 ^ 64
WhoFits (who.Handler worker phase number) = worker < 2 ^ 64

-- two makers are the host, one lane, or the handler of one phase of one worker
abbrev pub AreAlike : Who → Who → Type 0
AreAlike who.Host who.Host = Unit {0}
AreAlike (who.Lane lane at) (who.Lane other next) = lane ≡ other
AreAlike (who.Handler worker phase number) (who.Handler other same next) = (worker ≡ other) × (phase ≡ same)
AreAlike _ _ = ⊥

behind : (x : ℕ) (a b : List ℕ) → x ∷ a ≡ x ∷ b → a ≡ b
behind x a b is = cc

other_head : {P : Type 0} (x y : ℕ) (a b : List ℕ) → (x ≡ y → ⊥) → x ∷ a ≡ y ∷ b → P
other_head x y a b apart is = let e : x ≡ y = cc in absurd (apart e)

-- two makers have one text only where they are alike
alike_who : (one other : Who) → WhoFits one → WhoFits other → who_text one ≡ who_text other → AreAlike one other
alike_who who.Host who.Host f g is = tt
alike_who who.Host (who.Lane lane at) f g is =
    other_head 45 76 [] (decimal lane ++ 46 ∷ decimal at) (λ e. omega (arith, e)) is
alike_who who.Host (who.Handler worker p number) f g is =
    other_head 45 119 [] (decimal worker ++ 46 ∷ (phase_word p ++ 46 ∷ decimal number)) (λ e. omega (arith, e)) is
alike_who (who.Lane lane at) who.Host f g is =
    other_head 76 45 (decimal lane ++ 46 ∷ decimal at) [] (λ e. omega (arith, e)) is
alike_who (who.Lane lane at) (who.Handler worker p number) f g is =
    other_head 76 119 (decimal lane ++ 46 ∷ decimal at) (decimal worker ++ 46 ∷ (phase_word p ++ 46 ∷ decimal number)) (λ e. omega (arith, e)) is
alike_who (who.Handler worker p number) who.Host f g is =
    other_head 119 45 (decimal worker ++ 46 ∷ (phase_word p ++ 46 ∷ decimal number)) [] (λ e. omega (arith, e)) is
alike_who (who.Handler worker p number) (who.Lane lane at) f g is =
    other_head 119 76 (decimal worker ++ 46 ∷ (phase_word p ++ 46 ∷ decimal number)) (decimal lane ++ 46 ∷ decimal at) (λ e. omega (arith, e)) is
alike_who (who.Lane lane at) (who.Lane lane' at') f g is =
    let tails = behind 76 (decimal lane ++ 46 ∷ decimal at) (decimal lane' ++ 46 ∷ decimal at') is in
    let both = cut 46 (decimal lane) (decimal lane') (decimal at) (decimal at') (free-decimal 46 lane (inl (omega arith))) (free-decimal 46 lane' (inl (omega arith))) tails in
    decimal_injective lane lane' f g both.0
alike_who (who.Handler worker p number) (who.Handler worker' p' number') f g is =
    let tails = behind 119 (decimal worker ++ 46 ∷ (phase_word p ++ 46 ∷ decimal number)) (decimal worker' ++ 46 ∷ (phase_word p' ++ 46 ∷ decimal number')) is in
    let both = cut 46 (decimal worker) (decimal worker') (phase_word p ++ 46 ∷ decimal number) (phase_word p' ++ 46 ∷ decimal number') (free-decimal 46 worker (inl (omega arith))) (free-decimal 46 worker' (inl (omega arith))) tails in
    let rest = cut 46 (phase_word p) (phase_word p') (decimal number) (decimal number') (free_phase p).0 (free_phase p').0 both.1 in
    (decimal_injective worker worker' f g both.0, same_phase_word p p' rest.0)

-- a byte that stands in no maker's text
pub record NotInMakers (x : ℕ) : Type 0 where
  pub digits : (x < 48) ⊎ (57 < x)
  pub host : free x (codes "-") ≡ true
  pub lane : free x (codes "L") ≡ true
  pub worker : free x (codes "w") ≡ true
  pub point : free x (codes ".") ≡ true
  pub phases : (p : Phase) → free x (phase_word p) ≡ true

phases_without_space : (p : Phase) → free 32 (phase_word p) ≡ true
phases_without_space p = (free_phase p).1

phases_without_arrow : (p : Phase) → free 62 (phase_word p) ≡ true
phases_without_arrow p = (free_phase p).2

pub space : NotInMakers 32
space = record { digits = inl (omega arith); host = refl; lane = refl; worker = refl; point = refl; phases = phases_without_space }

pub arrow : NotInMakers 62
arrow = record { digits = inr (omega arith); host = refl; lane = refl; worker = refl; point = refl; phases = phases_without_arrow }

pub free_who : (x : ℕ) → NotInMakers x → (w : Who) → free x (who_text w) ≡ true
free_who x not_in who.Host = not_in.host
free_who x not_in (who.Lane lane at) =
    free-append x (codes "L" ++ decimal lane) (codes "." ++ decimal at)
    (free-append x (codes "L") (decimal lane) not_in.lane (free-decimal x lane not_in.digits))
    (free-append x (codes ".") (decimal at) not_in.point (free-decimal x at not_in.digits))
free_who x not_in (who.Handler worker p number) =
    free-append x (codes "w" ++ decimal worker) (codes "." ++ (phase_word p ++ (codes "." ++ decimal number)))
    (free-append x (codes "w") (decimal worker) not_in.worker (free-decimal x worker not_in.digits))
    (free-append x (codes ".") (phase_word p ++ (codes "." ++ decimal number)) not_in.point
    (free-append x (phase_word p) (codes "." ++ decimal number) (not_in.phases p)
    (free-append x (codes ".") (decimal number) not_in.point (free-decimal x number not_in.digits))))

-- ---- names of events

free_call : (called : Call) → free 62 (call_word called) ≡ true
free_call call.SkipWaiting = refl
free_call call.Claim = refl
free_call call.Update = refl
free_call (call.CacheOpen name) = refl
free_call (call.CacheDelete name) = refl
free_call (call.Put put) = refl
free_call (call.Delete asked) = refl
free_call (call.Batch asked) = refl
free_call (call.AddAll asked) = refl

free_numbered : (word : List ℕ) (n : ℕ) → free 62 word ≡ true → free 62 (word ++ decimal n) ≡ true
free_numbered word n is = free-append 62 word (decimal n) is (free-decimal 62 n (inr (omega arith)))

-- the name of an event has no `>`, where the host forgets nothing
pub free_event : (happened : Event) → is_host_forget happened ≡ false → free 62 (event_text happened) ≡ true
free_event (event.Call who called) unforced = free_call called
free_event (event.Run who job) unforced = free_numbered (codes "run j") job refl
free_event (event.Fetched who job line) unforced = free_numbered (codes "fetched j") job refl
free_event (event.Evaluated who job) unforced = free_numbered (codes "evaluated j") job refl
free_event (event.Installed who job) unforced = free_numbered (codes "installed j") job refl
free_event (event.TryActivate who registration) unforced = free_numbered (codes "tryactivate r") registration refl
free_event (event.Activated who worker) unforced = free_numbered (codes "activated w") worker refl
free_event (event.Added who task lines) unforced = free_numbered (codes "added a") task refl
free_event (event.Forget who.Host place) unforced = cc
free_event (event.Forget (who.Lane lane at) place) unforced = refl
free_event (event.Forget (who.Handler worker p number) place) unforced = refl
free_event _ unforced = refl

-- a mark has no `>`
pub free_mark : (happened : Event) → is_host_forget happened ≡ false → free 62 (mark happened) ≡ true
free_mark happened unforced =
    free-append 62 (who_text (who_of happened)) (32 ∷ event_text happened) (free_who 62 arrow (who_of happened)) (free_event happened unforced)

-- two events of one mark have makers that are alike, and one name
pub same_mark : (one other : Event) → WhoFits (who_of one) → WhoFits (who_of other) → mark one ≡ mark other
    → AreAlike (who_of one) (who_of other) × (event_text one ≡ event_text other)
same_mark one other f g is =
    let both = cut 32 (who_text (who_of one)) (who_text (who_of other)) (event_text one) (event_text other) (free_who 32 space (who_of one)) (free_who 32 space (who_of other)) is in
    (alike_who (who_of one) (who_of other) f g both.0, both.1)
