-- The steps of the publisher and of the readers keep the rule.
use Rattle.std.proofs.Common.{◌≡◌, ℕ, List, [], ◌∷◌, ◌++◌, set, fold, refl, sym, ap, ◌∙◌, subst, ⊎_elim, Option, Some, None, option_map, IfSome, Result, Ok, Err, OnOk, MatchResult}
use Rattle.std.proofs.lemmas.List.Sums.{fold-append}
use mathlib.Core.Option.{some}
use lib.ListN.{get_elem?}
use Rattle.crossbeam_utils.specs.Register.{Admits, Turns, TurnsAt, Forks, Merges}
use Rattle.atomic_table.proofs.Lists.{at_set, at_snoc}
use Rattle.logbook.specs.Pages.{Book}
use Rattle.sw_data.specs.declared.histories.Entry.{Entry}
use Rattle.sw_data.specs.declared.storage.Kept.{Kept}
use Rattle.sw_scope.specs.Scopes.{longest_front}
use Rattle.sw_view.specs.declared.front.Front.{Front}
use Rattle.sw_view.specs.declared.knowing.Known.{Known}
use Rattle.sw_view.specs.declared.knowing.Origin.{Origin}
use Rattle.sw_view.specs.declared.moves.Move.{Move}
use Rattle.sw_view.specs.declared.shown.Past.{Past}
use Rattle.sw_view.specs.declared.shown.Shown.{Shown}
use Rattle.sw_view.specs.declared.shown.Step.{Step}
use Rattle.sw_view.specs.Found.{Found}
use Rattle.sw_view.specs.Keeping.{IsOf, HoldsRule, Knows, HasPublished, HasRead, LeadsToMap, newcomer, origin_of}
use Rattle.sw_view.specs.Mapped.{mapped_after}
use Rattle.sw_view.specs.Moves.{AreMoves, after_move, after_moves, nothing, values_of}
use Rattle.sw_view.specs.Pasts.{past_after, past_of}
use Rattle.sw_view.specs.Showing.{Leads}
use Rattle.sw_view.proofs.Lookups.{same_longest}
use Rattle.sw_view.proofs.AllMoves.{same_moves}

knows_none : (x : Shown) → Knows x newcomer
knows_none x origin is = absurd (cc (is))

knows_own : (x : Shown) → Knows x (record { origin = Some (origin_of x) })
knows_own x origin is =
    let e : origin ≡ origin_of x = cc (is) in
    record { base = ap (λ (o : Origin). o.base) e; book = ap (λ (o : Origin). o.seen.book) e }

each_set : (x : Shown) (views : List Known) (seat : ℕ) (w : Known)
    → ((id : ℕ) (v : Known) → get_elem? views id ≡ some v → Knows x v) → Knows x w
    → (id : ℕ) (v : Known) → get_elem? (set views seat w) id ≡ some v → Knows x v
each_set x views seat w each here id v got =
    ⊎_elim (λ mine. subst (λ (u : Known). Knows x u) mine.1 here) (λ other. each id v other.1) (at_set views seat id w v got)

pub begins : (x : Shown) → LeadsToMap x → HoldsRule x (newcomer ∷ [])
begins x tells = record { tells = tells; each = λ id v got. ⊎_elim (λ none. absurd (cc (none))) (λ same. subst (λ (u : Known). Knows x u) same (knows_none x)) (at_snoc [] newcomer v id got) }

pub admits : Admits HoldsRule newcomer
admits x views kept = record {
  tells = kept.tells;
  each = λ id v got. ⊎_elim (kept.each id v) (λ same. subst (λ (u : Known). Knows x u) same (knows_none x)) (at_snoc views newcomer v id got);
}

pub reads : (seat : ℕ) (v : Known) → Turns HoldsRule seat v (λ x. x) HasRead
reads seat v x views kept at = (
  v,
  record { tells = kept.tells; each = each_set x views seat v kept.each (kept.each seat v at) },
  (refl, kept.tells, kept.each seat v at),
)

pub forks : (seat : ℕ) (v : Known) → Forks HoldsRule seat v v v
forks seat v x views kept at = record {
  tells = kept.tells;
  each = λ id u got. ⊎_elim (each_set x views seat v kept.each (kept.each seat v at) id u) (λ same. subst (λ (z : Known). Knows x z) same (kept.each seat v at))
      (at_snoc (set views seat v) v u id got);
}

pub merges : (seat : ℕ) (v : Known) (other : ℕ) (w : Known) → Merges HoldsRule seat v other w w newcomer
merges seat v other w x views kept at apart there =
    let known : Knows x w = ⊎_elim (λ mine. absurd (apart mine.0)) (λ far. kept.each other w far.1) (at_set views seat other w w there) in
    record {
      tells = kept.tells;
      each = each_set x (set views seat w) other newcomer (each_set x views seat w kept.each known) (knows_none x);
    }

-- publishing, whatever the moves are that lead from the map of the one to that of the other
turned : (seat : ℕ) (v : Known) (x y : Shown) → y.base.value ≡ x.base.value → y.after.seen.book ≡ x.after.seen.book → (LeadsToMap x → LeadsToMap y)
    → TurnsAt HoldsRule seat v x y HasPublished
turned seat v x y base book tells views kept at =
    let still : (u : Known) → Knows x u → Knows y u = λ u knows origin is. record {
      base = (knows origin is).base ∙ sym base;
      book = (knows origin is).book ∙ sym book;
    } in
    let w : Known = record { origin = Some (origin_of y) } in
    (w, record { tells = tells kept.tells; each = each_set y views seat w (λ id u got. still u (kept.each id u got)) (knows_own y) }, refl)

pub publishes : (seat : ℕ) (v : Known) (x y : Shown) (step : Step) → past_of y ≡ past_after (past_of x) step
    → step.after.seen.book ≡ x.after.seen.book
    → AreMoves (mapped_after x.base.value x.after.seen.log) step.moves.items (mapped_after x.base.value step.after.seen.log)
    → TurnsAt HoldsRule seat v x y HasPublished
publishes seat v x y step past book leads =
    let base : y.base.value ≡ x.base.value = ap (λ (p : Past). p.base) past in
    let seen : y.after.seen ≡ step.after.seen = ap (λ (p : Past). p.seen) past in
    let moves : values_of y.moves.items ≡ values_of x.moves.items ++ step.moves.items = ap (λ (p : Past). p.moves) past in
    turned seat v x y base (ap (λ s. s.book) seen ∙ book) (λ tells key scope.
    ap (λ (ms : List Move). after_moves nothing ms key scope) moves
    ∙ (ap (λ (found : Found). found key scope) (fold-append after_move nothing (values_of x.moves.items) step.moves.items)
    ∙ (same_moves (after_moves nothing (values_of x.moves.items)) (mapped_after x.base.value x.after.seen.log) step.moves.items tells key scope
    ∙ (leads key scope ∙ (λ i. mapped_after (sym base i) (sym seen i).log key scope)))))

pub shows_again : (seat : ℕ) (v : Known) (x y : Shown) → past_of y ≡ past_of x → TurnsAt HoldsRule seat v x y HasPublished
shows_again seat v x y past =
    let base : y.base.value ≡ x.base.value = ap (λ (p : Past). p.base) past in
    let seen : y.after.seen ≡ x.after.seen = ap (λ (p : Past). p.seen) past in
    let moves : values_of y.moves.items ≡ values_of x.moves.items = ap (λ (p : Past). p.moves) past in
    turned seat v x y base (ap (λ s. s.book) seen) (λ tells key scope.
    ap (λ (ms : List Move). after_moves nothing ms key scope) moves ∙ (tells key scope ∙ (λ i. mapped_after (sym base i) (sym seen i).log key scope)))

-- what is shown to a reader that knows its view
pub tied_is : (known : Option Origin) (base : Kept) (book : Book) (x : Shown)
    → option_map (λ (origin : Origin). origin.base) known ≡ Some base
    → option_map (λ (origin : Origin). origin.seen.book) known ≡ Some book
    → ((origin : Origin) → known ≡ Some origin → IsOf origin x)
    → (x.base.value ≡ base) × (x.after.seen.book ≡ book)
tied_is None base book x one two knows = absurd (cc (one))
tied_is (Some origin) base book x one two knows =
    let is = knows origin refl in
    let b : origin.base ≡ base = cc (one) in
    let l : origin.seen.book ≡ book = cc (two) in
    (sym is.base ∙ b, sym is.book ∙ l)

-- what a reader found in what is shown
pub found_is : (o : Option (Front × Option ℕ)) (x : Shown) (base : Kept) (key address : List ℕ)
    → IfSome o (λ read. read.0 ≡ x.after)
    → IfSome o (λ read. read.1 ≡ longest_front (after_moves nothing (values_of x.moves.items) key) address)
    → LeadsToMap x → x.base.value ≡ base
    → IfSome o (λ read. read.1 ≡ longest_front (mapped_after base read.0.seen.log key) address)
found_is None x base key address front found tells same = tt
found_is (Some read) x base key address front found tells same =
    found
    ∙ (same_longest (after_moves nothing (values_of x.moves.items) key) (mapped_after x.base.value x.after.seen.log key) (tells key) address
    ∙ (λ i. longest_front (mapped_after (same i) (sym front i).seen.log key) address))

-- what was published
pub shown_is : {A E : Type 0} (F : E → Type 0) (r : Result A E) (x y : Shown) (waiting left : List Step) → Leads x waiting
    → MatchResult r (λ _. (past_of y ≡ fold past_after (past_of x) waiting) × (left ≡ [])) F
    → OnOk r ((step : Step) × (waiting ≡ step ∷ []) × (y.after.seen ≡ step.after.seen) × (y.base.value ≡ x.base.value) × (left ≡ []))
shown_is F (Ok a) x y waiting left leads m =
    let past : past_of y ≡ past_after (past_of x) leads.step = m.0 ∙ ap (fold past_after (past_of x)) leads.waits in
    (leads.step, leads.waits, ap (λ (p : Past). p.seen) past, ap (λ (p : Past). p.base) past, m.1)
shown_is F (Err e) x y waiting left leads m = tt

-- a step that waits leads on
pub leads_on : (x old : Shown) (step : Step) (waiting : List Step) (log entries : List Entry) (book : Book) → x ≡ old
    → waiting ≡ step ∷ [] → old.after.seen.book ≡ book → old.after.seen.log ≡ log → step.after.seen.book ≡ book → step.after.seen.log ≡ log ++ entries
    → AreMoves (mapped_after old.base.value log) step.moves.items (mapped_after old.base.value (log ++ entries))
    → Leads x waiting
leads_on x old step waiting log entries book same waits its_book its_log next_book next_log leads =
    subst (λ (z : Shown). Leads z waiting) (sym same) (record {
      step = step;
      waits = waits;
      book = next_book ∙ sym its_book;
      moves = λ key scope.
          (λ i. after_moves (mapped_after old.base.value (its_log i)) step.moves.items key scope)
          ∙ (leads key scope ∙ (λ i. mapped_after old.base.value (sym next_log i) key scope));
    })

-- two copies of which nothing happened
pub alike : (x y : Shown) → x.base.value ≡ y.base.value → x.after.seen ≡ y.after.seen
    → values_of x.moves.items ≡ [] → values_of y.moves.items ≡ [] → past_of x ≡ past_of y
alike x y base seen mine other = λ i. record { base = base i; seen = seen i; moves = (mine ∙ sym other) i }

pub opens : (x : Shown) → values_of x.moves.items ≡ [] → x.after.seen.log ≡ [] → HoldsRule x (newcomer ∷ [])
unfolding mapped_after
opens x moves log = begins x (λ key scope.
    ap (λ (ms : List Move). after_moves nothing ms key scope) moves ∙ (λ i. mapped_after x.base.value (sym log i) key scope))
