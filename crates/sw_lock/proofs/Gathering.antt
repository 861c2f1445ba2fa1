-- One seat takes in the passes one after another.
use Rattle.std.proofs.Common.{◌≡◌, ◌+◌, List, [], ◌∷◌, ◌++◌, length, Option, All, sym, ap, ◌∙◌, subst, arith, append_assoc, length-append}
use Rattle.std.proofs.lemmas.List.{append-nil, get_or-map, length-map}
use Rattle.std.proofs.lemmas.List.Elements.{All-head, All-tail, All-push, All-same}
use mathlib.Core.List.{map-append}
use Rattle.atomic_table.specs.declared.shared.Seat.{Seat}
use Rattle.atomic_table.specs.Seated.{TableId}
use Rattle.sw_lock.specs.declared.logged.Logged.{Ghosts}
use Rattle.sw_lock.specs.declared.pass.Pass.{Pass}
use Rattle.sw_lock.specs.declared.view.View.{View}
use Rattle.sw_lock.specs.declared.view.Note.{Note}
use Rattle.sw_lock.specs.Steps.{Sat, IsIdle, note, together}
use Rattle.sw_lock.specs.Passes.{IsGathered}

module _ {X : Type 0} where
  -- the next item of a list, and what is left of it
  pub first_has : (P : X → Type 0) (items rest : List X) (x : X) → items ≡ x ∷ rest → All P items → P x
  first_has P items rest x e all = All-head P x rest (All-same P (x ∷ rest) items (sym e) all)

  pub rest_has : (P : X → Type 0) (items rest : List X) (x : X) → items ≡ x ∷ rest → All P items → All P rest
  rest_has P items rest x e all = All-tail P x rest (All-same P (x ∷ rest) items (sym e) all)

  pub parts_more : (before items rest all : List X) (x : X) → before ++ items ≡ all → items ≡ x ∷ rest → (before ++ x ∷ []) ++ rest ≡ all
  parts_more before items rest all x parts e = append_assoc before (x ∷ []) rest ∙ (ap (λ (l : List X). before ++ l) (sym e) ∙ parts)

  pub one_longer : (old new : List X) (x : X) → new ≡ old ++ x ∷ [] → length new ≡ length old + 1
  one_longer old new x e = ap length e ∙ length-append old (x ∷ [])

  -- one more item that has what the others have
  pub all_more : (P : X → Type 0) (old new : List X) (x : X) → new ≡ old ++ x ∷ [] → All P old → P x → All P new
  all_more P old new x e all here = All-same P new (old ++ x ∷ []) e (All-push P old x all here)

module _ {T E G O : Type 0} {g : Ghosts T E G O} where
  -- the seat takes in one more pass
  pub gathered_next : (first : Pass T E G O g) (others : List (Pass T E G O g)) (pass : Pass T E G O g) (seat other new : Seat (Option T) (View T E))
      → IsGathered first others seat → other ≡ pass.seat → (let m : Sat T E = (together seat.me.0 other.me.0, seat.me.1) in new.me ≡ m)
      → IsGathered first (others ++ pass ∷ []) new
  gathered_next first others pass seat other new so_far same is =
      let e = is ∙ ap (λ (s : Seat (Option T) (View T E)). let m : Sat T E = (together seat.me.0 s.me.0, seat.me.1) in m) same in
      let idle = pass.idle in let alone = idle.alone in let many = so_far.stands in
      record {
        empty = ap (λ (m : Sat T E). m.1) e ∙ so_far.empty;
        ticket = ap (λ (m : Sat T E). m.0.ticket) e ∙ so_far.ticket;
        place = ap (λ (m : Sat T E). m.0.place) e ∙ so_far.place;
        stands = let passes = ap (λ (m : Sat T E). m.0.passes) e in omega (arith, length-append others (pass ∷ []));
        own = ap (λ (m : Sat T E). note m.0) e ∙ so_far.own;
        joined =
            ap (λ (m : Sat T E). m.0.joined) e
            ∙ (ap (λ (l : List (Note E)). (seat.me.0.joined ++ note pass.seat.me.0 ∷ []) ++ l) idle.joined
            ∙ (append-nil (seat.me.0.joined ++ note pass.seat.me.0 ∷ [])
            ∙ (ap (λ (l : List (Note E)). l ++ note pass.seat.me.0 ∷ []) so_far.joined
            ∙ sym (map-append (λ (p : Pass T E G O g). note p.seat.me.0) others (pass ∷ [])))));
      }

  -- what is known of each pass, once one seat stands for them all
  pub gathered_all : (P : Note E → Type 0) (first : Pass T E G O g) (others all : List (Pass T E G O g)) (seat : Seat (Option T) (View T E))
      → IsGathered first others seat → all ≡ others ++ first ∷ [] → P (note seat.me.0) → All P seat.me.0.joined
      → All (λ p. P (note p.seat.me.0)) all
  gathered_all P first others all seat so_far parts own joined =
      let Q : Pass T E G O g → Type 0 = λ p. P (note p.seat.me.0) in
      All-same Q all (others ++ first ∷ []) parts (All-push Q others first
      (λ k d below. subst P (get_or-map (λ (p : Pass T E G O g). note p.seat.me.0) others k d (note d.seat.me.0) below) (subst (λ (ns : List (Note E)). All P ns) so_far.joined joined k (note d.seat.me.0) (omega (arith, length-map others (λ (p : Pass T E G O g). note p.seat.me.0)))))
      (subst P so_far.own own))

  -- the seat of a pass, once it is out of the pass
  pub seat_idle : (pass : Pass T E G O g) (seat : Seat (Option T) (View T E)) → seat ≡ pass.seat → IsIdle seat.me
  seat_idle pass seat e = subst (λ (s : Seat (Option T) (View T E)). IsIdle s.me) (sym e) pass.idle

  pub seat_table : (pass : Pass T E G O g) (seat : Seat (Option T) (View T E)) (table : TableId) → seat ≡ pass.seat → pass.seat.table_id ≡ table → seat.table_id ≡ table
  seat_table pass seat table e here = ap (λ (s : Seat (Option T) (View T E)). s.table_id) e ∙ here
