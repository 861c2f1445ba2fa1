use Rattle.std.proofs.Common.{◌≡◌, ℕ, List, None, Some, bytes_eq, refl, sym, ◌∙◌, ap, subst, true≢false, cond}
use Rattle.std.specs.Map.{lookup}
use Rattle.std.specs.Option.{IsSome}
use Rattle.sw_list.proofs.BareLemmas.{bare_key, put_taken}
use Rattle.sw_list.proofs.names.drop_number.Goals.{in-Some, in-None}
use Rattle.sw_list.proofs.names.drop_number.Goals as goal

pub returns-then-is_empty-clause-bare : goal.returns-then-is_empty-clause-bare
returns-then-is_empty-clause-bare c = elim c.match-get_mut.branch [
  | in-Some w ↦
      let new = w.take-is_empty.new.self in
      let old = c.args.keys.now.entries in
      let key = c.args.key.now in
      let written = (c.get_mut.follows.holds new).3 (subst IsSome w.in-Some.ensures.value refl) in
      let between : (asked : List ℕ) → lookup (bytes_eq asked) c.match-get_mut.keys.entries ≡ cond (bytes_eq key asked) (Some new) (lookup (bytes_eq asked) old) = rw w.keys-is written.0 in
      bare_key key old c.swap_remove.new.self.entries None
      (λ asked. c.swap_remove.ensures.updates.0 asked ∙ (ap (cond (bytes_eq key asked) None) (between asked) ∙ put_taken (bytes_eq key asked) (Some new) (lookup (bytes_eq asked) old)))
      (λ out. refl) tt
  | in-None w ↦ absurd (true≢false (sym c.if-is_empty.true ∙ w.is_empty-is))
]

pub returns-else-is_empty-clause-bare : goal.returns-else-is_empty-clause-bare
returns-else-is_empty-clause-bare c = elim c.match-get_mut.branch [
  | in-Some w ↦
      let new = w.take-is_empty.new.self in
      let written = (c.get_mut.follows.holds new).3 (subst IsSome w.in-Some.ensures.value refl) in
      rw w.keys-is (λ was.
      let named = was.named c.args.key.now w.in-Some.names.now (sym w.in-Some.ensures.value) in
      bare_key c.args.key.now c.args.keys.now.entries (c.get_mut.follows.lender new).entries (Some new) written.0
      (λ out. absurd (true≢false (sym (w.take-is_empty.ensures.left named out) ∙ (sym w.is_empty-is ∙ c.if-is_empty.false))))
      (w.take-is_empty.ensures.bare named) was)
  | in-None w ↦ rw (w.keys-is, c.get_mut.follows.holds-at-none) (λ was. was)
]
