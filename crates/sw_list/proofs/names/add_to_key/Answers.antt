use Rattle.std.proofs.Common.{None, Some, inl, inr, refl, sym, ◌∙◌, ap, subst, true≢false}
use Rattle.std.specs.Option.{IsSome}
use Rattle.std.proofs.lemmas.Bool.{cases_Bool, eq-eqb}
use Rattle.sw_list.specs.Names.{found_has, names_have}
use Rattle.sw_list.proofs.BareLemmas.{bare_key, some_none}
use Rattle.sw_list.proofs.names.add_to_key.Goals as goal

pub returns-in-Some-clause-bare : goal.returns-in-Some-clause-bare
returns-in-Some-clause-bare c was =
    let new = c.add.new.self in
    let old = c.in-Some.names.now in
    let at = c.in-Some.ensures.value in
    let written = (c.get_mut.follows.holds new).3 (subst IsSome at refl) in
    bare_key c.args.key.now c.args.keys.now.entries (c.get_mut.follows.lender new).entries (Some new) written.0
    (λ out. absurd (some_none old (at ∙ was.keyed c.args.key.now (λ name n. elim (cases_Bool (names_have old name n)) [
      | inl e ↦ absurd (true≢false (sym (c.add.ensures.more name n e) ∙ out name n))
      | inr e ↦ ap (found_has (λ names. names_have names name n)) (sym at) ∙ e
    ]))))
    (c.add.ensures.bare (was.named c.args.key.now old (sym at))) was

pub returns-in_ok-insert-in-None-clause-bare : goal.returns-in_ok-insert-in-None-clause-bare
returns-in_ok-insert-in-None-clause-bare c =
    let new = c.add-in-None.new.self in
    let n = c.args.number in
    bare_key c.args.key.now c.args.keys.now.entries c.insert.new.self.entries (Some new)
    (rw (← c.get_mut.follows.holds-at-none, ← c.in_ok-copy-in-None.ensures) c.in_ok-insert-in-None.ensures.updates.0)
    (λ out. absurd (true≢false (sym (c.in_ok-add-in-None.ensures.ok None n ∙ rw (eq-eqb n n refl) refl) ∙ out None n)))
    (c.add-in-None.ensures.bare c.new-names.ensures.bare)
