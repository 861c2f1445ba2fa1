use Rattle.std.proofs.Common.{Some, refl, sym, ◌∙◌, subst, true≢false}
use Rattle.std.specs.Option.{IsSome}
use Rattle.sw_list.proofs.BareLemmas.{bare_name}
use Rattle.sw_list.proofs.names.add_number.Goals as goal

pub returns-in_ok-insert-in-Some-clause-bare : goal.returns-in_ok-insert-in-Some-clause-bare
returns-in_ok-insert-in-Some-clause-bare c =
    let new = c.insert.new.self in
    let written = (c.get_mut.follows.holds new).3 (subst IsSome c.in-Some.ensures.value refl) in
    bare_name c.args.name.now c.args.names.now.entries (c.get_mut.follows.lender new).entries (Some new) written.0
    (λ out. absurd (true≢false (sym c.in_ok-insert-in-Some.ensures.updates.1 ∙ out c.args.number)))

pub returns-in_ok-insert-in-None-2-clause-bare : goal.returns-in_ok-insert-in-None-2-clause-bare
returns-in_ok-insert-in-None-2-clause-bare c =
    let new = c.insert-in-None.new.self in
    let is = c.in_ok-insert-in-None-2.ensures.updates.0 in
    let old = c.get_mut.follows.holds-at-none in
    let name = c.in_ok-copy-in-None.ensures in
    bare_name c.args.name.now c.args.names.now.entries c.insert-in-None-2.new.self.entries (Some new) (rw (← old, ← name) is)
    (λ out. absurd (true≢false (sym c.in_ok-insert-in-None.ensures.updates.1 ∙ out c.args.number)))
