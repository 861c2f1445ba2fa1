use Rattle.std.proofs.Common.{Some, refl, sym, ◌∙◌, subst, true≢false}
use Rattle.std.specs.Option.{IsSome}
use Rattle.sw_list.proofs.BareLemmas.{bare_name}
use Rattle.sw_list.proofs.names.take_number.Goals.{in-Some, in-None}
use Rattle.sw_list.proofs.names.take_number.Goals as goal

pub returns-else-is_empty-clause-bare : goal.returns-else-is_empty-clause-bare
returns-else-is_empty-clause-bare c = elim c.match-get_mut.branch [
  | in-Some w ↦
      let new = w.take_from-is_empty.new.numbers in
      let written = (c.get_mut.follows.holds new).3 (subst IsSome w.in-Some.ensures.value refl) in
      rw w.names-is (bare_name c.args.name.now c.args.names.now.entries (c.get_mut.follows.lender new).entries (Some new) written.0
      (λ out. absurd (true≢false (sym (w.take_from-is_empty.ensures.none.1 out) ∙ (sym w.is_empty-is ∙ c.if-is_empty.false)))))
  | in-None w ↦ rw (w.names-is, c.get_mut.follows.holds-at-none) (λ was. was)
]
