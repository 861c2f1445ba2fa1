-- The event that was found has happened.
use Rattle.std.proofs.Common.{[], ◌∷◌, ◌++◌, subst, sym}
use Rattle.sw_audit.specs.contracts.hosts.Host.{the_view}
use Rattle.sw_audit.specs.Following.{Following, HasFollowed}
use Rattle.sw_audit.proofs.Stood.{may_enter, names_it, none_on, stands_then, still_led, there_on}
use Rattle.sw_audit.specs.Named.{IsNamed}
use Rattle.sw_data.specs.declared.histories.Entry.{Entry}
use Rattle.sw_rules.specs.History.{moved}
use Rattle.sw_audit.proofs.hosts.HostMachine.happen.Goals.{in-Err-enter, in-Ok}
use Rattle.sw_audit.proofs.hosts.HostMachine.happen.Goals as goal

pub enter-requires-clause-enabled : goal.enter-requires-clause-enabled
enter-requires-clause-enabled c =
    may_enter c.self.inside.core c.self.inside.lanes c.taken.new.lanes c.self.inside.net c.args.mark c.in-Ok-Some.field-0 c.in-Ok-Some.event c.in-Ok-Some.field-0-is
    c.in-Ok-Some.ensures.found c.self.invariant

pub invariant_of-self : goal.invariant_of-self
invariant_of-self c =
    still_led c.self.inside.core c.self.inside.lanes c.taken.new.lanes c.self.inside.net c.args.mark c.in-Ok-Some.field-0 c.in-Ok-Some.event c.in-Ok-Some.field-0-is
    c.in-Ok-Some.ensures.found c.enter.new.core c.self.invariant c.enter.ensures.coherent

pub returns-after-enter-clause-named : goal.returns-after-enter-clause-named
returns-after-enter-clause-named c = λ recording before state stands.
    let own : HasFollowed (the_view c.self.inside) recording before state = subst (λ (host : Following). HasFollowed host recording before state) (sym c.self.view_is) stands in
    elim c.match-enter.branch [
      | in-Ok w ↦
          there_on c.match-enter.result w.in-Ok.entry (IsNamed recording before state c.args.mark) w.result-is
          (names_it c.self.inside.core c.self.inside.lanes c.taken.new.lanes c.self.inside.net c.args.mark c.in-Ok-Some.field-0 c.in-Ok-Some.event c.in-Ok-Some.field-0-is
          c.in-Ok-Some.ensures.found c.enter.new.core w.in-Ok.entry w.in-Ok.ensures.entered recording before state own)
      | in-Err-enter w ↦ none_on c.match-enter.result _ _ w.result-is
    ]

pub returns-after-enter-clause-stands : goal.returns-after-enter-clause-stands
returns-after-enter-clause-stands c = λ recording before state stands.
    let own : HasFollowed (the_view c.self.inside) recording before state = subst (λ (host : Following). HasFollowed host recording before state) (sym c.self.view_is) stands in
    elim c.match-enter.branch [
      | in-Ok w ↦
          there_on c.match-enter.result w.in-Ok.entry
          (λ (entry : Entry). HasFollowed (record { core = c.enter.new.core; lanes = c.taken.new.lanes; net = c.self.inside.net }) recording (before ++ entry ∷ []) (moved state entry)) w.result-is
          (stands_then c.self.inside.core c.self.inside.lanes c.taken.new.lanes c.self.inside.net c.args.mark c.in-Ok-Some.field-0 c.in-Ok-Some.event c.in-Ok-Some.field-0-is
          c.in-Ok-Some.ensures.found c.enter.new.core w.in-Ok.entry w.in-Ok.ensures.entered recording before state own)
      | in-Err-enter w ↦ none_on c.match-enter.result _ _ w.result-is
    ]
