use Rattle.std.proofs.Common.{◌∙◌, [], sym, ap}
use Rattle.std.specs.Option.{option_copied}
use Rattle.sw_queue.specs.Lines.{named}
use Rattle.sw_queue.specs.Links.{ByScope, last_number, no_nodes}
use Rattle.sw_queue.proofs.Naming.{named_absent, named_found}
use Rattle.sw_queue.proofs.Placing.{last_read}
use Rattle.sw_queue.proofs.index.Index.last.Goals as goal

pub returns-in_err-get : goal.returns-in_err-get
returns-in_err-get c =
    let nothing = sym c.get.ensures.value ∙ ap option_copied c.in_err-get.was in
    rw (← c.self.view_is)
    (c.from_residual.ensures
    ∙ (sym (ap (λ (l : ByScope). last_number c.self.inside.nodes (named l c.args.scope.now no_nodes))
    (named_absent _ c.args.key.now [] c.self.inside.keys.entries nothing))
    ∙ last_read c.self.inside.nodes _ c.args.key.now c.args.scope.now c.self.invariant))

pub returns : goal.returns
returns c =
    let found = sym c.get.ensures.value ∙ ap option_copied c.in_ok-get.was in
    rw (← c.self.view_is)
    (c.last.ensures
    ∙ (sym (ap (λ (l : ByScope). last_number c.self.inside.nodes (named l c.args.scope.now no_nodes))
    (named_found _ c.args.key.now [] c.self.inside.keys.entries c.in_ok-get.field-0.now found))
    ∙ last_read c.self.inside.nodes _ c.args.key.now c.args.scope.now c.self.invariant))
