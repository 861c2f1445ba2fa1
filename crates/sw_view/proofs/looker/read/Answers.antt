use Rattle.std.proofs.Common.{◌≡◌, sym, ◌∙◌, ap, subst}
use Rattle.sw_view.specs.declared.shown.Shown.{Shown}
use Rattle.sw_view.specs.Keeping.{LeadsToMap}
use Rattle.sw_view.proofs.Keepings.{found_is, reads, tied_is}
use Rattle.sw_view.proofs.looker.read.Goals as goal

pub enter_as-requires : goal.enter_as-requires
enter_as-requires c = reads _ _

pub returns-in-Ok-clause-found : goal.returns-in-Ok-clause-found
returns-in-Ok-clause-found c =
    let x = c.in-Ok.reading.part.value in
    let is : c.get.result.now ≡ x = c.get.ensures in
    let told = c.in-Ok.ensures.1 in
    let tied = tied_is _ c.args.base.now.value c.args.front.now.seen.book x c.requires.base_is c.requires.book_is told.2 in
    found_is c.look_at-found.result c.get.result.now c.args.base.now.value c.args.key.now c.args.address.now c.look_at-found.ensures.front c.look_at-found.ensures.found
    (subst LeadsToMap (sym is) told.1) (ap (λ (z : Shown). z.base.value) is ∙ tied.0)
