use Rattle.std.proofs.Common.{◌∙◌, ◌<◌, sym, ap, subst}
use Rattle.sw_rules.specs.Told.{Told}
use Rattle.sw_state.specs.Hosted.{Hosted}
use Rattle.sw_work.specs.Plans.{with_promise}
use Rattle.sw_finish.proofs.acts.start_promised.Goals as goal

pub promise-requires : goal.promise-requires
promise-requires c = subst (λ (h : Hosted). 0 < h.promises.spare) (sym c.start_all.ensures.others) c.requires.room

pub returns : goal.returns
returns c = c.promise.ensures ∙ ap (λ (told : Told). with_promise c.args.row told.state) (sym c.start_all.ensures.told)
