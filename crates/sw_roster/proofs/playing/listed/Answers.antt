-- The list by what was focused last is the one by falling focus.
use Rattle.std.proofs.Common.{◌∙◌}
use Rattle.sw_roster.proofs.Recents.{listed_answer}
use Rattle.sw_roster.proofs.playing.listed.Goals as goal

pub returns-in-Ok : goal.returns-in-Ok
returns-in-Ok c = λ past so_far are.
    listed_answer past c.args.roster.now.state c.args.roster.now.recent so_far are c.args.worker c.args.uncontrolled c.from_vec.result
    (λ may. (let refused = c.in-Ok.ensures.no_worker.1 may in absurd cc)) (c.from_vec.ensures ∙ c.in-Ok.ensures.listed)
