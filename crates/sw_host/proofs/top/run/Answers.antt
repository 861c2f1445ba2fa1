-- Whatever is done, stalled or spent has run its recording.
use Rattle.sw_host.proofs.BoundLemmas.{has_done_within, has_stalled_within}
use Rattle.sw_host.proofs.NumberLemmas.{of_entries}
use Rattle.sw_host.proofs.StandLemmas.{has_done, has_spent, has_stalled}
use Rattle.sw_host.specs.Words.{command_of}
use Rattle.sw_host.proofs.top.run.Goals as goal

pub returns-clause-done : goal.returns-clause-done
returns-clause-done g c = λ is workers wants.
    let stood = c.run_on.ensures.stands (λ none. cc) (λ fault. cc) in
    let run = has_done g.D.Disk c.args.disk c.run_on.result.disk (g.S.Source.left c.args.source.now) stood.0
    (g.S.Source.faults c.args.source.now) (g.S.Source.faults c.run_on.new.source) (command_of c.args.words.now) c.run_on.result.status workers is wants stood.1 in
    (stood.0, run, stood.2)

pub returns-clause-stalled : goal.returns-clause-stalled
returns-clause-stalled g c = λ is workers wants.
    let stood = c.run_on.ensures.stands (λ none. cc) (λ fault. cc) in
    let run = has_stalled g.D.Disk c.args.disk c.run_on.result.disk (g.S.Source.left c.args.source.now) stood.0
    (g.S.Source.faults c.args.source.now) (g.S.Source.faults c.run_on.new.source) (command_of c.args.words.now) c.run_on.result.status workers is wants stood.1 in
    (stood.0, run.0, run.1, stood.2)

pub returns-clause-spent : goal.returns-clause-spent
returns-clause-spent g c = λ spent is workers wants.
    let stood = c.run_on.ensures.stands (λ none. cc) (λ fault. cc) in
    let run = has_spent g.D.Disk c.args.disk c.run_on.result.disk (g.S.Source.left c.args.source.now) stood.0
    (g.S.Source.faults c.args.source.now) (g.S.Source.faults c.run_on.new.source) (command_of c.args.words.now) c.run_on.result.status workers spent is wants stood.1 in
    (stood.0, run, stood.2)

pub returns-clause-done_within : goal.returns-clause-done_within
returns-clause-done_within g c = λ is limit wants.
    let stood = c.run_on.ensures.stands (λ none. cc) (λ fault. cc) in
    let run = has_done_within g.D.Disk c.args.disk c.run_on.result.disk (g.S.Source.left c.args.source.now) stood.0
    (g.S.Source.faults c.args.source.now) (g.S.Source.faults c.run_on.new.source) (command_of c.args.words.now) c.run_on.result.status limit is wants stood.1 in
    (stood.0, run, stood.2)

pub returns-clause-stalled_within : goal.returns-clause-stalled_within
returns-clause-stalled_within g c = λ is limit wants.
    let stood = c.run_on.ensures.stands (λ none. cc) (λ fault. cc) in
    let run = has_stalled_within g.D.Disk c.args.disk c.run_on.result.disk (g.S.Source.left c.args.source.now) stood.0
    (g.S.Source.faults c.args.source.now) (g.S.Source.faults c.run_on.new.source) (command_of c.args.words.now) c.run_on.result.status limit is wants stood.1 in
    (stood.0, run.0, run.1, stood.2)

pub returns-clause-numbered : goal.returns-clause-numbered
returns-clause-numbered g c = λ is.
    let stood = c.run_on.ensures.stands (λ none. cc) (λ fault. cc) in
    of_entries stood.0 g.D.Disk c.args.disk c.run_on.result.disk (g.S.Source.left c.args.source.now)
    (g.S.Source.faults c.args.source.now) (g.S.Source.faults c.run_on.new.source) (command_of c.args.words.now) c.run_on.result.status is stood.1
