-- What is kept of a run is the recording, and the content that the store began with.
use Rattle.std.proofs.Common.{◌∙◌, sym, subst}
use Rattle.sw_data.specs.declared.recordings.Recording.{Recording}
use Rattle.sw_data.specs.declared.storage.Kept.{Kept}
use Rattle.sw_host.proofs.ending.begin.Goals as goal
use Rattle.sw_turns.specs.Turns.{IsGoing}

pub new-requires-in-Ok-clause-going : goal.new-requires-in-Ok-clause-going
new-requires-in-Ok-clause-going g c =
    subst (λ (recording : Recording). IsGoing g.D.Disk c.args.start.value c.args.disk recording c.of-base.result.value c.in-Ok.progress) (sym c.of-known.ensures)
    (subst (λ (base : Kept). IsGoing g.D.Disk c.args.start.value c.args.disk c.args.recording base c.in-Ok.progress) (sym (c.of-base.ensures ∙ c.base.ensures))
    (c.in-Ok.ensures.going c.args.start.value c.requires.opened))
