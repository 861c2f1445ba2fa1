use Rattle.indexmap.proofs.MapLemmas.{OnOk-map}
use Rattle.sw_state.specs.Hosted.{state_of}
use Rattle.sw_bucket.proofs.Noting.{noted_more, others_stay}
use Rattle.sw_bucket.proofs.uses.Uses.note.Goals as goal

pub returns-clause-ok : goal.returns-clause-ok
returns-clause-ok c =
    OnOk-map c.note_one.result _ _
    (λ one base history was legal from.
    noted_more base c.args.self.now c.note_one.new.self (state_of c.args.core.now) history c.args.entry.now was legal from one)
    c.note_one.ensures.ok

pub returns-clause-others : goal.returns-clause-others
returns-clause-others c =
    OnOk-map c.note_one.result _ _ (λ one. others_stay c.args.self.now c.note_one.new.self (state_of c.args.core.now) c.args.entry.now one)
    c.note_one.ensures.ok
