use Rattle.std.proofs.Common.{◌∙◌, List, Option, ℕ, [], sym, subst}
use Rattle.indexmap.proofs.MapLemmas.{OnOk-map}
use Rattle.sw_data.specs.declared.storage.Change.{Change}
use Rattle.sw_data.specs.declared.storage.Kept.{Kept}
use Rattle.sw_bucket.proofs.Filling.{filled_more}
use Rattle.sw_bucket.proofs.bucket.BucketBound.note.Goals as goal
use Rattle.sw_bucket.specs.Filling.{Filled, IsFilled}
use Rattle.sw_bucket.specs.Noted.{key_used_by, last_noted}
use Rattle.sw_bucket.specs.Touched.{touched}
use Rattle.sw_bucket.specs.Turns.{LoseTurns}
use Rattle.sw_rules.specs.History.{after}
use Rattle.sw_rules.specs.Step.{changes_of}
use Rattle.sw_rules.specs.Storage.{kept_after}
use Rattle.sw_sizes.specs.Rows.{ArePartsOf}
use Rattle.sw_state.specs.Hosted.{state_of}

pub returns-clause-notes : goal.returns-clause-notes
returns-clause-notes c = λ base history given legal is spelled.
    let state = state_of c.args.core.now in
    let before : Filled = record {
      limit = c.self.inside.limit;
      used = c.self.inside.used;
      rows = c.self.inside.sizes;
      noted = c.self.inside.uses;
      turns = c.self.inside.order.turns;
    } in
    let middle : Filled = record before {
      rows = c.note_all.new.self;
      noted = c.note.new.self;
      turns = c.take_all.new.self.turns;
    } in
    let was : IsFilled base history before = subst (IsFilled base history) (sym c.self.view_is) given in
    let all : List Change = c.in_ok-changes.changes.items in
    let used : Option (List ℕ) = key_used_by before.noted state c.args.entry.now.answer c.args.entry.now.event in
    let keys : List (List ℕ) = c.deref-4.result.now in
    let are = c.deref-4.ensures.value ∙ (c.in_ok-keys.ensures ∙ (λ i. touched ((c.as_ref.ensures.value ∙ c.in_ok-used.ensures) i) (c.deref.ensures.value i))) in
    let lost = subst (λ (given : List (List ℕ)). LoseTurns given (last_noted before.noted) before.turns middle.turns) (c.deref-2.ensures.value ∙ sym c.deref-4.ensures.value) c.in_ok-take_all.ensures in
    let sized : (kept : Kept) → ArePartsOf kept before.rows → ArePartsOf (kept_after kept all) middle.rows =
    λ kept parts. subst (λ (changes : List Change). ArePartsOf (kept_after kept changes) middle.rows) c.deref-3.ensures.value (c.in_ok-note_all.ensures kept parts) in
    OnOk-map c.fill.result _ _
    (λ fills.
    filled_more state middle c.fill.new.self keys c.fill.ensures.known fills base history c.args.entry.now before all used was legal is
    (c.in_ok-changes.ensures (changes_of (after base history) c.args.entry.now.event) spelled)
    are c.in_ok-note.ensures.others lost sized (c.in_ok-note.ensures.ok base history was.noted legal ([], sym is)))
    c.fill.ensures.filled
