use Rattle.std.proofs.Common.{◌∙◌, List, sym, ap, subst}
use Rattle.indexmap.proofs.MapLemmas.{OnOk-map}
use Rattle.sw_data.specs.declared.storage.Kept.{Kept}
use Rattle.sw_bucket.proofs.Filling.{begun}
use Rattle.sw_bucket.proofs.bucket.BucketBound.begin.Goals as goal
use Rattle.sw_bucket.specs.Filling.{Filled}
use Rattle.sw_rules.specs.Storage.{IsMade}
use Rattle.sw_sizes.specs.Rows.{ArePartsOf, Row}
use Rattle.sw_sizes.specs.Usage.{keys_of_kept}
use Rattle.sw_state.specs.Hosted.{state_of}

pub returns-clause-notes : goal.returns-clause-notes
returns-clause-notes c = λ base legal is.
    let rows : List Row = c.in_ok-self-inside.field-0 in
    let middle : Filled = record {
      limit = c.self.inside.limit;
      used = c.self.inside.used;
      rows = rows;
      noted = c.in_ok-self-inside-2.field-0;
      turns = c.new.result.turns;
    } in
    let kept = c.in_ok-kept.ensures.kept in
    OnOk-map c.fill.result _ _
    (λ fills.
    begun (state_of c.args.core.now) middle c.fill.new.self c.deref.result.now c.fill.ensures.known fills base c.args.entry.now legal is
    (c.deref.ensures.value ∙ (c.in_ok-keys.ensures ∙ ap keys_of_kept kept)) c.new.ensures
    (λ made. subst (λ (k : Kept). ArePartsOf k rows) kept (c.in_ok-self-inside.ensures (subst IsMade (sym kept) made)))
    (c.in_ok-self-inside-2.ensures base legal is))
    c.fill.ensures.filled
