-- A line that is read as a value is that value.
use Rattle.std.proofs.Common.{◌≡◌, IfOk, subst, sym}
use Rattle.serde_json.specs.View.{view}
use Rattle.sw_record.proofs.LineLemmas.{text_read_is}
use Rattle.sw_record.proofs.lines.with_text.Goals as goal

pub returns-in-Ok : goal.returns-in-Ok
returns-in-Ok g c =
    let is = text_read_is g.R.FromLines.reads c.args.so_far c.args.line.now (view c.in-Ok.value) c.in-Ok.ensures.ok.0 c.in-Ok.ensures.ok.1 in
    subst (λ read. IfOk c.with_value.result (λ reading. reading ≡ read)) (sym is) c.with_value.ensures
