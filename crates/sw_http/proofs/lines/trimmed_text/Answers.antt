use Rattle.std.proofs.Common.{sym, subst}
use Rattle.std.specs.Str.{IsUtf8}
use Rattle.sw_http.proofs.TrimLemmas.{trimmed_utf8}
use Rattle.sw_http.proofs.lines.trimmed_text.Goals as goal

pub unreachable-requires : goal.unreachable-requires
unreachable-requires c =
    c.in-Err.ensures.cases.0 (subst IsUtf8 (sym c.trimmed.ensures) (trimmed_utf8 c.as_bytes.result.now c.as_bytes.ensures.utf8))
