use Rattle.std.proofs.Common.{◌∙◌}
use Rattle.sw_codec.proofs.Fields.{text-fits}
use Rattle.sw_codec.proofs.writing.fields.put_text.Goals as goal

pub returns-clause-fits : goal.returns-clause-fits
returns-clause-fits c = text-fits c.put_span.result c.args.text.now c.as_bytes.result.now (c.as_bytes.ensures.value ∙ c.as_str.ensures) c.as_bytes.ensures.utf8 c.put_span.ensures.fits
