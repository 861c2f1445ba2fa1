use Rattle.std.proofs.Common.{Bool, ◌∙◌, ap}
use Rattle.sw_journal.specs.Content.{content_of_reading}
use Rattle.sw_journal.proofs.PartChanges.{content-unformatted, content-reads}
use Rattle.sw_journal.specs.Version.{format_at}
use Rattle.sw_journal.proofs.reopening.parse_part.Goals as goal

pub returns-in_default-clause-not_formatted : goal.returns-in_default-clause-not_formatted
returns-in_default-clause-not_formatted c is = content-unformatted c.args.bytes.now c.in_default.ensures.format

pub returns-then-not-found-clause-bad : goal.returns-then-not-found-clause-bad
returns-then-not-found-clause-bad c =
    let r = c.in_ok-found.found in
    content-reads (format_at c.in-Some.version) c.args.bytes.now (record { records = r.records.items; gate = r.gate; is_closed = r.is_closed })
    c.in-Some.ensures.format c.in_ok-found.ensures.reading
    ∙ ap (λ (b : Bool). content_of_reading (record { records = r.records.items; gate = r.gate; is_closed = b })) c.if-not-found.true

pub returns-clause-records : goal.returns-clause-records
returns-clause-records c =
    let r = c.in_ok-found.found in
    content-reads (format_at c.in-Some.version) c.args.bytes.now (record { records = r.records.items; gate = r.gate; is_closed = r.is_closed })
    c.in-Some.ensures.format c.in_ok-found.ensures.reading
    ∙ ap (λ (b : Bool). content_of_reading (record { records = r.records.items; gate = r.gate; is_closed = b })) c.if-not-found.false
