use Rattle.std.proofs.Common.{◌≡◌, drop}
use Rattle.sw_kept.specs.Stored.{made_by}
use Rattle.sw_rules.specs.Storage.{nothing}
use Rattle.sw_kept.proofs.content.content_by.Given as goal

abbrev pub invariant-loop-entry : goal.invariant-loop-entry
invariant-loop-entry l = made_by l.content (drop l.entry-index l.fn.records) ≡ made_by nothing l.fn.records
