-- The parts so far, and then those of the values from here on, are those of all values.
use Rattle.std.proofs.Common.{◌≡◌, map, drop}
use Rattle.serde_json.specs.View.{view}
use Rattle.sw_forms.specs.Members as members
use Rattle.sw_forms.proofs.PartLemmas.{appended}
use Rattle.sw_forms.proofs.lists.each_of.Given as goal

abbrev pub invariant-loop-value : goal.invariant-loop-value
invariant-loop-value g l =
    appended l.parts (members.each_of g.T.FromValue.reads (map view (drop l.value-index l.values)))
    ≡ members.each_of g.T.FromValue.reads (map view l.values)
