use Rattle.std.proofs.Common.{◌≡◌, true, take}
use Rattle.std.specs.List.{flat_map, list_all}
use Rattle.sw_codec.specs.Spelling.{change_spelling, has_spelling}
use Rattle.sw_codec.proofs.writing.changes.write.Given as goal

abbrev pub invariant-loop-change : goal.invariant-loop-change
invariant-loop-change l = record {
  bytes : l.out.items ≡ flat_map change_spelling (take l.change-index l.changes);
  fits : list_all has_spelling (take l.change-index l.changes) ≡ true;
}
