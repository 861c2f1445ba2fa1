use Rattle.std.proofs.Common.{◌≡◌, ◌++◌, true, take}
use Rattle.std.specs.List.{flat_map, list_all}
use Rattle.sw_codec.specs.Spelling.{header_spelling, is_header}
use Rattle.sw_codec.proofs.writing.exchange.put_lines.Given as goal

abbrev pub invariant-loop-line : goal.invariant-loop-line
invariant-loop-line l = record {
  bytes : l.out.items ≡ l.fn.out.items ++ flat_map header_spelling (take l.line-index l.lines);
  fits : list_all is_header (take l.line-index l.lines) ≡ true;
}
