use Rattle.std.proofs.Common.{◌≡◌, ◌++◌, true, take}
use Rattle.std.specs.List.{flat_map, list_all}
use Rattle.sw_codec.specs.Spelling.{op_spelling, is_op}
use Rattle.sw_codec.proofs.writing.exchange.put_steps.Given as goal

abbrev pub invariant-loop-op : goal.invariant-loop-op
invariant-loop-op l = record {
  bytes : l.out.items ≡ l.fn.out.items ++ flat_map op_spelling (take l.op-index l.ops);
  fits : list_all is_op (take l.op-index l.ops) ≡ true;
}
