use Rattle.std.proofs.Common.{◌+◌, ◌-◌, ◌≤◌, vec_len}
use Rattle.std.specs.Io.KnownBytes.{Consumes}
use Rattle.sw_io.proofs.whole.read_all.Given as goal

-- what was read so far is what the source lost, it is within the limit, and each read brought a byte
abbrev pub invariant-loop-all : goal.invariant-loop-all
invariant-loop-all g l = record {
  lost : Consumes (g.S.Source.left l.initial.source) (g.S.Source.left l.source) l.all.items;
  within : vec_len l.all ≤ l.limit;
  count : g.S.Source.faults l.initial.source ≤ g.S.Source.faults l.source;
  reads : g.S.Source.reads l.source ≤ g.S.Source.reads l.initial.source + vec_len l.all;
}

abbrev pub decreases-loop-all : goal.decreases-loop-all
decreases-loop-all g l = l.limit - vec_len l.all
