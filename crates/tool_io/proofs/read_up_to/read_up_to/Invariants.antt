use Rattle.std.proofs.Common.{◌≡◌, ◌≤◌, ◌-◌, length}
use Rattle.std.specs.Io.KnownBytes.{Consumes}
use Rattle.tool_io.proofs.read_up_to.read_up_to.Given as goal

abbrev pub invariant-loop-count : goal.invariant-loop-count
invariant-loop-count g l = record {
  read : Consumes (g.R.Read.remaining l.initial.reader) (g.R.Read.remaining l.reader) l.into.items;
  short : length l.into.items ≤ l.most;
  no_fault : l.faults ≡ l.initial.faults;
}

abbrev pub decreases-loop-count : goal.decreases-loop-count
decreases-loop-count g l = l.most - length l.into.items
