use Rattle.std.proofs.Common.{◌≡◌, [], ◌≤◌, length}
use Rattle.tool_io.specs.Sink.{AppendsAllBut}
use Rattle.tool_io.proofs.put.put_all.Given as goal

abbrev pub invariant-loop-rest : goal.invariant-loop-rest
invariant-loop-rest g l = record {
  taken : AppendsAllBut (g.O.Sink.seen l.initial.out).taken (g.O.Sink.seen l.out).taken l.initial.rest l.rest;
  never_fell : (g.O.Sink.seen l.initial.out).faults ≤ (g.O.Sink.seen l.out).faults;
  unasked : l.initial.rest ≡ [] → (l.rest ≡ []) × (l.out ≡ l.initial.out);
}

abbrev pub decreases-loop-rest : goal.decreases-loop-rest
decreases-loop-rest g l = length l.rest
