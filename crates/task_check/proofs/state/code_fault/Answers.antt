use Rattle.std.proofs.Common.{arith}
use Rattle.task_check.specs.Faults.{LineFault}
use Rattle.task_check.proofs.Passing.{some-inside}
use Rattle.task_check.proofs.First.{first-start, first-more, first-all}
use Rattle.task_check.proofs.state.code_fault.Goals as goal

pub places-init : goal.places-init
places-init c = record {
  arrived = c.in_ok-arriving.ensures;
  first = first-start c.args.state.now.code (λ at line f. LineFault c.args.program.now c.args.kind.now c.args.state.now at line f);
}

pub places-preserved : goal.places-preserved
places-preserved c =
    let line = some-inside c.args.state.now.code c.places.at (omega (arith, c.len-at-end.ensures)) in
    record {
      arrived = c.in_ok-fault.ensures.arrived;
      first = rw c.earlier-first.ensures (first-more c.args.state.now.code (λ at l f. LineFault c.args.program.now c.args.kind.now c.args.state.now at l f) c.places.at line.0 c.places.first c.in_ok-fault.fault line.1
          c.places.invariant.first (c.in_ok-fault.ensures.first line.0 line.1));
    }

pub returns : goal.returns
returns c = first-all c.args.state.now.code (λ at line f. LineFault c.args.program.now c.args.kind.now c.args.state.now at line f) c.places.at c.places.first (omega (arith, c.len-at-end.ensures)) c.places.invariant.first
