use Rattle.task_writer.specs.Lines.{kind_names, state_lines}
use Rattle.task_writer.proofs.PuttingLines.{lines-more, all-flat, no-lines}
use Rattle.task_writer.proofs.line.put_states.Goals as goal

pub loop-state-init : goal.loop-state-init
loop-state-init c = no-lines c.args.out.now.items

pub loop-state-preserved : goal.loop-state-preserved
loop-state-preserved c =
    lines-more (state_lines (kind_names c.args.kinds.now) c.args.kind.now) c.args.states.now c.loop-state.state-index c.state-item.result c.args.out.now.items c.loop-state.out.items c.put_state.new.out.items c.loop-state-test.true c.state-item.is c.loop-state.invariant c.in_ok-put_state.ensures

pub returns : goal.returns
returns c = all-flat (state_lines (kind_names c.args.kinds.now) c.args.kind.now) c.args.states.now c.loop-state.state-index c.args.out.now.items c.loop-state.out.items c.loop-state-test.false c.loop-state.invariant
