use Rattle.task_writer.specs.Lines.{kind_names, kind_lines}
use Rattle.task_writer.proofs.PuttingLines.{lines-more, all-flat, no-lines}
use Rattle.task_writer.proofs.line.put_kinds.Goals as goal

pub loop-kind-init : goal.loop-kind-init
loop-kind-init c = no-lines c.args.out.now.items

pub loop-kind-preserved : goal.loop-kind-preserved
loop-kind-preserved c =
    lines-more (kind_lines (kind_names c.args.kinds.now)) c.args.kinds.now c.loop-kind.kind-index c.kind-item.result c.args.out.now.items c.loop-kind.out.items c.put_kind.new.out.items c.loop-kind-test.true c.kind-item.is c.loop-kind.invariant c.in_ok-put_kind.ensures

pub returns : goal.returns
returns c = all-flat (kind_lines (kind_names c.args.kinds.now)) c.args.kinds.now c.loop-kind.kind-index c.args.out.now.items c.loop-kind.out.items c.loop-kind-test.false c.loop-kind.invariant
