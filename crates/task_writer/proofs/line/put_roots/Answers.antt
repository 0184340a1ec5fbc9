use Rattle.task_writer.specs.Lines.{kind_names, root_names, root_line}
use Rattle.task_writer.proofs.PuttingLines.{line-more, all-lines, no-lines}
use Rattle.task_writer.proofs.line.put_roots.Goals as goal

pub loop-root-init : goal.loop-root-init
loop-root-init c = no-lines c.args.out.now.items

pub loop-root-preserved : goal.loop-root-preserved
loop-root-preserved c =
    line-more (root_line (kind_names c.args.kinds.now) (root_names c.args.roots.now)) c.args.roots.now c.loop-root.root-index c.root-item.result c.args.out.now.items c.loop-root.out.items c.put_root.new.out.items c.loop-root-test.true c.root-item.is c.loop-root.invariant c.in_ok-put_root.ensures

pub returns : goal.returns
returns c =
    all-lines (root_line (kind_names c.args.kinds.now) (root_names c.args.roots.now)) c.args.roots.now c.loop-root.root-index c.args.out.now.items c.loop-root.out.items c.loop-root-test.false c.loop-root.invariant
