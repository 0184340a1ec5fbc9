use Rattle.task_writer.proofs.Vocabulary.{Line, What, kind_names, names_in, step_of}
use Rattle.task_writer.proofs.PuttingLines.{line-more, all-lines, no-lines}
use Rattle.task_writer.proofs.line.put_code.Goals as goal

pub loop-line-init : goal.loop-line-init
loop-line-init c = no-lines c.args.out.now.items

pub loop-line-preserved : goal.loop-line-preserved
loop-line-preserved c =
    let line : Line → What = λ l. What.Step (step_of (names_in (kind_names c.args.kinds.now) c.args.kind.now c.args.state.now) l.instr) in
    line-more line c.args.code.now c.loop-line.line-index c.line-item.result c.args.out.now.items c.loop-line.out.items c.put_step.new.out.items c.loop-line-test.true c.line-item.is c.loop-line.invariant c.in_ok-put_step.ensures

pub returns : goal.returns
returns c =
    let line : Line → What = λ l. What.Step (step_of (names_in (kind_names c.args.kinds.now) c.args.kind.now c.args.state.now) l.instr) in
    all-lines line c.args.code.now c.loop-line.line-index c.args.out.now.items c.loop-line.out.items c.loop-line-test.false c.loop-line.invariant
