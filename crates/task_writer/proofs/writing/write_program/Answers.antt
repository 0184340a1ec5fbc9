use Rattle.task_writer.proofs.SameProgram.{keeps_the_rest}
use Rattle.task_writer.proofs.WriteLaws.{written-reads-back, written-canonical, written-again}
use Rattle.task_writer.proofs.writing.write_program.Goals as goal

pub returns-in_err-text-clause-same : goal.returns-in_err-text-clause-same
returns-in_err-text-clause-same c = keeps_the_rest c.args.program.now

pub returns-clause-reads_back : goal.returns-clause-reads_back
returns-clause-reads_back c = written-reads-back c.args.program.now c.in_ok-text.text.items c.requires c.in_ok-text.ensures

pub returns-clause-same : goal.returns-clause-same
returns-clause-same c = keeps_the_rest c.args.program.now

pub returns-clause-canonical : goal.returns-clause-canonical
returns-clause-canonical c = written-canonical c.args.program.now c.in_ok-text.text.items c.requires c.in_ok-text.ensures

pub returns-clause-again : goal.returns-clause-again
returns-clause-again c = written-again c.args.program.now c.in_ok-text.text.items c.in_ok-text.ensures
