use Rattle.task_writer.proofs.SameProgram.{keeps_the_rest}
use Rattle.task_writer.proofs.laws.keeps_the_rest.Goals as goal

pub returns : goal.returns
returns c = keeps_the_rest
