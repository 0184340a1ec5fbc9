use Rattle.task_writer.proofs.SameProgram.{prints_the_same}
use Rattle.task_writer.proofs.laws.prints_the_same.Goals as goal

pub returns : goal.returns
returns c = prints_the_same
