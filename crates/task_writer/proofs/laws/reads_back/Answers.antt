use Rattle.task_writer.proofs.ReadBack.{reads_back}
use Rattle.task_writer.proofs.laws.reads_back.Goals as goal

pub returns : goal.returns
returns c = reads_back
