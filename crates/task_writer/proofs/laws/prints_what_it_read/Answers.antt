use Rattle.task_writer.proofs.UniqueText.{prints_what_it_read}
use Rattle.task_writer.proofs.laws.prints_what_it_read.Goals as goal

pub returns : goal.returns
returns c = prints_what_it_read
