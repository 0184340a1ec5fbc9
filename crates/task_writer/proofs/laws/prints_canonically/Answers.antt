use Rattle.task_writer.proofs.CanonicalText.{is_canonical}
use Rattle.task_writer.proofs.laws.prints_canonically.Goals as goal

pub returns : goal.returns
returns c = is_canonical
