use Rattle.task_meaning.proofs.Renaming.{act-renamed}
use Rattle.task_meaning.proofs.worth_laws.acts_keep_under_names.Goals as goal

pub returns : goal.returns
returns c d instr name q = act-renamed name d instr q
