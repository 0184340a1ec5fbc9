use Rattle.task_meaning.proofs.RootsInTurn.{roots-are_calls, roots-add_up}
use Rattle.task_meaning.proofs.act_laws.roots_in_turn.Goals as goal

pub returns-clause-value : goal.returns-clause-value
returns-clause-value c = roots-are_calls

pub returns-clause-counts : goal.returns-clause-counts
returns-clause-counts c = roots-add_up
