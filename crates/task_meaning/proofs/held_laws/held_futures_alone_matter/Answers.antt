use Rattle.task_meaning.proofs.HeldFutures.{held-alone, held-tasks, unheld-goes}
use Rattle.task_meaning.proofs.held_laws.held_futures_alone_matter.Goals as goal

pub returns-clause-place : goal.returns-clause-place
returns-clause-place c = held-alone

pub returns-clause-frame : goal.returns-clause-frame
returns-clause-frame c = held-tasks

pub returns-clause-given_up : goal.returns-clause-given_up
returns-clause-given_up c = unheld-goes
