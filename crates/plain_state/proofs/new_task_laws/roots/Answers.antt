use Rattle.plain_state.proofs.FirstMoment.{none_asked, all_asked}
use Rattle.plain_state.proofs.RootAsked.{root_is_asked, root_may_be_asked}
use Rattle.plain_state.proofs.new_task_laws.roots.Goals as goal

pub returns-clause-first : goal.returns-clause-first
returns-clause-first c = none_asked

pub returns-clause-may : goal.returns-clause-may
returns-clause-may c = root_may_be_asked

pub returns-clause-next : goal.returns-clause-next
returns-clause-next c = root_is_asked

pub returns-clause-all : goal.returns-clause-all
returns-clause-all c = all_asked
