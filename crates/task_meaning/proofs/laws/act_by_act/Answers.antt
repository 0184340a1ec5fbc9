use Rattle.task_meaning.proofs.ActByAct.{rest-follows, rest-past}
use Rattle.task_meaning.proofs.laws.act_by_act.Goals as goal

pub returns-clause-line : goal.returns-clause-line
returns-clause-line c = rest-follows

pub returns-clause-past : goal.returns-clause-past
returns-clause-past c = rest-past
