use Rattle.schedule_rule.proofs.laws.steps_keep_rule.Goals as goal
use Rattle.schedule_rule.proofs.PoolKinds.{looks-at, reserves-at, claims-at, clears-at, settles-at, glances-at}
use Rattle.schedule_rule.proofs.RecordKinds.{founds-at, unmakes-at}
use Rattle.schedule_rule.proofs.RetireKinds.{retires-at}
use Rattle.schedule_rule.proofs.FillKinds.{fills-at, filled-word}
use Rattle.schedule_rule.proofs.ReferenceKinds.{reads-at, sees-state-at, mores-at, lessens-at, gives-up-at}

pub returns-clause-pool : goal.returns-clause-pool
returns-clause-pool c g id v = (looks-at g id v, reserves-at g id v, claims-at g id v, clears-at g id v, settles-at g id v, glances-at g id v)

pub returns-clause-records : goal.returns-clause-records
returns-clause-records c g id v = (
  founds-at g id v,
  unmakes-at g id v,
  retires-at g id v,
  λ a n mine may. fills-at g id v a n mine (filled-word a may),
  reads-at g id v,
  sees-state-at g id v,
)

pub returns-clause-references : goal.returns-clause-references
returns-clause-references c g id v = (mores-at g id v, lessens-at g id v, gives-up-at g id v)
