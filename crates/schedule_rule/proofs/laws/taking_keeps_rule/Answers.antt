use Rattle.schedule_rule.proofs.laws.taking_keeps_rule.Goals as goal
use Rattle.schedule_rule.proofs.TakingKinds.{takes-at}

pub returns : goal.returns
returns c = takes-at
