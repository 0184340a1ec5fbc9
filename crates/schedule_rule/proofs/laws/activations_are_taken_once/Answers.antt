use Rattle.schedule_rule.proofs.laws.activations_are_taken_once.Goals as goal
use Rattle.schedule_rule.proofs.StartFacts.{taken-once, runs-once, runs-behind_none, ready-behind_none}
use Rattle.schedule_rule.proofs.LostFacts.{taken-runs_or_is_over}

pub returns-clause-taken : goal.returns-clause-taken
returns-clause-taken c = taken-once

pub returns-clause-runs : goal.returns-clause-runs
returns-clause-runs c = runs-once

pub returns-clause-behind : goal.returns-clause-behind
returns-clause-behind c = runs-behind_none

pub returns-clause-ready : goal.returns-clause-ready
returns-clause-ready c = ready-behind_none

pub returns-clause-kept : goal.returns-clause-kept
returns-clause-kept c = taken-runs_or_is_over
