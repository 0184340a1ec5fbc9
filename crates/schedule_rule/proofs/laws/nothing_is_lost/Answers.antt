use Rattle.schedule_rule.proofs.laws.nothing_is_lost.Goals as goal
use Rattle.schedule_rule.proofs.OverFacts.{quiet-is_over, held-are_records, limit-is_met}

pub returns-clause-quiet : goal.returns-clause-quiet
returns-clause-quiet c = quiet-is_over

pub returns-clause-held : goal.returns-clause-held
returns-clause-held c = held-are_records

pub returns-clause-limit : goal.returns-clause-limit
returns-clause-limit c = limit-is_met
