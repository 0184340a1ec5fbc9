use Rattle.schedule_rule.proofs.laws.held_names_begin.Goals as goal
use Rattle.schedule_rule.proofs.HeldNameFacts.{entered-hold, entries-hold, acts-name, spawns-pass}

pub returns-clause-entered : goal.returns-clause-entered
returns-clause-entered c = entered-hold

pub returns-clause-entries : goal.returns-clause-entries
returns-clause-entries c = entries-hold

pub returns-clause-acts : goal.returns-clause-acts
returns-clause-acts c = acts-name

pub returns-clause-passes : goal.returns-clause-passes
returns-clause-passes c = spawns-pass
