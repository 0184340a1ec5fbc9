use Rattle.schedule_rule.proofs.laws.held_names_move.Goals as goal
use Rattle.schedule_rule.proofs.HeldNameFacts.{lines-hold, reads-hold, puts-hold, drops-hold}

pub returns-clause-lines : goal.returns-clause-lines
returns-clause-lines c = lines-hold

pub returns-clause-reads : goal.returns-clause-reads
returns-clause-reads c = reads-hold

pub returns-clause-puts : goal.returns-clause-puts
returns-clause-puts c = puts-hold

pub returns-clause-drops : goal.returns-clause-drops
returns-clause-drops c = drops-hold
