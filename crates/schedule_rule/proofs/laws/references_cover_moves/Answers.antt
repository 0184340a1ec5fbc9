use Rattle.schedule_rule.proofs.laws.references_cover_moves.Goals as goal
use Rattle.schedule_rule.proofs.CoveringMoveFacts.{lines-cover, reads-cover, copies-cover, drops-cover}

pub returns-clause-lines : goal.returns-clause-lines
returns-clause-lines c = lines-cover

pub returns-clause-reads : goal.returns-clause-reads
returns-clause-reads c = reads-cover

pub returns-clause-copies : goal.returns-clause-copies
returns-clause-copies c = copies-cover

pub returns-clause-drops : goal.returns-clause-drops
returns-clause-drops c = drops-cover
