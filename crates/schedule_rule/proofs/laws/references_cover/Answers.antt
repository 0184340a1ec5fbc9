use Rattle.schedule_rule.proofs.laws.references_cover.Goals as goal
use Rattle.schedule_rule.proofs.CoveringFacts.{more-cover, fewer-cover, acts-cover, acts-move}

pub returns-clause-more : goal.returns-clause-more
returns-clause-more c = more-cover

pub returns-clause-without : goal.returns-clause-without
returns-clause-without c = fewer-cover

pub returns-clause-acts : goal.returns-clause-acts
returns-clause-acts c = acts-cover

pub returns-clause-moves : goal.returns-clause-moves
returns-clause-moves c = acts-move
