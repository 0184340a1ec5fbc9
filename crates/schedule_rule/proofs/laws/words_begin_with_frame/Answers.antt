use Rattle.schedule_rule.proofs.laws.words_begin_with_frame.Goals as goal
use Rattle.schedule_rule.proofs.FrontFacts.{front-says, front-whole}

pub returns-clause-bodies : goal.returns-clause-bodies
returns-clause-bodies c = front-says

pub returns-clause-whole : goal.returns-clause-whole
returns-clause-whole c = front-whole
