use Rattle.schedule_rule.proofs.laws.rule_tells.Goals as goal
use Rattle.schedule_rule.proofs.SoundFacts.{sound-views}

pub returns : goal.returns
returns c = sound-views
