use Rattle.schedule_rule.proofs.laws.placing_keeps_rule.Goals as goal
use Rattle.schedule_rule.proofs.PlacingKindsActs.{places-for_run-at, places-for_root-at}
use Rattle.schedule_rule.proofs.PlacingKindsAgain.{places-again-at}

pub returns-clause-made : goal.returns-clause-made
returns-clause-made c g id v = (places-for_run-at g id v, places-for_root-at g id v)

pub returns-clause-again : goal.returns-clause-again
returns-clause-again c g id v = places-again-at g id v
