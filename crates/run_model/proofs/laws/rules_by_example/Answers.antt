use Rattle.run_model.proofs.RuleRuns.{rule_runs}
use Rattle.run_model.proofs.laws.rules_by_example.Goals as goal

pub returns : goal.returns
returns c = rule_runs
