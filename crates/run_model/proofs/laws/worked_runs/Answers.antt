use Rattle.run_model.proofs.ExampleRuns.{example_runs}
use Rattle.run_model.proofs.laws.worked_runs.Goals as goal

pub returns : goal.returns
returns c = example_runs
