use Rattle.run_report.proofs.CausePaths.{paths_are_whole}
use Rattle.run_report.proofs.laws.paths_are_whole.Goals as goal

pub returns : goal.returns
returns c = record { law = paths_are_whole }
