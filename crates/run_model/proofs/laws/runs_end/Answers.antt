use Rattle.run_model.proofs.RunsEnd.{run_ends}
use Rattle.run_model.proofs.laws.runs_end.Goals as goal

pub returns : goal.returns
returns c p columns plan formed valid = run_ends p formed valid columns plan
