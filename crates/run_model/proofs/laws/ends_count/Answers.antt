use Rattle.run_model.proofs.CountsUnrefused.{ends_count}
use Rattle.run_model.proofs.laws.ends_count.Goals as goal

pub returns : goal.returns
returns c = ends_count
