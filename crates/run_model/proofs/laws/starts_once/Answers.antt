use Rattle.run_model.proofs.EndLaws.{starts_once}
use Rattle.run_model.proofs.laws.starts_once.Goals as goal

pub returns : goal.returns
returns c = starts_once
