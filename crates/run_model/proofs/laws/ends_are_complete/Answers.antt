use Rattle.run_model.proofs.CountsEnd.{ends_complete}
use Rattle.run_model.proofs.laws.ends_are_complete.Goals as goal

pub returns : goal.returns
returns c = ends_complete
