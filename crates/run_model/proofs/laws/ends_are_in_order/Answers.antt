use Rattle.run_model.proofs.EndLaws.{ends_in_order}
use Rattle.run_model.proofs.laws.ends_are_in_order.Goals as goal

pub returns : goal.returns
returns c = ends_in_order
