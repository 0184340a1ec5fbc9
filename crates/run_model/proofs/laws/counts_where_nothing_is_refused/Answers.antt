use Rattle.run_model.proofs.CountsUnrefused.{counts_unrefused}
use Rattle.run_model.proofs.laws.counts_where_nothing_is_refused.Goals as goal

pub returns : goal.returns
returns c = counts_unrefused
