use Rattle.run_model.proofs.Placed.{placed_gives}
use Rattle.run_model.proofs.laws.places_as_pools_give.Goals as goal

pub returns : goal.returns
returns c = placed_gives
