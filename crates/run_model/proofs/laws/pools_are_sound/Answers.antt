use Rattle.run_model.proofs.BlockLaws.{pools_sound}
use Rattle.run_model.proofs.laws.pools_are_sound.Goals as goal

pub returns : goal.returns
returns c = pools_sound
