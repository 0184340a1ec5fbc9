use Rattle.run_model.proofs.BlockLaws.{blocks_apart}
use Rattle.run_model.proofs.laws.blocks_are_apart.Goals as goal

pub returns : goal.returns
returns c = blocks_apart
