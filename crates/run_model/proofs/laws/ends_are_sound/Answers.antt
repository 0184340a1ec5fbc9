use Rattle.run_model.proofs.RootValues.{ends_sound}
use Rattle.run_model.proofs.laws.ends_are_sound.Goals as goal

pub returns : goal.returns
returns c = ends_sound
