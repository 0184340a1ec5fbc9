use Rattle.frame_code.proofs.NameChanges.{name-changes}
use Rattle.frame_code.proofs.laws.one_name_changes.Goals as goal

pub returns : goal.returns
returns c = name-changes
