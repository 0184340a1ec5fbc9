use Rattle.record_core.proofs.RoomFacts.{none_left_out}
use Rattle.record_core.proofs.end_laws.counted_ends.Goals as goal

pub returns : goal.returns
returns c = none_left_out
