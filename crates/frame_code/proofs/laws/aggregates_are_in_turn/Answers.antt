use Rattle.frame_code.proofs.MembersInTurn.{in-turn}
use Rattle.frame_code.proofs.laws.aggregates_are_in_turn.Goals as goal

pub returns : goal.returns
returns c = in-turn
