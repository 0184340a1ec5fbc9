use Rattle.task_check.proofs.KnownHeld.{known-held}
use Rattle.task_check.proofs.laws.known_is_held.Goals as goal

pub returns : goal.returns
returns c p formed valid kind state s = known-held p kind state ((valid.kinds s.kind_at kind s.is_kind).states s.state_at state s.is_state)
