use Rattle.task_check.proofs.Places.{decided}
use Rattle.task_check.proofs.laws.each_place_has_way.Goals as goal

pub returns : goal.returns
returns c = λ p formed kind state s at inside.
    (decided p kind state ((formed.kinds s.kind_at kind s.is_kind).states s.state_at state s.is_state) at inside).1.some
