use Rattle.task_check.proofs.Places.{formed-at}
use Rattle.task_check.proofs.Sound.{sound-held, sound-settled}
use Rattle.task_check.proofs.laws.asked_is_there.Goals as goal

pub returns : goal.returns
returns c = λ p formed valid kind state s at instr stands f way.
    let formed_instr = formed-at p kind state ((formed.kinds s.kind_at kind s.is_kind).states s.state_at state s.is_state) at instr stands in
    let sound = ((valid.kinds s.kind_at kind s.is_kind).states s.state_at state s.is_state).instrs at instr stands in
    (λ i x e. sound-held p kind state at instr formed_instr sound i x e f way, λ i x e. sound-settled p kind state at instr sound i x e f way)
