use Rattle.task_writer.proofs.PuttingSteps.{on-ok, spawn-step}
use Rattle.task_writer.proofs.instr.put_future_step.Goals as goal

pub returns-in_ok-put_spawn-in-Spawn : goal.returns-in_ok-put_spawn-in-Spawn
returns-in_ok-put_spawn-in-Spawn c state =
    let s = c.in-Spawn in
    on-ok c.put_spawn_end.result
    (spawn-step c.args.out.now.items c.put_spawn.new.out.items c.put_spawn_end.new.out.items c.args.kinds.now c.args.kind.now state c.args.instr.now c.as_slice-variables.result.now s.arguments c.as_slice.result.now s.to s.callee s.behind s.priority s.retry
    c.as_slice-variables.ensures c.as_slice.ensures s.is c.in_ok-put_spawn-in-Spawn.ensures)
    c.put_spawn_end.ensures
