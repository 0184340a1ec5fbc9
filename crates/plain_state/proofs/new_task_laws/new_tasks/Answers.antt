use Rattle.plain_state.proofs.SpawnLaws.{spawn_is_step, spawn_at_the_limit, null_is_step}
use Rattle.plain_state.proofs.new_task_laws.new_tasks.Goals as goal

pub returns-clause-spawned : goal.returns-clause-spawned
returns-clause-spawned c = spawn_is_step

pub returns-clause-limit : goal.returns-clause-limit
returns-clause-limit c = spawn_at_the_limit

pub returns-clause-no_block : goal.returns-clause-no_block
returns-clause-no_block c = null_is_step
