use Rattle.plain_state.proofs.OwnLaws.{running_frames, advance_is_steps, copy_is_step, drop_is_step}
use Rattle.plain_state.proofs.ReadLaw.{read_is_step}
use Rattle.plain_state.proofs.RetryLaw.{retry_is_step}
use Rattle.plain_state.proofs.RespawnLaw.{respawn_is_step}
use Rattle.plain_state.proofs.line_laws.lines.Goals as goal

pub returns-clause-frames : goal.returns-clause-frames
returns-clause-frames c = running_frames

pub returns-clause-advance : goal.returns-clause-advance
returns-clause-advance c = advance_is_steps

pub returns-clause-copy : goal.returns-clause-copy
returns-clause-copy c = copy_is_step

pub returns-clause-drop : goal.returns-clause-drop
returns-clause-drop c = drop_is_step

pub returns-clause-read : goal.returns-clause-read
returns-clause-read c = read_is_step

pub returns-clause-retry : goal.returns-clause-retry
returns-clause-retry c = retry_is_step

pub returns-clause-respawn : goal.returns-clause-respawn
returns-clause-respawn c = respawn_is_step
