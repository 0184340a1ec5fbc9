use Rattle.std.proofs.Common.{ap}
use Rattle.task_meaning.specs.Meant.{behind}
use Rattle.task_meaning.specs.Worths.{worths}
use Rattle.task_meaning.proofs.Ahead.{jumps_ahead}
use Rattle.task_meaning.proofs.Worths.{first_frame-value, later-rest, steps-rest}
use Rattle.task_meaning.proofs.worth_laws.rests_of_frames.Goals as goal

pub returns-clause-first : goal.returns-clause-first
returns-clause-first c = first_frame-value

pub returns-clause-step : goal.returns-clause-step
returns-clause-step c p d n accepted waits q next formed at =
    ap (behind waits (worths p d n accepted)) (steps-rest p d n (jumps_ahead p formed) (worths p d n accepted) q next at)

pub returns-clause-later : goal.returns-clause-later
returns-clause-later c = later-rest
