use Rattle.task_meaning.proofs.Ahead.{jumps_ahead}
use Rattle.task_meaning.proofs.AggregateRest.{members-begin}
use Rattle.task_meaning.proofs.aggregate_laws.aggregates_begin.Goals as goal

pub returns : goal.returns
returns c p d accepted position waits q to members tasks u k formed = members-begin p d accepted (jumps_ahead p formed) position waits q to members tasks u k
