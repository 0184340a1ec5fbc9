-- Each call leaves a name behind.
use Rattle.std.proofs.Common.{length}
use Rattle.task_syntax.proofs.columns.+cells_beside.Given as goal

abbrev pub decreases-cells_beside : goal.decreases-cells_beside
decreases-cells_beside l = length l.names.now
