use Rattle.std.proofs.Common.{◌-◌, ◌*◌}
use Rattle.memory_pool.proofs.tests.+spins.Given as goal

abbrev pub decreases-spin_all : goal.decreases-spin_all
decreases-spin_all g l = 2 * l.threads

abbrev pub decreases-rest : goal.decreases-rest
decreases-rest g l = 2 * l.threads - 1
