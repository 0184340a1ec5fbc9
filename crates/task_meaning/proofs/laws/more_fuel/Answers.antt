use Rattle.task_meaning.specs.Laws.{IsKeptBy}
use Rattle.task_meaning.specs.Meant.{Meant}
use Rattle.task_meaning.proofs.Grows.{Within, Stays-at}
use Rattle.task_meaning.proofs.Fuel.{rest-within, mean-within}
use Rattle.task_meaning.proofs.RootsFuel.{root_value-stays, roots_counts-stay}
use Rattle.task_meaning.proofs.laws.more_fuel.Goals as goal

kept : (m more : Meant) → Within m more → IsKeptBy m more
kept m more h = (Stays-at m.value more.value h.value, Stays-at m.counts more.counts h.counts)

pub returns-clause-rest : goal.returns-clause-rest
returns-clause-rest c p d n m q e = kept _ _ (rest-within p d n m q e)

pub returns-clause-mean : goal.returns-clause-mean
returns-clause-mean c p d n m call e = kept _ _ (mean-within p d n m call e)

pub returns-clause-roots : goal.returns-clause-roots
returns-clause-roots c p d n m e = (λ at. Stays-at _ _ (root_value-stays p d n m at e), Stays-at _ _ (roots_counts-stay p d n m e))
