use Rattle.std.proofs.Common.{refl}
use Rattle.record_core.proofs.CountFacts.{passing-some, passing-one, times-some}
use Rattle.record_core.proofs.counts.counts_tell.Goals as goal

pub returns-clause-some : goal.returns-clause-some
returns-clause-some g c = passing-some

pub returns-clause-one : goal.returns-clause-one
returns-clause-one g c = passing-one

pub returns-clause-times : goal.returns-clause-times
returns-clause-times g c = times-some

pub returns-clause-each : goal.returns-clause-each
returns-clause-each g c = λ n m l. (refl, refl)
