use Rattle.record_core.proofs.CountFacts.{dropped-first, dropped-none, dropped-one, total-dropped}
use Rattle.record_core.proofs.counts.first_dropped.Goals as goal

pub returns-clause-first : goal.returns-clause-first
returns-clause-first g c = dropped-first

pub returns-clause-none : goal.returns-clause-none
returns-clause-none g c = dropped-none

pub returns-clause-one : goal.returns-clause-one
returns-clause-one g c = dropped-one

pub returns-clause-total : goal.returns-clause-total
returns-clause-total g c = total-dropped
