use Rattle.record_core.proofs.CountFacts.{passing-cons, passing-snoc, passing-dropped, passing-kept, passing-set}
use Rattle.record_core.proofs.counts.counts_change.Goals as goal

pub returns-clause-cons : goal.returns-clause-cons
returns-clause-cons g c = passing-cons

pub returns-clause-snoc : goal.returns-clause-snoc
returns-clause-snoc g c = passing-snoc

pub returns-clause-dropped : goal.returns-clause-dropped
returns-clause-dropped g c = passing-dropped

pub returns-clause-kept : goal.returns-clause-kept
returns-clause-kept g c = passing-kept

pub returns-clause-set : goal.returns-clause-set
returns-clause-set g c = passing-set
