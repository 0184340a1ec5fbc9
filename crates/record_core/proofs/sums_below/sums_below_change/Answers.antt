use Rattle.record_core.proofs.BelowFacts.{below-set, below-set_two, below-rises, below-append, below-front, below-plus}
use Rattle.record_core.proofs.sums_below.sums_below_change.Goals as goal

pub returns-clause-set : goal.returns-clause-set
returns-clause-set c = below-set

pub returns-clause-set_two : goal.returns-clause-set_two
returns-clause-set_two c = below-set_two

pub returns-clause-rises : goal.returns-clause-rises
returns-clause-rises c = below-rises

pub returns-clause-append : goal.returns-clause-append
returns-clause-append c = below-append

pub returns-clause-plus : goal.returns-clause-plus
returns-clause-plus c = below-plus

pub returns-clause-front : goal.returns-clause-front
returns-clause-front c = below-front
