use Rattle.record_core.proofs.TotalFacts.{total-set, total-set_two, total-snoc, total-append, total-without, without-remove}
use Rattle.record_core.proofs.totals.totals_change.Goals as goal

pub returns-clause-set : goal.returns-clause-set
returns-clause-set g c = total-set

pub returns-clause-set_two : goal.returns-clause-set_two
returns-clause-set_two g c = total-set_two

pub returns-clause-snoc : goal.returns-clause-snoc
returns-clause-snoc g c = total-snoc

pub returns-clause-append : goal.returns-clause-append
returns-clause-append g c = total-append

pub returns-clause-without : goal.returns-clause-without
returns-clause-without g c = total-without

pub returns-clause-removes : goal.returns-clause-removes
returns-clause-removes g c = without-remove
