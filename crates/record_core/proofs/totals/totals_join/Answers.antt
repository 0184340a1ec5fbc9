use Rattle.record_core.proofs.TotalFacts.{total-sum, total-map, total-place, total-plus, total-below}
use Rattle.record_core.proofs.totals.totals_join.Goals as goal

pub returns-clause-sum : goal.returns-clause-sum
returns-clause-sum g c = total-sum

pub returns-clause-map : goal.returns-clause-map
returns-clause-map g c = total-map

pub returns-clause-plus : goal.returns-clause-plus
returns-clause-plus g c = total-plus

pub returns-clause-table : goal.returns-clause-table
returns-clause-table g c = total-below

pub returns-clause-place : goal.returns-clause-place
returns-clause-place g c = total-place
