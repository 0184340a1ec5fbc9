use Rattle.record_core.proofs.TotalFacts.{total-le, total-same, total-bounded, total-member, total-two_members}
use Rattle.record_core.proofs.totals.totals_compare.Goals as goal

pub returns-clause-le : goal.returns-clause-le
returns-clause-le g c = total-le

pub returns-clause-same : goal.returns-clause-same
returns-clause-same g c = total-same

pub returns-clause-bounded : goal.returns-clause-bounded
returns-clause-bounded g c = total-bounded

pub returns-clause-member : goal.returns-clause-member
returns-clause-member g c = total-member

pub returns-clause-two_members : goal.returns-clause-two_members
returns-clause-two_members g c = total-two_members
