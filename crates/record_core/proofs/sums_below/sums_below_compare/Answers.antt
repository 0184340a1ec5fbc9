use Rattle.record_core.proofs.BelowFacts.{below-same, below-le, below-bounded, below-member}
use Rattle.record_core.proofs.sums_below.sums_below_compare.Goals as goal

pub returns-clause-same : goal.returns-clause-same
returns-clause-same c = below-same

pub returns-clause-le : goal.returns-clause-le
returns-clause-le c = below-le

pub returns-clause-bounded : goal.returns-clause-bounded
returns-clause-bounded c = below-bounded

pub returns-clause-member : goal.returns-clause-member
returns-clause-member c = below-member
