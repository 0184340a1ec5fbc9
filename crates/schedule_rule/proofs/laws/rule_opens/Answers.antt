use Rattle.schedule_rule.proofs.laws.rule_opens.Goals as goal
use Rattle.std.proofs.Common.{refl}
use Rattle.table_core.specs.Addresses.{words_of}
use Rattle.schedule_rule.proofs.Opening.{holds-first}
use Rattle.schedule_rule.proofs.Splitting.{split-all}
use Rattle.schedule_rule.proofs.Joining.{join-all}

pub returns-clause-opens : goal.returns-clause-opens
returns-clause-opens c g = holds-first g (words_of g.plan) refl

pub returns-clause-splits : goal.returns-clause-splits
returns-clause-splits c = split-all

pub returns-clause-joins : goal.returns-clause-joins
returns-clause-joins c = join-all
