use Rattle.schedule_rule.proofs.laws.naming_keeps_rule.Goals as goal
use Rattle.schedule_rule.proofs.NamingKinds.{root-mores-at, names-root-at}

pub returns : goal.returns
returns c = record { roots = λ g id v. (root-mores-at g id v, names-root-at g id v) }
