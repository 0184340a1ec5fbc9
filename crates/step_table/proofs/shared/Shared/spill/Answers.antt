use Rattle.step_table.proofs.shared.Shared.spill.Goals as goal
use Rattle.std.proofs.Common.{refl, arith}
use Rattle.schedule_rule.proofs.LiveKinds.{spills-at}
use Rattle.step_table.proofs.RecordStepping.{sum-there}

pub store_as-requires-clause-word : goal.store_as-requires-clause-word
store_as-requires-clause-word c = record { place = c.sum_word-word.ensures; there = sum-there c.args.self.now.setup.plan 4 (omega arith); written = refl }

pub store_as-requires-clause-rule : goal.store_as-requires-clause-rule
store_as-requires-clause-rule c = let seat = c.args.pass.now.seat in spills-at c.args.self.now.setup seat.id seat.me.0

pub returns-clause-spill : goal.returns-clause-spill
returns-clause-spill c = let told = c.store_as.ensures.told in record { found = told.0; view_is = told.1 }
