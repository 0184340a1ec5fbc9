use Rattle.step_table.proofs.shared.Shared.see_spill.Goals as goal
use Rattle.std.proofs.Common.{refl, arith}
use Rattle.table_core.specs.Addresses.{sum}
use Rattle.schedule_rule.proofs.PoolKinds.{glances-at}
use Rattle.step_table.proofs.RecordStepping.{sum-there}

pub load_as-requires-clause-word : goal.load_as-requires-clause-word
load_as-requires-clause-word c = record { place = c.sum_word-word.ensures; there = sum-there c.args.self.now.setup.plan 4 (omega arith); written = refl }

pub load_as-requires-clause-rule : goal.load_as-requires-clause-rule
load_as-requires-clause-rule c m vs s says at small =
    let seat = c.args.pass.now.seat in let step = glances-at c.args.self.now.setup seat.id seat.me.0 (sum 4) m vs s says at small in
    (step.0, step.1, step.2.0, step.3)

pub returns-clause-spill : goal.returns-clause-spill
returns-clause-spill c = c.load_as.ensures.told
