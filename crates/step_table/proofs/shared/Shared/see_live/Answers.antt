use Rattle.step_table.proofs.shared.Shared.see_live.Goals as goal
use Rattle.std.proofs.Common.{refl, arith}
use Rattle.schedule_rule.proofs.DrawKindsTotals.{sees-live-at}
use Rattle.step_table.proofs.RecordStepping.{sum-there}

pub load_as-requires-clause-word : goal.load_as-requires-clause-word
load_as-requires-clause-word c = record { place = c.sum_word-word.ensures; there = sum-there c.args.self.now.setup.plan 1 (omega arith); written = refl }

pub load_as-requires-clause-rule : goal.load_as-requires-clause-rule
load_as-requires-clause-rule c = let seat = c.args.pass.now.seat in sees-live-at c.args.self.now.setup seat.id seat.me.0

pub returns-clause-living : goal.returns-clause-living
returns-clause-living c = c.load_as.ensures.told
