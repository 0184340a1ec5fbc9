use Rattle.step_table.proofs.shared.Shared.live_up.Goals as goal
use Rattle.std.proofs.Common.{refl, arith}
use Rattle.step_table.proofs.LivingStepping.{counts-in-value}
use Rattle.step_table.proofs.RecordStepping.{sum-there}

pub fetch_add_as-requires-clause-word : goal.fetch_add_as-requires-clause-word
fetch_add_as-requires-clause-word c = record { place = c.sum_word-word.ensures; there = sum-there c.args.self.now.setup.plan 1 (omega arith); written = refl }

pub fetch_add_as-requires-clause-rule : goal.fetch_add_as-requires-clause-rule
fetch_add_as-requires-clause-rule c =
    let pass = c.args.pass.now in counts-in-value c.args.self.now.setup pass.seat.id pass.seat.me.0 c.args.made.now.unit c.requires.may (omega (arith, pass.shares))

pub returns-clause-count : goal.returns-clause-count
returns-clause-count c = record { found = c.fetch_add_as.result; view_is = c.fetch_add_as.ensures.told }
