use Rattle.step_table.proofs.shared.Shared.settle.Goals as goal
use Rattle.schedule_rule.proofs.PoolKinds.{settles-at}
use Rattle.std.proofs.Common.{arith, refl}
use Rattle.step_table.proofs.Stepping.{super-there}

pub fetch_sub_as-requires-clause-word : goal.fetch_sub_as-requires-clause-word
fetch_sub_as-requires-clause-word c = record { place = c.super_word-word.ensures; there = super-there c.args.self.now.setup.plan c.args.debt.superblock c.requires.hand.superblock; written = refl }

pub fetch_sub_as-requires-clause-rule : goal.fetch_sub_as-requires-clause-rule
fetch_sub_as-requires-clause-rule c = settles-at c.args.self.now.setup c.args.pass.now.seat.id c.args.pass.now.seat.me.0 c.args.debt.superblock c.args.debt.class
    c.requires.hand.superblock (omega (arith, c.args.pass.now.shares)) c.requires.hand.there

pub returns-clause-view : goal.returns-clause-view
returns-clause-view c = record { found = c.fetch_sub_as.result; view_is = c.fetch_sub_as.ensures.told }
