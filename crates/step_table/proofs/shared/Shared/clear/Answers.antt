use Rattle.step_table.proofs.shared.Shared.clear.Goals as goal
use Rattle.std.proofs.Common.{refl, arith}
use Rattle.schedule_rule.proofs.PoolKinds.{clears-at}
use Rattle.step_table.specs.Passes.{block_of}
use Rattle.step_table.proofs.Stepping.{block-there}

pub fetch_and_as-requires-clause-word : goal.fetch_and_as-requires-clause-word
fetch_and_as-requires-clause-word c =
    let g = c.args.self.now.setup.plan in let is = c.requires.hand.is_block in
    record { place = c.bit_word-word.ensures; there = block-there g c.args.block.unit c.args.block.class is; written = refl }

pub fetch_and_as-requires-clause-rule : goal.fetch_and_as-requires-clause-rule
fetch_and_as-requires-clause-rule c =
    clears-at c.args.self.now.setup c.args.pass.now.seat.id c.args.pass.now.seat.me.0 (block_of c.args.block) (omega (arith, c.args.pass.now.shares)) c.requires.hand.there

pub returns-clause-view : goal.returns-clause-view
returns-clause-view c = record { debt_is = refl; found = c.fetch_and_as.result; view_is = c.fetch_and_as.ensures.told }
