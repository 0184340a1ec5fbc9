use Rattle.step_table.proofs.shared.Shared.unmake.Goals as goal
use Rattle.std.proofs.Common.{refl, arith}
use Rattle.step_table.proofs.RecordStepping.{state-there, unmakes-value}

pub state_word-word-requires : goal.state_word-word-requires
state_word-word-requires c = c.requires.may.at.is_block.inside

pub store_as-requires-clause-word : goal.store_as-requires-clause-word
store_as-requires-clause-word c =
    record { place = c.state_word-word.ensures; there = state-there c.args.self.now.setup.plan c.args.made.unit c.requires.may.at.is_block.inside; written = refl }

pub store_as-requires-clause-rule : goal.store_as-requires-clause-rule
store_as-requires-clause-rule c =
    let seat = c.args.pass.now.seat in unmakes-value c.args.self.now.setup seat.id seat.me.0 c.args.made.unit c.args.made.class c.requires.may (omega (arith, c.args.pass.now.shares))

pub returns-clause-block : goal.returns-clause-block
returns-clause-block c = let told = c.store_as.ensures.told in record { block_is = refl; found = told.0; view_is = told.1 }
