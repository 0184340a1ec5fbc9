use Rattle.step_table.proofs.shared.Shared.found.Goals as goal
use Rattle.std.proofs.Common.{refl, arith}
use Rattle.schedule_rule.proofs.RecordKinds.{founds-at}
use Rattle.step_table.specs.Passes.{block_of}
use Rattle.step_table.proofs.RecordStepping.{state-there}

pub store_as-requires-clause-word : goal.store_as-requires-clause-word
store_as-requires-clause-word c =
    record { place = c.state_word-word.ensures; there = state-there c.args.self.now.setup.plan c.args.block.unit c.requires.hand.is_block.inside; written = refl }

pub store_as-requires-clause-rule : goal.store_as-requires-clause-rule
store_as-requires-clause-rule c =
    let seat = c.args.pass.now.seat in
    founds-at c.args.self.now.setup seat.id seat.me.0 (block_of c.args.block) c.requires.hand.there c.requires.fresh (omega (arith, c.args.pass.now.shares))

pub returns-clause-made : goal.returns-clause-made
returns-clause-made c = let told = c.store_as.ensures.told in record { unit_is = refl; class_is = refl; found = told.0; view_is = told.1 }
