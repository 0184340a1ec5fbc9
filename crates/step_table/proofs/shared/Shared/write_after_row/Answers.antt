use Rattle.step_table.proofs.shared.Shared.write_after_row.Goals as goal
use Rattle.std.proofs.Common.{refl, arith}
use Rattle.step_table.proofs.RowStepping.{writes-after-value}
use Rattle.step_table.proofs.RecordStepping.{journal-there}

pub row_word-word-requires-clause-number : goal.row_word-word-requires-clause-number
row_word-word-requires-clause-number c = c.requires.may.inside

pub store_as-requires-clause-word : goal.store_as-requires-clause-word
store_as-requires-clause-word c = record { place = c.row_word-word.ensures; there = journal-there c.args.self.now.setup.plan c.args.number 1 c.requires.may.inside (omega arith); written = refl }

pub store_as-requires-clause-rule : goal.store_as-requires-clause-rule
store_as-requires-clause-rule c =
    let pass = c.args.pass.now in
    writes-after-value c.args.self.now.setup pass.seat.id pass.seat.me.0 c.args.number c.args.behind c.word_of.result c.word_of.ensures c.requires.may (omega (arith, pass.shares))

pub returns-clause-row : goal.returns-clause-row
returns-clause-row c = let told = c.store_as.ensures.told in record { found = told.0; view_is = told.1 }
