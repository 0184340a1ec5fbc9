use Rattle.step_table.specs.Passes.{view}
use Rattle.table_records.proofs.StageFacts.{maker-stays}
use Rattle.reference_rows.proofs.filling.add_all.Goals as goal

pub add_done-requires-clause-maker : goal.add_done-requires-clause-maker
add_done-requires-clause-maker g c = maker-stays c.args.shared.now.setup c.args.maker.now (view c.args.pass.now) (view c.loop-record.pass) c.loop-record.invariant.1 c.requires.maker
