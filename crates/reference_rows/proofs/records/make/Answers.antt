use Rattle.step_table.specs.Passes.{view, plan, block_of}
use Rattle.memory_pool.proofs.Holding.{has-given}
use Rattle.reference_rows.proofs.RecordFacts.{found-new}
use Rattle.reference_rows.proofs.records.make.Goals as goal

pub returns-clause-made : goal.returns-clause-made
returns-clause-made g c =
    let here = plan c.args.shared.now in
    found-new here c.in-Block.block c.allocate.new.pass c.found-made.result c.found-made.new.pass
    (has-given here 1 (view c.args.pass.now) (block_of c.in-Block.block) (view c.allocate.new.pass) c.in-Block.ensures.answer) c.found-made.ensures.made
