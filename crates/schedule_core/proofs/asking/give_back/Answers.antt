use Rattle.step_table.specs.Passes.{view}
use Rattle.schedule_core.proofs.Beginning.{gives-back, has-back, block-at}
use Rattle.schedule_core.proofs.asking.give_back.Goals as goal

pub release-requires-clause-hand : goal.release-requires-clause-hand
release-requires-clause-hand c =
    let g = c.args.shared.now.setup in let was = c.unmake-block.ensures.block in
    has-back g c.args.made c.unmake-block.result (view c.args.pass.now) (view c.unmake-block.new.pass) was.found was.block_is was.view_is (block-at g c.args.made (view c.args.pass.now) c.requires.may)

pub returns-clause-back : goal.returns-clause-back
returns-clause-back c =
    let was = c.unmake-block.ensures.block in let gone = c.release.ensures.view in
    gives-back c.args.shared.now.setup c.args.made c.unmake-block.result (view c.args.pass.now) (view c.unmake-block.new.pass) (view c.release.new.pass) was.found gone.found gone.counted
    was.block_is was.view_is gone.view_is
