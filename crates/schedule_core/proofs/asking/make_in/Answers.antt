use Rattle.step_table.specs.Passes.{view, block_of}
use Rattle.schedule_core.proofs.Beginning.{may-see_drawn, leave-block, answer-block, begins-made, meets-limit}
use Rattle.schedule_core.proofs.asking.make_in.Goals as goal

pub see_drawn-requires : goal.see_drawn-requires
see_drawn-requires g c = (c.requires.0, may-see_drawn c.args.shared.now.setup c.args.block.class g.asking c.requires.1.base (view c.args.pass.now) (block_of c.args.block) c.requires.1.gives c.requires.1.may)

pub found-requires-clause-hand : goal.found-requires-clause-hand
found-requires-clause-hand g c =
    let s = c.if-see_drawn.ensures.drawn in let may = c.requires.1 in
    leave-block c.args.shared.now.setup c.args.block.class g.asking may.base (view c.args.pass.now) c.args.block may.gives may.later s.0 (view c.see_drawn.new.pass) s.2

pub found-requires-clause-fresh : goal.found-requires-clause-fresh
found-requires-clause-fresh g c = c.requires.1.gives.fresh

pub returns-then-see_drawn-clause-made : goal.returns-then-see_drawn-clause-made
returns-then-see_drawn-clause-made g c base gives later =
    let s = c.if-see_drawn.ensures.drawn in let made = c.found.ensures.made in
    begins-made c.args.shared.now.setup c.args.block.class g.asking base (view c.args.pass.now) c.args.block gives later s.0 (view c.see_drawn.new.pass) c.found.result made.found (view c.found.new.pass) made.unit_is
    made.class_is s.2 made.view_is c.found.ensures.sound.after

pub release-requires-clause-hand : goal.release-requires-clause-hand
release-requires-clause-hand g c =
    let s = c.if-see_drawn.ensures.drawn in let may = c.requires.1 in
    answer-block c.args.shared.now.setup c.args.block.class g.asking may.base (view c.args.pass.now) c.args.block may.gives may.later s.0 (view c.see_drawn.new.pass) s.2

pub returns-else-see_drawn-clause-made : goal.returns-else-see_drawn-clause-made
returns-else-see_drawn-clause-made g c base gives later =
    let s = c.if-see_drawn.ensures.drawn in let gone = c.release.ensures.view in
    meets-limit c.args.shared.now.setup c.args.block.class g.asking base (view c.args.pass.now) c.args.block gives later s.0 (view c.see_drawn.new.pass) gone.found gone.counted (view c.release.new.pass) s.2 s.1
    gone.view_is
