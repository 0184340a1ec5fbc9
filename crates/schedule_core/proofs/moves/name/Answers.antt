use Rattle.step_table.specs.Passes.{view}
use Rattle.schedule_core.proofs.PastMoves.{named-past}
use Rattle.schedule_core.proofs.moves.name.Goals as goal

pub returns-clause-named : goal.returns-clause-named
returns-clause-named c =
    named-past c.args.shared.now.setup c.args.running.now c.put.new.running c.args.to c.args.unit (view c.args.pass.now) (view c.put.new.pass) c.put.ensures.put
