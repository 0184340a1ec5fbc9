use Rattle.run_model.proofs.Traversal.{step_moves, root_moves}
use Rattle.run_model.proofs.laws.steps_are_moves.Goals as goal

pub returns-clause-step : goal.returns-clause-step
returns-clause-step c = step_moves

pub returns-clause-root : goal.returns-clause-root
returns-clause-root c = root_moves
