use Rattle.std.proofs.Common.{ℕ, sym, subst}
use Rattle.step_table.specs.Passes.{view}
use Rattle.worker_loop.specs.Working.{Stands}
use Rattle.worker_loop.proofs.turn.run_taken.Goals as goal

pub returns-then-serve-clause-turns : goal.returns-then-serve-clause-turns
returns-then-serve-clause-turns g c = c.if-serve.ensures.served

pub returns-else-serve-clause-turns : goal.returns-else-serve-clause-turns
returns-else-serve-clause-turns g c = subst (λ (n : ℕ). Stands n (view c.serve.new.worker.pass)) (sym c.number-number.ensures) c.if-serve.ensures.served
