use Rattle.std.proofs.Common.{◌≡◌, ◌++◌, drop}
use Rattle.task_syntax.specs.Facts.{has}
use Rattle.task_check.specs.Asks.{future_in, passed}
use Rattle.task_check.proofs.asks.futures_settled.Given as goal

abbrev pub invariant-arguments : goal.invariant-arguments
invariant-arguments l = l.futures.items ++ passed future_in (λ at. has at l.settled) l.i (drop l.i l.arguments) ≡ passed future_in (λ at. has at l.settled) 0 l.arguments
