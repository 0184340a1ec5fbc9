use Rattle.std.proofs.Common.{◌≡◌, ◌++◌, drop}
use Rattle.task_syntax.specs.Facts.{has}
use Rattle.task_check.specs.Asks.{root_in, passed}
use Rattle.task_check.proofs.asks.roots_settled.Given as goal

abbrev pub invariant-arguments : goal.invariant-arguments
invariant-arguments l = l.roots.items ++ passed root_in (λ at. has at l.settled) l.i (drop l.i l.arguments) ≡ passed root_in (λ at. has at l.settled) 0 l.arguments
