use Rattle.std.proofs.Common.{◌≡◌, ◌++◌, true, drop}
use Rattle.task_check.specs.Asks.{future_in, passed}
use Rattle.task_check.proofs.asks.futures_of.Given as goal

abbrev pub invariant-arguments : goal.invariant-arguments
invariant-arguments l = l.futures.items ++ passed future_in (λ _. true) l.i (drop l.i l.arguments) ≡ passed future_in (λ _. true) 0 l.arguments
