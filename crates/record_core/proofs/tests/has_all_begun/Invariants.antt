use Rattle.std.proofs.Common.{◌≡◌, ◌≤◌, ℕ}
use Rattle.std.specs.Prelude.{Some, IsSome}
use Rattle.record_core.specs.Numbers.{by_number}
use Rattle.record_core.specs.declared.rows.ActivationRow.{ActivationRow}
use Rattle.record_core.proofs.tests.has_all_begun.Given as goal

abbrev pub invariant-loop-before : goal.invariant-loop-before
invariant-loop-before l = (n : ℕ) (row : ActivationRow) → n ≤ l.before → by_number l.journal.rows n ≡ Some row → row.task ≡ l.task → IsSome row.start
