use Rattle.step_table.specs.Passes.{IsOf}
use Rattle.reference_rows.proofs.random.check_free.Given as goal

abbrev pub invariant-loop-unit : goal.invariant-loop-unit
invariant-loop-unit g l = IsOf l.shared l.pass
