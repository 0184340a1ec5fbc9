use Rattle.step_table.specs.Passes.{view, IsOf}
use Rattle.reference_rows.specs.Hands.{IsHand}
use Rattle.reference_rows.proofs.random.drain_all.Given as goal

abbrev pub invariant-loop-unit : goal.invariant-loop-unit
invariant-loop-unit g l = IsOf l.shared l.pass × IsHand l.hand.futures l.hand.own (view l.pass)
