use Rattle.step_table.specs.Passes.{view, IsOf}
use Rattle.reference_rows.specs.Hands.{IsHand}
use Rattle.reference_rows.proofs.random.drain.Given as goal

abbrev pub invariant-loop-reference : goal.invariant-loop-reference
invariant-loop-reference g l = IsOf l.shared l.pass × IsHand l.hand.futures l.hand.own (view l.pass)
