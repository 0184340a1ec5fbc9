use Rattle.step_table.specs.Passes.{view, IsOf}
use Rattle.reference_rows.specs.Hands.{IsHand}
use Rattle.reference_rows.proofs.random.turns.Given as goal

abbrev pub invariant-loop-number : goal.invariant-loop-number
invariant-loop-number g l = IsOf l.shared l.pass × IsHand l.hand.futures l.hand.own (view l.pass)
