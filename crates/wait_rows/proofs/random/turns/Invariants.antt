use Rattle.std.proofs.Common.{◌≡◌, vec_len}
use Rattle.step_table.specs.Passes.{view, IsOf}
use Rattle.wait_rows.specs.Hands.{IsHand}
use Rattle.wait_rows.proofs.random.turns.Given as goal

abbrev pub invariant-loop-number : goal.invariant-loop-number
invariant-loop-number g l = record {
  table : IsOf l.shared l.pass;
  hand : IsHand l.shared.setup.plan l.hand (view l.pass);
  count : vec_len l.hand.stages ≡ 32;
}
