use Rattle.std.proofs.Common.{◌≡◌, vec_len}
use Rattle.step_table.specs.Passes.{view, IsOf}
use Rattle.wait_rows.specs.Hands.{IsHand}
use Rattle.wait_bench.proofs.steps.join_all.Given as goal

abbrev pub invariant-loop-member : goal.invariant-loop-member
invariant-loop-member l = record {
  table : IsOf l.shared l.pass;
  hand : IsHand l.shared.setup.plan l.hand (view l.pass);
  count : vec_len l.hand.stages ≡ vec_len l.fn.hand.stages;
}
