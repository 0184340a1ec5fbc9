use Rattle.std.proofs.Common.{◌≡◌, vec_len}
use Rattle.step_table.specs.Passes.{view, IsOf}
use Rattle.step_table.specs.ListHands.{IsChain}
use Rattle.wait_rows.specs.Hands.{IsHand}
use Rattle.wait_bench.proofs.steps.take_all.Given as goal

abbrev pub invariant-records : goal.invariant-records
invariant-records l = record {
  table : IsOf l.shared l.pass;
  hand : IsHand l.shared.setup.plan l.hand (view l.pass);
  chain : IsChain l.shared.setup.plan l.chain (view l.pass);
  count : vec_len l.hand.stages ≡ vec_len l.fn.hand.stages;
}

abbrev pub decreases-records : goal.decreases-records
decreases-records l = l.chain.length
