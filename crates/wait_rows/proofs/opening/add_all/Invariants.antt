use Rattle.std.proofs.Common.{◌≡◌, vec_len}
use Rattle.step_table.specs.Passes.{view, IsOf}
use Rattle.table_records.specs.Makers.{IsMaker}
use Rattle.wait_rows.specs.Making.{IsOpenHand}
use Rattle.wait_rows.proofs.opening.add_all.Given as goal

abbrev pub invariant-loop-at : goal.invariant-loop-at
invariant-loop-at g l = record {
  table : IsOf l.shared l.pass;
  maker : IsMaker l.shared.setup l.maker (view l.pass);
  hand : IsOpenHand l.shared.setup.plan l.hand (view l.pass);
  count : vec_len l.hand.stages ≡ vec_len l.fn.hand.stages;
}
