use Rattle.std.proofs.Common.{arith, ◌≡◌, ap, length}
use Rattle.tool_io.proofs.Appended.{all_but_more}
use Rattle.tool_io.proofs.put.put_all.Goals as goal

pub loop-rest-preserved : goal.loop-rest-preserved
loop-rest-preserved g c = record {
  taken = rw c.split_at.ensures.back (all_but_more _ _ _ _ _ c.in_ok-count.count c.loop-rest.invariant.taken c.in_ok-count.ensures.bytes);
  never_fell = omega (arith, c.loop-rest.invariant.never_fell, c.in_ok-count.ensures.cause);
  unasked = λ none. absurd (let empty = (c.loop-rest.invariant.unasked none).0 in let short : length c.loop-rest.rest.now ≡ 0 = ap length empty in grind (arith, short, c.is_empty.ensures, c.loop-rest-test.true));
}
