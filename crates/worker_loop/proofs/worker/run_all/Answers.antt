use Rattle.std.proofs.Common.{subst, arith}
use Rattle.step_table.specs.Passes.{IsOf}
use Rattle.worker_loop.specs.Serving.{HasWorked}
use Rattle.worker_loop.proofs.worker.run_all.Goals as goal

pub returns : goal.returns
returns g c = record {
  tables = λ k d low.
      let at = (c.for_each_mut.ensures k d (omega (arith, low, c.for_each_mut.auto.s))).1 in
      subst (λ w. IsOf c.args.scheduler.now.shared w.pass) at.left at.call.0;
  stores = λ k d low.
      let at = (c.for_each_mut.ensures k d (omega (arith, low, c.for_each_mut.auto.s))).1 in
      subst (λ w. g.Q.ReadyStore.is_pass c.args.scheduler.now.ready w.qpass) at.left at.call.1;
  worked = λ k d low.
      let at = (c.for_each_mut.ensures k d (omega (arith, low, c.for_each_mut.auto.s))).1 in
      subst (λ w. HasWorked w.worked w.pass) at.left at.call.2;
}
