use Rattle.ktask_cli.specs.RunStatus.{is_null, is_limit, is_trap}
use Rattle.ktask_cli.proofs.RootsSeen.{seen_further}
use Rattle.ktask_cli.proofs.run_status.status_of_ends.Goals as goal

pub roots-preserved : goal.roots-preserved
roots-preserved g c =
    let roots = (g.E.Ended.seen c.args.end.now).roots in
    record {
      null = rw c.is_null-null.ensures (seen_further is_null roots c.roots.at c.root-root.result c.roots.null c.root-root.ensures c.roots.invariant.null);
      limit = rw c.is_limit-limit.ensures (seen_further is_limit roots c.roots.at c.root-root.result c.roots.limit c.root-root.ensures c.roots.invariant.limit);
      trap = rw c.is_trap-trap.ensures (seen_further is_trap roots c.roots.at c.root-root.result c.roots.trap c.root-root.ensures c.roots.invariant.trap);
    }
