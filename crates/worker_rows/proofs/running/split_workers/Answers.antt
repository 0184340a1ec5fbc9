use Rattle.std.proofs.Common.{arith}
use Rattle.table_core.specs.Views.{IsIdle}
use Rattle.step_table.specs.Passes.{view, IsOf}
use Rattle.worker_rows.proofs.LeadFacts.{keeps-self, keeps-then, none-yet, one-more}
use Rattle.worker_rows.proofs.running.split_workers.Goals as goal

pub workers-init : goal.workers-init
workers-init g c =
    let none = c.new-workers.ensures.items in (
      c.requires.table,
      c.requires.store,
      c.requires.split,
      omega arith,
      keeps-self (view c.args.worker.pass),
      c.new-workers.ensures.len,
      none-yet (λ w. IsOf c.args.scheduler.now.shared w.pass) c.new-workers.result.items none,
      none-yet (λ w. g.Q.ReadyStore.is_pass c.args.scheduler.now.ready w.qpass) c.new-workers.result.items none,
      none-yet (λ w. IsIdle (view w.pass)) c.new-workers.result.items none,
    )

pub workers-preserved : goal.workers-preserved
workers-preserved g c =
    let s = c.split_worker-rest.ensures in
    let old = c.workers.workers.items in
    let new = c.push.new.self.items in
    let added = c.in_ok-push.ensures.items in (
      s.tables.0,
      s.stores.0,
      s.split,
      omega (arith, s.splits, c.workers.invariant.3),
      keeps-then (view c.args.worker.pass) (view c.workers.first.pass) (view c.split_worker-rest.result.0.pass) c.workers.invariant.4 s.keeps,
      omega (arith, c.workers.invariant.5, c.in_ok-push.ensures.len),
      one-more (λ w. IsOf c.args.scheduler.now.shared w.pass) old new c.split_worker-rest.result.1 added c.workers.invariant.6 s.tables.1,
      one-more (λ w. g.Q.ReadyStore.is_pass c.args.scheduler.now.ready w.qpass) old new c.split_worker-rest.result.1 added c.workers.invariant.7 s.stores.1,
      one-more (λ w. IsIdle (view w.pass)) old new c.split_worker-rest.result.1 added c.workers.invariant.8 s.idle,
    )
