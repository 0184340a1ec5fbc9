use Rattle.std.proofs.Common.{◌∙◌, refl, ap}
use Rattle.frame_code.specs.Told.{act_told}
use Rattle.schedule_core.specs.declared.running.Running.{Running}
use Rattle.worker_loop.proofs.HandFacts.{goes-self, goes-then}
use Rattle.worker_loop.proofs.PlacedFacts.{on-runs, stands-same}
use Rattle.worker_loop.proofs.serving.serve.Goals as goal

pub loop-init : goal.loop-init
loop-init g c = (tt, tt, c.requires.runs, c.requires.unrefused, refl, goes-self c.args.worker.now.pass, c.requires.store)

pub advance-asked-requires-clause-in_step : goal.advance-asked-requires-clause-in_step
advance-asked-requires-clause-in_step g c κs within = c.loop.invariant.2.alone.in_step

pub serve_one-requires-clause-table : goal.serve_one-requires-clause-table
serve_one-requires-clause-table g c κs within = c.loop.invariant.5.table ∙ c.requires.table

pub serve_one-requires-clause-store : goal.serve_one-requires-clause-store
serve_one-requires-clause-store g c κs within = c.loop.invariant.6

pub serve_one-requires-clause-runs : goal.serve_one-requires-clause-runs
serve_one-requires-clause-runs g c κs within =
    on-runs c.args.scheduler.now.shared.setup c.loop.running c.loop.worker.pass (act_told c.advance-asked.result c.advance-asked.new.requests) c.advance-asked.new.running c.loop.invariant.2 c.advance-asked.ensures.on

pub serve_one-requires-clause-unrefused : goal.serve_one-requires-clause-unrefused
serve_one-requires-clause-unrefused g c κs within = ap (λ (z : Running). z.refused) c.advance-asked.ensures.on.moved ∙ c.loop.invariant.3

pub serve_one-requires-clause-asks : goal.serve_one-requires-clause-asks
serve_one-requires-clause-asks g c κs within = c.advance-asked.ensures.on.asks

pub loop-preserved : goal.loop-preserved
loop-preserved g c =
    let served = c.in-Goes.ensures.served in (
      tt,
      tt,
      served.0,
      served.2,
      served.1 ∙ ap (λ (z : Running). z.started) c.advance-asked.ensures.on.moved ∙ c.loop.invariant.4,
      goes-then c.args.worker.now.pass c.loop.worker.pass c.serve_one.new.worker.pass c.loop.invariant.5 c.serve_one.ensures.goes,
      c.serve_one.ensures.store,
    )

pub returns-in-Ended-clause-goes : goal.returns-in-Ended-clause-goes
returns-in-Ended-clause-goes g c = goes-then c.args.worker.now.pass c.loop.worker.pass c.serve_one.new.worker.pass c.loop.invariant.5 c.serve_one.ensures.goes

pub returns-in-Ended-clause-served : goal.returns-in-Ended-clause-served
returns-in-Ended-clause-served g c = c.in-Ended.ensures.served

pub returns-in-Stopped-clause-goes : goal.returns-in-Stopped-clause-goes
returns-in-Stopped-clause-goes g c = goes-then c.args.worker.now.pass c.loop.worker.pass c.serve_one.new.worker.pass c.loop.invariant.5 c.serve_one.ensures.goes

pub returns-in-Stopped-clause-served : goal.returns-in-Stopped-clause-served
returns-in-Stopped-clause-served g c =
    stands-same c.advance-asked.new.running c.args.running c.serve_one.new.worker.pass
    (ap (λ (z : Running). z.started) c.advance-asked.ensures.on.moved ∙ c.loop.invariant.4) c.in-Stopped.ensures.served
