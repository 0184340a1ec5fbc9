use Rattle.std.proofs.Common.{◌∙◌, refl}
use Rattle.worker_loop.proofs.HandFacts.{goes-self, goes-then}
use Rattle.worker_loop.proofs.serving.start_all.Goals as goal

pub loop-init : goal.loop-init
loop-init g c = (tt, tt, c.requires.chain, goes-self c.args.worker.now.pass, refl, c.requires.store)

pub start_one-requires-clause-table : goal.start_one-requires-clause-table
start_one-requires-clause-table g c κs within = c.loop.invariant.3.table ∙ c.requires.table

pub start_one-requires-clause-store : goal.start_one-requires-clause-store
start_one-requires-clause-store g c κs within = c.loop.invariant.5

pub start_one-requires-clause-chain : goal.start_one-requires-clause-chain
start_one-requires-clause-chain g c κs within = c.loop.invariant.2

pub loop-preserved : goal.loop-preserved
loop-preserved g c = (
  tt,
  tt,
  c.in-Some-start_one.ensures.left,
  goes-then c.args.worker.now.pass c.loop.worker.pass c.start_one.new.worker.pass c.loop.invariant.3 c.start_one.ensures.goes,
  c.start_one.ensures.held ∙ c.loop.invariant.4,
  c.start_one.ensures.store,
)

pub returns-in-None-start_one-clause-goes : goal.returns-in-None-start_one-clause-goes
returns-in-None-start_one-clause-goes g c = goes-then c.args.worker.now.pass c.loop.worker.pass c.start_one.new.worker.pass c.loop.invariant.3 c.start_one.ensures.goes

pub returns-in-None-start_one-clause-held : goal.returns-in-None-start_one-clause-held
returns-in-None-start_one-clause-held g c = c.start_one.ensures.held ∙ c.loop.invariant.4

pub returns-in-None-start_one-clause-idle : goal.returns-in-None-start_one-clause-idle
returns-in-None-start_one-clause-idle g c = c.in-None-start_one.ensures.left
