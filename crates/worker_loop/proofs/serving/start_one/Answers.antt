use Rattle.step_table.specs.Passes.{view}
use Rattle.worker_loop.proofs.CallFacts.{publishes-sees}
use Rattle.worker_loop.proofs.ChainFacts.{given-chain, chain-sees, has-chain, none-left}
use Rattle.worker_loop.proofs.HandFacts.{same-goes, goes-then}
use Rattle.worker_loop.proofs.serving.start_one.Goals as goal

pub next_ready-requires-clause-chain : goal.next_ready-requires-clause-chain
next_ready-requires-clause-chain g c κs within = has-chain c.args.scheduler.now.shared.setup c.args.chain (view c.args.worker.now.pass) c.requires.chain

pub returns-in-Some-clause-goes : goal.returns-in-Some-clause-goes
returns-in-Some-clause-goes g c =
    goes-then c.args.worker.now.pass c.next_ready.new.pass c.publish.new.pass (same-goes c.args.worker.now.pass.held c.args.worker.now.pass c.next_ready.new.pass c.next_ready.ensures.pass)
    (same-goes c.next_ready.new.pass.held c.next_ready.new.pass c.publish.new.pass c.publish.ensures.pass)

pub returns-in-Some-clause-left : goal.returns-in-Some-clause-left
returns-in-Some-clause-left g c =
    chain-sees c.args.scheduler.now.shared.setup c.in-Some.rest (view c.next_ready.new.pass) (view c.publish.new.pass)
    (given-chain c.args.scheduler.now.shared.setup c.args.chain (view c.args.worker.now.pass) (c.in-Some.entry, c.in-Some.rest) (view c.next_ready.new.pass) c.requires.chain c.in-Some.ensures.some)
    (publishes-sees (view c.next_ready.new.pass) (view c.publish.new.pass) c.publish.ensures.published)

pub returns-in-None-clause-goes : goal.returns-in-None-clause-goes
returns-in-None-clause-goes g c = same-goes c.args.worker.now.pass.held c.args.worker.now.pass c.next_ready.new.pass c.next_ready.ensures.pass

pub returns-in-None-clause-left : goal.returns-in-None-clause-left
returns-in-None-clause-left g c =
    none-left c.args.scheduler.now.shared.setup c.args.chain (view c.args.worker.now.pass) (view c.next_ready.new.pass) c.requires.chain c.in-None.ensures.none c.in-None.ensures.exactly.1
