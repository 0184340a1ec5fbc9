use Rattle.std.proofs.Common.{◌∙◌}
use Rattle.step_table.specs.Passes.{view}
use Rattle.worker_loop.proofs.CallFacts.{none-made}
use Rattle.worker_loop.proofs.ChainFacts.{ended-chain}
use Rattle.worker_loop.proofs.HandFacts.{same-goes, goes-then}
use Rattle.worker_loop.proofs.CountFacts.{gone-count}
use Rattle.worker_loop.proofs.serving.finish.Goals as goal

pub complete-chain-requires-clause-may : goal.complete-chain-requires-clause-may
complete-chain-requires-clause-may g c κs within = record { in_step = c.requires.runs.alone.in_step; refused = c.requires.refused; unmade = none-made c.args.running.made c.requires.runs.made_is }

pub start_all-requires-clause-chain : goal.start_all-requires-clause-chain
start_all-requires-clause-chain g c κs within =
    ended-chain c.args.scheduler.now.shared.setup c.args.running c.args.outcome (view c.args.worker.now.pass) c.complete-chain.result (view c.complete-chain.new.pass) c.requires.runs.alone c.complete-chain.ensures.done

pub returns-clause-goes : goal.returns-clause-goes
returns-clause-goes g c =
    goes-then c.args.worker.now.pass c.complete-chain.new.pass c.start_all.new.worker.pass
    (same-goes _ c.args.worker.now.pass c.complete-chain.new.pass c.complete-chain.ensures.pass) c.start_all.ensures.goes

pub returns-clause-free : goal.returns-clause-free
returns-clause-free g c = record {
  idle = c.start_all.ensures.idle;
  count = c.start_all.ensures.held ∙ c.complete-chain.ensures.pass.held_is
      ∙ gone-count c.args.code.now c.args.scheduler.now.shared.setup.checked c.args.running.frame.items c.args.worker.now.pass.held c.requires.code c.requires.runs.count;
}
