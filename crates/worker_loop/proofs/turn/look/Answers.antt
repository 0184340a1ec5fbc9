use Rattle.step_table.specs.Passes.{plan}
use Rattle.worker_loop.proofs.HandFacts.{same-goes}
use Rattle.worker_loop.proofs.TurnFacts.{live-free, live-none}
use Rattle.worker_loop.proofs.turn.look.Goals as goal

pub returns-then-living-eq0-clause-goes : goal.returns-then-living-eq0-clause-goes
returns-then-living-eq0-clause-goes g c = same-goes _ c.args.worker.now.pass c.see_live-living.new.pass c.see_live-living.ensures.pass

pub returns-then-living-eq0-clause-turns : goal.returns-then-living-eq0-clause-turns
returns-then-living-eq0-clause-turns g c = (
  live-free (plan c.args.scheduler.now.shared).roots c.see_live-living.result c.args.worker.now.pass c.see_live-living.new.pass c.requires.free c.see_live-living.ensures.living c.see_live-living.ensures.pass.held_is,
  live-none (plan c.args.scheduler.now.shared).roots c.see_live-living.result c.args.worker.now.pass c.see_live-living.new.pass c.see_live-living.ensures.living c.if-living-eq0.true,
)

pub returns-else-living-eq0-clause-goes : goal.returns-else-living-eq0-clause-goes
returns-else-living-eq0-clause-goes g c = same-goes _ c.args.worker.now.pass c.see_live-living.new.pass c.see_live-living.ensures.pass

pub returns-else-living-eq0-clause-turns : goal.returns-else-living-eq0-clause-turns
returns-else-living-eq0-clause-turns g c =
    live-free (plan c.args.scheduler.now.shared).roots c.see_live-living.result c.args.worker.now.pass c.see_live-living.new.pass c.requires.free c.see_live-living.ensures.living c.see_live-living.ensures.pass.held_is
