use Rattle.std.proofs.Common.{◌∙◌, ap, sym, arith, length, subst}
use Rattle.table_core.specs.Views.{IsIdle}
use Rattle.worker_loop.proofs.HandFacts.{goes-then, same-goes}
use Rattle.worker_loop.proofs.worker.work.Goals as goal

pub keep_count-requires : goal.keep_count-requires
keep_count-requires g c = omega (arith, ap length c.requires.idle.0.futures)

pub loop-init : goal.loop-init
loop-init g c = (
  tt,
  tt,
  record { idle = subst IsIdle (sym c.keep_count.ensures.view) c.requires.idle; count = c.keep_count.ensures.pass.held_is },
  same-goes _ c.args.worker.now.pass c.keep_count.new.self c.keep_count.ensures.pass,
  c.requires.store,
)

pub take_turn-requires-clause-table : goal.take_turn-requires-clause-table
take_turn-requires-clause-table g c κs within = c.loop.invariant.3.table ∙ c.requires.table

pub take_turn-requires-clause-store : goal.take_turn-requires-clause-store
take_turn-requires-clause-store g c κs within = c.loop.invariant.4

pub take_turn-requires-clause-free : goal.take_turn-requires-clause-free
take_turn-requires-clause-free g c κs within = c.loop.invariant.2

pub loop-preserved : goal.loop-preserved
loop-preserved g c = (tt, tt, c.in-Went.ensures.turns, goes-then c.args.worker.now.pass c.loop.worker.pass c.take_turn.new.worker.pass c.loop.invariant.3 c.take_turn.ensures.goes, c.take_turn.ensures.store)

pub returns-in-Over-clause-goes : goal.returns-in-Over-clause-goes
returns-in-Over-clause-goes g c = goes-then c.args.worker.now.pass c.loop.worker.pass c.take_turn.new.worker.pass c.loop.invariant.3 c.take_turn.ensures.goes

pub returns-in-Over-clause-works : goal.returns-in-Over-clause-works
returns-in-Over-clause-works g c = c.in-Over.ensures.turns

pub returns-in-Stopped-clause-goes : goal.returns-in-Stopped-clause-goes
returns-in-Stopped-clause-goes g c = goes-then c.args.worker.now.pass c.loop.worker.pass c.take_turn.new.worker.pass c.loop.invariant.3 c.take_turn.ensures.goes

pub returns-in-Stopped-clause-works : goal.returns-in-Stopped-clause-works
returns-in-Stopped-clause-works g c = c.in-Stopped.ensures.turns
