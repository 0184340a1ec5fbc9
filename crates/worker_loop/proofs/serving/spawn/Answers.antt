use Rattle.std.proofs.Common.{sym, ap, subst}
use Rattle.step_table.specs.Passes.{view}
use Rattle.frame_code.specs.Words.{body_of}
use Rattle.schedule_core.specs.Runs.{IsInStep}
use Rattle.schedule_core.specs.declared.running.Running.{Running}
use Rattle.worker_loop.specs.Serving.{Answers}
use Rattle.worker_loop.proofs.AnswerFacts.{spawn-answers, serves-same}
use Rattle.worker_loop.proofs.CallFacts.{none-made}
use Rattle.worker_loop.proofs.CountFacts.{asks-spawn, few-count}
use Rattle.worker_loop.proofs.HandFacts.{goes-then, same-goes}
use Rattle.worker_loop.proofs.serving.spawn.Goals as goal

pub spawn-spawned-requires-clause-may : goal.spawn-spawned-requires-clause-may
spawn-spawned-requires-clause-may g c κs within = record {
  in_step = c.requires.runs.alone.in_step;
  asks = asks-spawn c.args.scheduler.now.shared.setup.checked c.args.scheduler.now.shared.setup.columns c.args.request.now (body_of c.args.scheduler.now.shared.setup.checked c.args.running.frame.items) c.requires.asks;
  unrefused = c.requires.unrefused;
  unmade = none-made c.args.running.made c.requires.runs.made_is;
}

pub spawn-spawned-requires-clause-room : goal.spawn-spawned-requires-clause-room
spawn-spawned-requires-clause-room g c κs within = few-count c.args.scheduler.now.shared.setup c.args.running c.args.worker.now.pass c.requires.runs

pub answer-requires-clause-answered : goal.answer-requires-clause-answered
answer-requires-clause-answered g c κs within =
    let told = c.spawn-spawned.result in
    subst (λ (z : Running). Answers c.args.scheduler.now.shared.setup z c.args.request.now.to c.args.request.now.retry told c.spawn-spawned.new.pass) (sym c.spawn-spawned.ensures.running)
    (spawn-answers c.args.scheduler.now.shared.setup c.args.running c.args.request.now told c.args.worker.now.pass c.spawn-spawned.new.pass c.requires.runs
    (asks-spawn c.args.scheduler.now.shared.setup.checked c.args.scheduler.now.shared.setup.columns c.args.request.now (body_of c.args.scheduler.now.shared.setup.checked c.args.running.frame.items) c.requires.asks) c.spawn-spawned.ensures.spawned
    (subst (λ (z : Running). IsInStep c.args.scheduler.now.shared.setup z (view c.spawn-spawned.new.pass)) c.spawn-spawned.ensures.running c.spawn-spawned.ensures.in_step) c.spawn-spawned.ensures.pass.held_is)

pub returns-clause-goes : goal.returns-clause-goes
returns-clause-goes g c = goes-then c.args.worker.now.pass c.spawn-spawned.new.pass c.answer.new.worker.pass (same-goes _ c.args.worker.now.pass c.spawn-spawned.new.pass c.spawn-spawned.ensures.pass) c.answer.ensures.goes

pub returns-clause-served : goal.returns-clause-served
returns-clause-served g c = serves-same c.args.scheduler.now.shared.setup c.args.running c.spawn-spawned.new.running c.answer.result c.answer.new.worker.pass (ap (λ (z : Running). z.started) c.spawn-spawned.ensures.running) c.answer.ensures.served
