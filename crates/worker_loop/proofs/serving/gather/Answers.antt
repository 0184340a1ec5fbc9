use Rattle.std.proofs.Common.{sym, ap, subst}
use Rattle.step_table.specs.Passes.{view}
use Rattle.frame_code.specs.Words.{body_of}
use Rattle.schedule_core.specs.Runs.{IsInStep}
use Rattle.schedule_core.specs.declared.running.Running.{Running}
use Rattle.worker_loop.specs.Serving.{Answers}
use Rattle.worker_loop.proofs.AnswerFacts.{all-answers, serves-same}
use Rattle.worker_loop.proofs.CallFacts.{none-made}
use Rattle.worker_loop.proofs.CountFacts.{asks-all, few-count}
use Rattle.worker_loop.proofs.HandFacts.{goes-then, same-goes}
use Rattle.worker_loop.proofs.serving.gather.Goals as goal

pub spawn_all-spawned-requires-clause-may : goal.spawn_all-spawned-requires-clause-may
spawn_all-spawned-requires-clause-may g c κs within = record {
  in_step = c.requires.runs.alone.in_step;
  asks = asks-all c.args.scheduler.now.shared.setup.checked c.args.scheduler.now.shared.setup.columns c.args.request.now (body_of c.args.scheduler.now.shared.setup.checked c.args.running.frame.items) c.requires.asks;
  unrefused = c.requires.unrefused;
  unmade = none-made c.args.running.made c.requires.runs.made_is;
}

pub spawn_all-spawned-requires-clause-room : goal.spawn_all-spawned-requires-clause-room
spawn_all-spawned-requires-clause-room g c κs within = few-count c.args.scheduler.now.shared.setup c.args.running c.args.worker.now.pass c.requires.runs

pub answer-requires-clause-answered : goal.answer-requires-clause-answered
answer-requires-clause-answered g c κs within =
    let told = c.spawn_all-spawned.result in
    subst (λ (z : Running). Answers c.args.scheduler.now.shared.setup z c.args.request.now.to c.args.request.now.retry told c.spawn_all-spawned.new.pass) (sym c.spawn_all-spawned.ensures.running)
    (all-answers c.args.scheduler.now.shared.setup c.args.running c.args.request.now told c.args.worker.now.pass c.spawn_all-spawned.new.pass c.requires.runs
    (asks-all c.args.scheduler.now.shared.setup.checked c.args.scheduler.now.shared.setup.columns c.args.request.now (body_of c.args.scheduler.now.shared.setup.checked c.args.running.frame.items) c.requires.asks) c.spawn_all-spawned.ensures.spawned
    (subst (λ (z : Running). IsInStep c.args.scheduler.now.shared.setup z (view c.spawn_all-spawned.new.pass)) c.spawn_all-spawned.ensures.running c.spawn_all-spawned.ensures.in_step) c.spawn_all-spawned.ensures.pass.held_is)

pub returns-clause-goes : goal.returns-clause-goes
returns-clause-goes g c = goes-then c.args.worker.now.pass c.spawn_all-spawned.new.pass c.answer.new.worker.pass (same-goes _ c.args.worker.now.pass c.spawn_all-spawned.new.pass c.spawn_all-spawned.ensures.pass) c.answer.ensures.goes

pub returns-clause-served : goal.returns-clause-served
returns-clause-served g c = serves-same c.args.scheduler.now.shared.setup c.args.running c.spawn_all-spawned.new.running c.answer.result c.answer.new.worker.pass (ap (λ (z : Running). z.started) c.spawn_all-spawned.ensures.running) c.answer.ensures.served
