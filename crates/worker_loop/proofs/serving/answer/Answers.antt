use Rattle.std.proofs.Common.{◌∙◌, ap, subst}
use Rattle.schedule_core.specs.declared.answers.Spawned.{Spawned}
use Rattle.schedule_core.specs.declared.running.Running.{Running}
use Rattle.worker_loop.specs.Serving.{Answers}
use Rattle.worker_loop.proofs.serving.answer.Goals as goal

pub name-requires-clause-runs : goal.name-requires-clause-runs
name-requires-clause-runs g c κs within = (subst (λ (s : Spawned). Answers c.args.scheduler.now.shared.setup c.args.running c.args.to c.args.retry s c.args.worker.now.pass) c.in-Future.is c.requires.answered).0

pub name-requires-clause-puts : goal.name-requires-clause-puts
name-requires-clause-puts g c κs within = (subst (λ (s : Spawned). Answers c.args.scheduler.now.shared.setup c.args.running c.args.to c.args.retry s c.args.worker.now.pass) c.in-Future.is c.requires.answered).1

pub returns-in-Future-clause-served : goal.returns-in-Future-clause-served
returns-in-Future-clause-served g c = (
  c.name.ensures.runs,
  ap (λ (z : Running). z.started) c.name.ensures.same,
  ap (λ (z : Running). z.refused) c.name.ensures.same ∙ (subst (λ (s : Spawned). Answers c.args.scheduler.now.shared.setup c.args.running c.args.to c.args.retry s c.args.worker.now.pass) c.in-Future.is c.requires.answered).2,
)

pub refuse-requires-clause-runs : goal.refuse-requires-clause-runs
refuse-requires-clause-runs g c κs within = (subst (λ (s : Spawned). Answers c.args.scheduler.now.shared.setup c.args.running c.args.to c.args.retry s c.args.worker.now.pass) c.in-Null.is c.requires.answered).0

pub refuse-requires-clause-refused : goal.refuse-requires-clause-refused
refuse-requires-clause-refused g c κs within = (subst (λ (s : Spawned). Answers c.args.scheduler.now.shared.setup c.args.running c.args.to c.args.retry s c.args.worker.now.pass) c.in-Null.is c.requires.answered).1

pub refuse-requires-clause-asks : goal.refuse-requires-clause-asks
refuse-requires-clause-asks g c κs within = (subst (λ (s : Spawned). Answers c.args.scheduler.now.shared.setup c.args.running c.args.to c.args.retry s c.args.worker.now.pass) c.in-Null.is c.requires.answered).2

pub finish-requires-clause-runs : goal.finish-requires-clause-runs
finish-requires-clause-runs g c κs within = (subst (λ (s : Spawned). Answers c.args.scheduler.now.shared.setup c.args.running c.args.to c.args.retry s c.args.worker.now.pass) c.in-Over.is c.requires.answered).0

pub finish-requires-clause-refused : goal.finish-requires-clause-refused
finish-requires-clause-refused g c κs within = (subst (λ (s : Spawned). Answers c.args.scheduler.now.shared.setup c.args.running c.args.to c.args.retry s c.args.worker.now.pass) c.in-Over.is c.requires.answered).1
