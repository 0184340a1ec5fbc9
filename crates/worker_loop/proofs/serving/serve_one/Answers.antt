use Rattle.std.proofs.Common.{◌∙◌, [], refl, ap, subst, arith}
use Rattle.frame_code.specs.Told.{act_told}
use Rattle.frame_code.specs.Words.{body_of}
use Rattle.frame_code.specs.declared.act.Asked.{Asked}
use Rattle.step_table.specs.Passes.{view}
use Rattle.schedule_core.specs.Moves.{Asks}
use Rattle.schedule_core.specs.declared.running.Running.{Running}
use Rattle.worker_loop.proofs.ActFacts.{asks-drop, alone-stands}
use Rattle.worker_loop.proofs.CallFacts.{none-made}
use Rattle.worker_loop.proofs.CountFacts.{asks-copy, few-room}
use Rattle.worker_loop.proofs.HandFacts.{goes-self, same-goes}
use Rattle.worker_loop.proofs.PlacedFacts.{past-runs}
use Rattle.worker_loop.proofs.serving.serve_one.Goals as goal

pub spawn-requires-clause-asks : goal.spawn-requires-clause-asks
spawn-requires-clause-asks g c κs within = subst (λ (a : Asked). Asks c.args.scheduler.now.shared.setup.checked c.args.scheduler.now.shared.setup.columns (act_told a c.args.requests.now) (body_of c.args.scheduler.now.shared.setup.checked c.args.running.frame.items)) c.in-Spawn.is c.requires.asks

pub gather-requires-clause-asks : goal.gather-requires-clause-asks
gather-requires-clause-asks g c κs within = subst (λ (a : Asked). Asks c.args.scheduler.now.shared.setup.checked c.args.scheduler.now.shared.setup.columns (act_told a c.args.requests.now) (body_of c.args.scheduler.now.shared.setup.checked c.args.running.frame.items)) c.in-All.is c.requires.asks

pub copy-requires-clause-may : goal.copy-requires-clause-may
copy-requires-clause-may g c κs within = record {
  in_step = c.requires.runs.alone.in_step;
  asks = asks-copy c.args.scheduler.now.shared.setup.checked c.args.scheduler.now.shared.setup.columns c.in-Copy.to c.in-Copy.of (body_of c.args.scheduler.now.shared.setup.checked c.args.running.frame.items) (subst (λ (a : Asked). Asks c.args.scheduler.now.shared.setup.checked c.args.scheduler.now.shared.setup.columns (act_told a c.args.requests.now) (body_of c.args.scheduler.now.shared.setup.checked c.args.running.frame.items)) c.in-Copy.is c.requires.asks);
}

pub copy-requires-clause-room : goal.copy-requires-clause-room
copy-requires-clause-room g c κs within = few-room c.args.scheduler.now.shared.setup c.args.running c.args.worker.now.pass c.requires.runs

pub returns-in-Copy-clause-goes : goal.returns-in-Copy-clause-goes
returns-in-Copy-clause-goes g c = same-goes _ c.args.worker.now.pass c.copy.new.pass c.copy.ensures.pass

pub returns-in-Copy-clause-served : goal.returns-in-Copy-clause-served
returns-in-Copy-clause-served g c = (
  past-runs c.args.scheduler.now.shared.setup c.args.running c.copy.new.running _ _ _ _ [] c.args.worker.now.pass c.copy.new.pass c.requires.runs.alone c.requires.runs.count (none-made c.args.running.made c.requires.runs.made_is) c.copy.ensures.copied (λ w. omega arith) (omega arith) c.copy.ensures.pass.held_is,
  ap (λ (z : Running). z.started) c.copy.ensures.copied.moved,
  ap (λ (z : Running). z.refused) c.copy.ensures.copied.moved ∙ c.requires.unrefused,
)

pub let_go-requires-clause-may : goal.let_go-requires-clause-may
let_go-requires-clause-may g c κs within = record {
  in_step = c.requires.runs.alone.in_step;
  drops = asks-drop c.args.scheduler.now.shared.setup.checked c.args.scheduler.now.shared.setup.columns c.in-Drop.future (body_of c.args.scheduler.now.shared.setup.checked c.args.running.frame.items) (subst (λ (a : Asked). Asks c.args.scheduler.now.shared.setup.checked c.args.scheduler.now.shared.setup.columns (act_told a c.args.requests.now) (body_of c.args.scheduler.now.shared.setup.checked c.args.running.frame.items)) c.in-Drop.is c.requires.asks);
}

pub returns-in-Drop-clause-goes : goal.returns-in-Drop-clause-goes
returns-in-Drop-clause-goes g c = same-goes _ c.args.worker.now.pass c.let_go.new.pass c.let_go.ensures.pass

pub returns-in-Drop-clause-served : goal.returns-in-Drop-clause-served
returns-in-Drop-clause-served g c = (
  past-runs c.args.scheduler.now.shared.setup c.args.running c.let_go.new.running _ _ _ _ [] c.args.worker.now.pass c.let_go.new.pass c.requires.runs.alone c.requires.runs.count (none-made c.args.running.made c.requires.runs.made_is) c.let_go.ensures.left (λ w. omega arith) refl (omega (arith, c.let_go.ensures.pass.held_is)),
  ap (λ (z : Running). z.started) c.let_go.ensures.left.moved,
  ap (λ (z : Running). z.refused) c.let_go.ensures.left.moved ∙ c.requires.unrefused,
)

pub returns-in-NeedsValue-clause-goes : goal.returns-in-NeedsValue-clause-goes
returns-in-NeedsValue-clause-goes g c = goes-self c.args.worker.now.pass

pub returns-in-NeedsValue-clause-served : goal.returns-in-NeedsValue-clause-served
returns-in-NeedsValue-clause-served g c = alone-stands c.args.scheduler.now.shared.setup c.args.running [] (view c.args.worker.now.pass) c.requires.runs.alone

pub respawn-requires-clause-asks : goal.respawn-requires-clause-asks
respawn-requires-clause-asks g c κs within = subst (λ (a : Asked). Asks c.args.scheduler.now.shared.setup.checked c.args.scheduler.now.shared.setup.columns (act_told a c.args.requests.now) (body_of c.args.scheduler.now.shared.setup.checked c.args.running.frame.items)) c.in-Again.is c.requires.asks
