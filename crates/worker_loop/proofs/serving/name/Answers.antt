use Rattle.std.proofs.Common.{◌∙◌, [], ◌∷◌, refl, arith}
use Rattle.step_table.specs.Passes.{view}
use Rattle.schedule_core.specs.Moves.{unmade}
use Rattle.worker_loop.proofs.CallFacts.{alone-unmade, one-made}
use Rattle.worker_loop.proofs.CountFacts.{alone-spare}
use Rattle.worker_loop.proofs.HandFacts.{goes-then, same-goes, alone-sees}
use Rattle.worker_loop.proofs.PlacedFacts.{past-runs}
use Rattle.worker_loop.proofs.serving.name.Goals as goal

pub name-requires-clause-may : goal.name-requires-clause-may
name-requires-clause-may g c κs within =
    let a = alone-sees c.args.scheduler.now.shared.setup c.args.running.now (c.args.future.unit ∷ []) (view c.args.worker.now.pass) (view c.publish.new.worker.pass) c.requires.runs.alone c.publish.ensures.seen in
    record {
      made = one-made c.args.running.now.made c.args.future.unit c.requires.runs.made_is;
      may = record { in_step = a.in_step; puts = c.requires.puts; spare = alone-spare c.args.scheduler.now.shared.setup c.args.running.now (c.args.future.unit ∷ []) (view c.publish.new.worker.pass) a };
    }

pub returns-clause-goes : goal.returns-clause-goes
returns-clause-goes g c = goes-then c.args.worker.now.pass c.publish.new.worker.pass c.name.new.pass c.publish.ensures.goes (same-goes _ c.publish.new.worker.pass c.name.new.pass c.name.ensures.pass)

pub returns-clause-runs : goal.returns-clause-runs
returns-clause-runs g c =
    past-runs c.args.scheduler.now.shared.setup (unmade c.args.running.now) c.name.new.running _ _ _ _ (c.args.future.unit ∷ []) c.publish.new.worker.pass c.name.new.pass
    (alone-unmade c.args.scheduler.now.shared.setup c.args.running.now (c.args.future.unit ∷ []) (view c.publish.new.worker.pass)
    (alone-sees c.args.scheduler.now.shared.setup c.args.running.now (c.args.future.unit ∷ []) (view c.args.worker.now.pass) (view c.publish.new.worker.pass) c.requires.runs.alone c.publish.ensures.seen))
    (c.publish.ensures.held ∙ c.requires.runs.count) refl c.name.ensures.named (λ w. omega arith) refl (omega (arith, c.name.ensures.pass.held_is))

pub returns-clause-same : goal.returns-clause-same
returns-clause-same g c = c.name.ensures.named.moved
