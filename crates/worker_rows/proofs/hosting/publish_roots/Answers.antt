use Rattle.std.proofs.Common.{◌∙◌, refl}
use Rattle.step_table.specs.Passes.{view}
use Rattle.worker_rows.proofs.LeadFacts.{same-self, same-then, sees-self, sees-then}
use Rattle.worker_rows.proofs.hosting.publish_roots.Goals as goal

pub roots-init : goal.roots-init
roots-init g c = (same-self c.args.worker.now.pass, c.requires.store, (λ s. s), refl, sees-self (view c.args.worker.now.pass))

pub roots-preserved : goal.roots-preserved
roots-preserved g c = (
  same-then c.args.worker.now.pass c.roots.worker.pass c.publish_root.new.worker.pass c.roots.invariant.0 c.publish_root.ensures.pass,
  c.publish_root.ensures.store,
  (λ s. c.publish_root.ensures.split (c.roots.invariant.2 s)),
  c.publish_root.ensures.worked ∙ c.roots.invariant.3,
  sees-then (view c.args.worker.now.pass) (view c.roots.worker.pass) (view c.publish_root.new.worker.pass) c.roots.invariant.4 c.publish_root.ensures.seen,
)
