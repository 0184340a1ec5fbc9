use Rattle.std.proofs.Common.{◌∙◌, length, ap, arith}
use Rattle.task_syntax.specs.declared.program.Program.{Program}
use Rattle.step_table.specs.Passes.{view}
use Rattle.schedule_rows.proofs.AskedRoots.{may-host, low-roots, asking-on}
use Rattle.schedule_rows.proofs.hosting.host_roots.Goals as goal

pub host_spawn-one-requires-clause-may : goal.host_spawn-one-requires-clause-may
host_spawn-one-requires-clause-may g c κs within = may-host c.args.scheduler.now.shared.setup c.roots.root (view c.roots.pass)
    (c.requires.roots ∙ ap (λ (p : Program). length p.roots) c.requires.code)
    (low-roots c.args.scheduler.now.shared.setup c.args.code.now c.program.result.now c.as_slice-roots.result.now c.roots.root c.as_slice-roots.ensures c.program.ensures.same c.requires.code c.roots-test.true) c.roots.invariant.0.has

pub roots-preserved : goal.roots-preserved
roots-preserved g c = (
  asking-on c.args.scheduler.now.shared.setup c.roots.root c.args.pass.now c.roots.pass c.host_spawn-one.new.pass
      (c.requires.roots ∙ ap (λ (p : Program). length p.roots) c.requires.code)
      (low-roots c.args.scheduler.now.shared.setup c.args.code.now c.program.result.now c.as_slice-roots.result.now c.roots.root c.as_slice-roots.ensures c.program.ensures.same c.requires.code c.roots-test.true)
      c.host_spawn-one.result c.roots.invariant.0 c.host_spawn-one.ensures.pass c.host_spawn-one.ensures.hosted,
  omega (arith, c.roots.invariant.1, c.in_ok-push.ensures.len),
)
