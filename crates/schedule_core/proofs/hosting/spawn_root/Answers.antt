use Rattle.std.proofs.Common.{◌∙◌, ℕ, ap, subst}
use Rattle.task_syntax.specs.declared.program.Program.{Program}
use Rattle.memory_pool.specs.Answers.{Refuses}
use Rattle.step_table.specs.Passes.{view, plan}
use Rattle.schedule_core.specs.NewTasks.{kind_class}
use Rattle.schedule_core.proofs.HostedTasks.{kind-within}
use Rattle.schedule_core.proofs.RootBlocks.{says-null}
use Rattle.schedule_core.proofs.hosting.spawn_root.Goals as goal

pub class_of-requires : goal.class_of-requires
class_of-requires g c =
    kind-within c.args.shared.now.setup c.args.code.now c.args.root c.args.line.now c.requires.code c.program-program.ensures.formed c.program-program.ensures.valid c.requires.may.next.is_line

pub returns-in-Null-clause-hosted : goal.returns-in-Null-clause-hosted
returns-in-Null-clause-hosted g c asked next have = (
  have,
  says-null c.args.shared.now.setup c.args.root (kind_class c.args.shared.now.setup.checked c.args.line.now.kind) (view c.args.pass.now) c.allocate.new.pass c.name.new.pass
      (subst (λ (d : ℕ). Refuses (plan c.args.shared.now) d (view c.args.pass.now) (view c.allocate.new.pass)) (c.class_of.ensures ∙ ap (λ (p : Program). kind_class p c.args.line.now.kind) c.requires.code) c.in-Null.ensures.answer)
      c.allocate.ensures.later c.name.ensures.view,
)
