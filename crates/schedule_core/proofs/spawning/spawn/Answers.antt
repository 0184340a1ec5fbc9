use Rattle.std.proofs.Common.{◌∙◌, ℕ, refl, sym, ap, subst}
use Rattle.task_syntax.specs.declared.program.Program.{Program}
use Rattle.memory_pool.specs.Answers.{Gives}
use Rattle.step_table.specs.Passes.{view, block_of}
use Rattle.step_table.specs.declared.pass.Pass.{Pass}
use Rattle.schedule_core.specs.Runs.{IsInStep}
use Rattle.schedule_core.specs.NewTasks.{kind_class}
use Rattle.schedule_core.proofs.SpawnBlocks.{refused-in-step, answered-in-step}
use Rattle.schedule_core.proofs.SpawnRequests.{spawnable-in}
use Rattle.schedule_core.proofs.spawning.spawn.Goals.{in-Null, in-Block}
use Rattle.schedule_core.proofs.spawning.spawn.Goals as goal

pub class_of-class-requires : goal.class_of-class-requires
class_of-class-requires g c =
    (spawnable-in c.args.shared.now.setup c.args.running.now c.args.request.now (view c.args.pass.now) c.args.code.now c.requires.code c.program-checked.ensures.formed c.program-checked.ensures.valid c.requires.may).kind_fits

pub returns-clause-in_step : goal.returns-clause-in_step
returns-clause-in_step g c =
    let s = c.args.shared.now.setup in let x = c.args.running.now in
    elim c.match-allocate.branch [
      | in-Null w ↦ answered-in-step s x _ (view c.match-allocate.pass) refl
          (subst (λ (p : Pass). IsInStep s x (view p)) (sym w.pass-is) (refused-in-step s c.class_of-class.result x (view c.args.pass.now) (view c.allocate.new.pass) c.requires.may.in_step w.in-Null.ensures.answer))
      | in-Block w ↦ answered-in-step s x _ (view c.match-allocate.pass) refl
          (subst (λ (p : Pass). IsInStep s x (view p)) (sym w.pass-is)
          (w.spawn_block-spawned.ensures.spawned (view c.args.pass.now) c.requires.may
          (subst (λ (d : ℕ). Gives s.plan d (view c.args.pass.now) (block_of w.in-Block.block) (view c.allocate.new.pass))
          (c.class_of-class.ensures ∙ ap (λ (p : Program). kind_class p c.args.request.now.kind) c.requires.code) w.in-Block.ensures.answer) c.allocate.ensures.later).1)
    ]
