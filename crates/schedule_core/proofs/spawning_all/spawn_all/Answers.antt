use Rattle.std.proofs.Common.{◌∙◌, ℕ, length, refl, sym, ap, subst, arith}
use Rattle.memory_pool.specs.Answers.{Gives}
use Rattle.step_table.specs.Passes.{view, block_of}
use Rattle.step_table.specs.declared.pass.Pass.{Pass}
use Rattle.schedule_core.specs.NewTasks.{group_class}
use Rattle.schedule_core.specs.Runs.{IsInStep}
use Rattle.schedule_core.proofs.AllBlocks.{its-formed}
use Rattle.schedule_core.proofs.SpawnBlocks.{refused-in-step, answered-in-step}
use Rattle.schedule_core.proofs.spawning_all.spawn_all.Goals.{in-Null, in-Block}
use Rattle.schedule_core.proofs.spawning_all.spawn_all.Goals as goal

pub overflow_cast-as_slice : goal.overflow_cast-as_slice
overflow_cast-as_slice g c =
    omega (
      arith,
      ap length c.as_slice.ensures,
      (its-formed c.args.shared.now.setup c.args.running.now c.args.request.now (view c.args.pass.now) c.args.code.now _ c.requires.may c.requires.code c.program-program.ensures.formed c.program-program.ensures.valid refl).few,
    )

pub members_class-class-requires-clause-some : goal.members_class-class-requires-clause-some
members_class-class-requires-clause-some g c =
    omega (
      arith,
      ap length c.as_slice.ensures,
      (its-formed c.args.shared.now.setup c.args.running.now c.args.request.now (view c.args.pass.now) c.args.code.now _ c.requires.may c.requires.code c.program-program.ensures.formed c.program-program.ensures.valid refl).some,
    )

pub members_class-class-requires-clause-few : goal.members_class-class-requires-clause-few
members_class-class-requires-clause-few g c =
    omega (
      arith,
      ap length c.as_slice.ensures,
      (its-formed c.args.shared.now.setup c.args.running.now c.args.request.now (view c.args.pass.now) c.args.code.now _ c.requires.may c.requires.code c.program-program.ensures.formed c.program-program.ensures.valid refl).few,
    )

pub returns-clause-in_step : goal.returns-clause-in_step
returns-clause-in_step g c =
    let s = c.args.shared.now.setup in let x = c.args.running.now in
    elim c.match-allocate.branch [
      | in-Null w ↦ answered-in-step s x _ (view c.match-allocate.pass) refl
          (subst (λ (p : Pass). IsInStep s x (view p)) (sym w.pass-is)
          (refused-in-step s c.members_class-class.result x (view c.args.pass.now) (view c.allocate.new.pass) c.requires.may.in_step w.in-Null.ensures.answer))
      | in-Block w ↦ answered-in-step s x _ (view c.match-allocate.pass) refl
          (subst (λ (p : Pass). IsInStep s x (view p)) (sym w.pass-is)
          (w.spawn_all_block-spawned.ensures.spawned (view c.args.pass.now) c.requires.may
          (subst (λ (d : ℕ). Gives s.plan d (view c.args.pass.now) (block_of w.in-Block.block) (view c.allocate.new.pass)) (c.members_class-class.ensures ∙ ap (λ l. group_class (length l)) c.as_slice.ensures)
          w.in-Block.ensures.answer) c.allocate.ensures.later).1)
    ]
