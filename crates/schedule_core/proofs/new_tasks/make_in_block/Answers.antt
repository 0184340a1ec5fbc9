use Rattle.std.proofs.Common.{ℕ, subst, sym}
use Rattle.memory_pool.specs.Answers.{Gives}
use Rattle.step_table.specs.Passes.{view, block_of}
use Rattle.schedule_core.specs.NewTasks.{class_given}
use Rattle.schedule_core.proofs.SpawnMoves.{may-make, begun-making, met-class, met-in-step}
use Rattle.schedule_core.proofs.new_tasks.make_in_block.Goals as goal

pub make_in-requires : goal.make_in-requires
make_in-requires g c = (c.requires.0, may-make c.args.shared.now.setup c.args.running.now c.args.new.now c.args.block g.asking (view c.args.pass.now) c.requires.1.1.0 c.requires.1.1.1.0)

pub make_task-requires-clause-may : goal.make_task-requires-clause-may
make_task-requires-clause-may g c =
    let may = c.requires.1.1.1.0 in
    record {
      base = may.base;
      wants = may.wants;
      making = begun-making c.args.shared.now.setup c.args.running.now (class_given c.args.shared.now.setup.checked c.args.new.now.given) c.args.block.class g.asking may.base c.in-Some.made (view c.make_in.new.pass) c.requires.1.1.0
          may.gives.of_class
          (c.in-Some.ensures.made may.base (subst (λ (d : ℕ). Gives c.args.shared.now.setup.plan d may.base (block_of c.args.block) (view c.args.pass.now)) (sym may.gives.of_class) may.gives) may.later);
    }

pub returns-in-None-clause-made : goal.returns-in-None-clause-made
returns-in-None-clause-made g c base wants gives later =
    let class = class_given c.args.shared.now.setup.checked c.args.new.now.given in
    let met = met-class c.args.shared.now.setup c.args.running.now class c.args.block.class g.asking base (view c.make_in.new.pass) c.requires.1.1.0 gives.of_class
    (c.in-None.ensures.made base (subst (λ (d : ℕ). Gives c.args.shared.now.setup.plan d base (block_of c.args.block) (view c.args.pass.now)) (sym gives.of_class) gives) later) in
    (met, met-in-step c.args.shared.now.setup c.args.running.now class base (view c.make_in.new.pass) wants.in_step met)

pub returns-in-Some-clause-made : goal.returns-in-Some-clause-made
returns-in-Some-clause-made g c base wants gives later =
    c.make_task.ensures.made base wants
    (begun-making c.args.shared.now.setup c.args.running.now (class_given c.args.shared.now.setup.checked c.args.new.now.given) c.args.block.class g.asking base c.in-Some.made (view c.make_in.new.pass) c.requires.1.1.0
    gives.of_class
    (c.in-Some.ensures.made base (subst (λ (d : ℕ). Gives c.args.shared.now.setup.plan d base (block_of c.args.block) (view c.args.pass.now)) (sym gives.of_class) gives) later))
