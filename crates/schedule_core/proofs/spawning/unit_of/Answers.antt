use Rattle.std.proofs.Common.{ℕ, Option, subst}
use Rattle.std.specs.Prelude.{IfSome}
use Rattle.task_syntax.specs.declared.program.Sort.TheVariants as sort
use Rattle.frame_code.specs.Setting.{HasSort}
use Rattle.schedule_core.proofs.spawning.unit_of.Goals as goal

pub future-requires-clause-variable : goal.future-requires-clause-variable
future-requires-clause-variable c = subst (λ (o : Option ℕ). IfSome o (λ y. HasSort c.args.code.now sort.Future y c.args.frame.now.items)) c.in-Some.is c.requires.sort
