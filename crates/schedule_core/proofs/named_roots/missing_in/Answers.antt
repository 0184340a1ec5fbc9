use Rattle.std.proofs.Common.{refl, sym, subst}
use Rattle.record_core.specs.RootEnds.{root_passed}
use Rattle.task_syntax.specs.declared.program.RootArgument.{RootArgument}
use Rattle.step_table.specs.Passes.{view}
use Rattle.schedule_core.specs.NamedRoots.{AreRoots, TellsMissing}
use Rattle.schedule_core.proofs.named_roots.missing_in.Goals as goal

pub missing_one-requires-clause-root : goal.missing_one-requires-clause-root
missing_one-requires-clause-root c = subst (λ (a : RootArgument). AreRoots (root_passed a)) c.in-Root.is c.requires.roots 0 c.in-Root.root refl

pub returns-in-Root : goal.returns-in-Root
returns-in-Root c = subst (λ (a : RootArgument). TellsMissing (view c.args.pass.now) (root_passed a) c.missing_one.result) (sym c.in-Root.is) c.missing_one.ensures
