use Rattle.std.proofs.Common.{refl, subst}
use Rattle.record_core.specs.RootEnds.{root_passed}
use Rattle.task_syntax.specs.declared.program.RootArgument.{RootArgument}
use Rattle.step_table.specs.Passes.{view, plan}
use Rattle.schedule_core.specs.NamedRoots.{HaveRootRecords}
use Rattle.schedule_core.proofs.PassedRoots.{passes-number, passes-record}
use Rattle.schedule_core.proofs.named_roots.pass_root.Goals as goal

pub take_root-taken-requires-clause-root : goal.take_root-taken-requires-clause-root
take_root-taken-requires-clause-root c = (subst (λ (a : RootArgument). HaveRootRecords (plan c.args.shared.now) (root_passed a) (view c.args.pass.now)) c.in-Root.is c.requires.named 0 c.in-Root.root refl).0

pub take_root-taken-requires-clause-named : goal.take_root-taken-requires-clause-named
take_root-taken-requires-clause-named c = (subst (λ (a : RootArgument). HaveRootRecords (plan c.args.shared.now) (root_passed a) (view c.args.pass.now)) c.in-Root.is c.requires.named 0 c.in-Root.root refl).1

pub returns-in-Number-clause-passed : goal.returns-in-Number-clause-passed
returns-in-Number-clause-passed c = passes-number (plan c.args.shared.now) c.args.argument c.in-Number.number (view c.args.pass.now) c.in-Number.is

pub returns-in-Root-clause-passed : goal.returns-in-Root-clause-passed
returns-in-Root-clause-passed c =
    passes-record (plan c.args.shared.now) c.args.argument c.in-Root.root c.from.result c.take_root-taken.result (view c.args.pass.now) (view c.take_root-taken.new.pass) c.in-Root.is c.from.ensures c.take_root-taken.ensures.taken
