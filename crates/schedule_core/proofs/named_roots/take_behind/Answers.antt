use Rattle.std.proofs.Common.{ℕ, Option, refl, subst}
use Rattle.record_core.specs.RootEnds.{root_waited}
use Rattle.step_table.specs.Passes.{view, plan}
use Rattle.schedule_core.specs.NamedRoots.{HaveRootRecords}
use Rattle.schedule_core.proofs.PassedRoots.{behind-none, behind-some}
use Rattle.schedule_core.proofs.named_roots.take_behind.Goals as goal

pub take_root-requires-clause-root : goal.take_root-requires-clause-root
take_root-requires-clause-root c = (subst (λ (o : Option ℕ). HaveRootRecords (plan c.args.shared.now) (root_waited o) (view c.args.pass.now)) c.in-Some.is c.requires.named 0 c.in-Some.root refl).0

pub take_root-requires-clause-named : goal.take_root-requires-clause-named
take_root-requires-clause-named c = (subst (λ (o : Option ℕ). HaveRootRecords (plan c.args.shared.now) (root_waited o) (view c.args.pass.now)) c.in-Some.is c.requires.named 0 c.in-Some.root refl).1

pub returns-in-None-clause-taken : goal.returns-in-None-clause-taken
returns-in-None-clause-taken c = behind-none (plan c.args.shared.now) c.args.root (view c.args.pass.now) c.in-None.is

pub returns-in-Some-clause-taken : goal.returns-in-Some-clause-taken
returns-in-Some-clause-taken c = behind-some (plan c.args.shared.now) c.args.root c.in-Some.root c.take_root.result (view c.args.pass.now) (view c.take_root.new.pass) c.in-Some.is c.take_root.ensures.taken
