use Rattle.std.proofs.Common.{ℕ, Option, refl, sym, subst}
use Rattle.record_core.specs.RootEnds.{root_waited}
use Rattle.step_table.specs.Passes.{view}
use Rattle.schedule_core.specs.NamedRoots.{AreRoots, TellsMissing}
use Rattle.schedule_core.proofs.named_roots.missing_behind.Goals as goal

pub missing_one-requires-clause-root : goal.missing_one-requires-clause-root
missing_one-requires-clause-root c = subst (λ (o : Option ℕ). AreRoots (root_waited o)) c.in-Some.is c.requires.roots 0 c.in-Some.root refl

pub returns-in-Some : goal.returns-in-Some
returns-in-Some c = subst (λ (o : Option ℕ). TellsMissing (view c.args.pass.now) (root_waited o) c.missing_one.result) (sym c.in-Some.is) c.missing_one.ensures
