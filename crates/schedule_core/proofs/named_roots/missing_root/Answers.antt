use Rattle.std.proofs.Common.{◌<◌, Some, None, List, sym, subst}
use Rattle.std.specs.List.{flat_map}
use Rattle.record_core.specs.RootEnds.{root_passed, root_waited}
use Rattle.task_syntax.specs.declared.program.RootArgument.{RootArgument}
use Rattle.step_table.specs.Passes.{view}
use Rattle.schedule_core.specs.NamedRoots.{AreRoots, TellsMissing}
use Rattle.schedule_core.proofs.EachFacts.{front-has, part-has}
use Rattle.schedule_core.proofs.MissingRoots.{tells-front, tells-later}
use Rattle.schedule_core.proofs.named_roots.missing_root.Goals as goal

pub missing_argument-requires-clause-roots : goal.missing_argument-requires-clause-roots
missing_argument-requires-clause-roots c =
    subst (λ (l : List RootArgument). AreRoots (flat_map root_passed l)) (sym c.as_slice.ensures)
    (front-has (λ r. r < 16) (flat_map root_passed c.args.line.now.arguments) (root_waited c.args.line.now.behind) c.requires.roots)

pub missing_behind-requires-clause-roots : goal.missing_behind-requires-clause-roots
missing_behind-requires-clause-roots c = part-has (λ r. r < 16) (flat_map root_passed c.args.line.now.arguments) (root_waited c.args.line.now.behind) c.requires.roots

pub returns-in-Some : goal.returns-in-Some
returns-in-Some c =
    tells-front (view c.args.pass.now) (flat_map root_passed c.args.line.now.arguments) (root_waited c.args.line.now.behind) c.in-Some.root
    (subst (λ (l : List RootArgument). TellsMissing (view c.args.pass.now) (flat_map root_passed l) (Some c.in-Some.root)) c.as_slice.ensures c.in-Some.ensures)

pub returns-in-None : goal.returns-in-None
returns-in-None c =
    tells-later (view c.args.pass.now) (flat_map root_passed c.args.line.now.arguments) (root_waited c.args.line.now.behind) c.missing_behind.result
    (subst (λ (l : List RootArgument). TellsMissing (view c.args.pass.now) (flat_map root_passed l) None) c.as_slice.ensures c.in-None.ensures) c.missing_behind.ensures
