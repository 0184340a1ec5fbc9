use Rattle.std.proofs.Common.{◌+◌, ℕ, List, drop, refl, subst}
use Rattle.std.specs.List.{flat_map}
use Rattle.std.specs.Prelude.{slice_index_or, ◌<◌}
use Rattle.record_core.specs.RootEnds.{root_passed}
use Rattle.task_syntax.specs.declared.program.RootArgument.TheVariants as root_argument
use Rattle.step_table.specs.Passes.{view}
use Rattle.schedule_core.proofs.MissingRoots.{IsLookingOn, at-there, each-passed, looks-end, looks-on, looks-found, roots-first}
use Rattle.schedule_core.proofs.named_roots.missing_argument.Goals as goal

pub missing_in-requires-clause-roots : goal.missing_in-requires-clause-roots
missing_in-requires-clause-roots c =
    let all = c.args.arguments.now in let i = c.arguments.at in
    each-passed (λ r. r < 16) all i (slice_index_or all i (root_argument.Number 0)) (at-there all i (root_argument.Number 0) c.arguments-test.true) c.requires.roots

pub returns-in-Some : goal.returns-in-Some
returns-in-Some c =
    let all = c.args.arguments.now in let i = c.arguments.at in let one = slice_index_or all i (root_argument.Number 0) in let v = view c.args.pass.now in
    let so = subst (λ (rest : List ℕ). IsLookingOn v (flat_map root_passed all) rest) (roots-first all i one c.arguments-test.true refl) c.arguments.invariant in
    looks-found v (flat_map root_passed all) (root_passed one) (flat_map root_passed (drop (i + 1) all)) c.in-Some.root so c.in-Some.ensures

pub arguments-preserved : goal.arguments-preserved
arguments-preserved c =
    let all = c.args.arguments.now in let i = c.arguments.at in let one = slice_index_or all i (root_argument.Number 0) in let v = view c.args.pass.now in
    let so = subst (λ (rest : List ℕ). IsLookingOn v (flat_map root_passed all) rest) (roots-first all i one c.arguments-test.true refl) c.arguments.invariant in
    looks-on v (flat_map root_passed all) (root_passed one) (flat_map root_passed (drop (i + 1) all)) so c.in-None.ensures

pub returns : goal.returns
returns c = looks-end (view c.args.pass.now) (flat_map root_passed c.args.arguments.now) c.args.arguments.now c.arguments.at c.arguments-test.false c.arguments.invariant
