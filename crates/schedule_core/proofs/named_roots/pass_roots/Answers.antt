use Rattle.std.proofs.Common.{◌+◌, ℕ, List, drop, refl, sym, subst, arith}
use Rattle.std.specs.List.{flat_map}
use Rattle.std.specs.Prelude.{slice_index_or}
use Rattle.record_core.specs.RootEnds.{root_passed}
use Rattle.frame_code.specs.declared.entries.Passed.{Passed}
use Rattle.task_syntax.specs.declared.program.RootArgument.TheVariants as root_argument
use Rattle.step_table.specs.Passes.{plan}
use Rattle.schedule_core.proofs.EachFacts.{front-has}
use Rattle.schedule_core.proofs.MissingRoots.{at-there, roots-first}
use Rattle.schedule_core.proofs.PassedRoots.{IsPassing, passing-starts, passing-room, passing-on}
use Rattle.schedule_core.proofs.named_roots.pass_roots.Goals as goal

pub arguments-init : goal.arguments-init
arguments-init c = passing-starts (plan c.args.shared.now) c.args.arguments.now (flat_map root_passed c.args.arguments.now) c.args.pass.now c.new-passed.result.items c.new-passed.ensures c.requires.named

pub pass_root-one-requires-clause-named : goal.pass_root-one-requires-clause-named
pass_root-one-requires-clause-named c =
    let all = c.args.arguments.now in let i = c.arguments.at in let one = slice_index_or all i (root_argument.Number 0) in let g = plan c.args.shared.now in
    let so = subst (λ (rest : List ℕ). IsPassing g all rest i c.arguments.passed.items c.args.pass.now c.arguments.pass) (roots-first all i one c.arguments-test.true refl) c.arguments.invariant in
    front-has _ (root_passed one) (flat_map root_passed (drop (i + 1) all)) so.has

pub pass_root-one-requires-clause-room : goal.pass_root-one-requires-clause-room
pass_root-one-requires-clause-room c =
    omega (
      arith,
      c.requires.room,
      c.requires.few,
      c.arguments-test.true,
      passing-room (plan c.args.shared.now) c.args.arguments.now (flat_map root_passed (drop c.arguments.at c.args.arguments.now)) c.arguments.at c.arguments.passed.items c.args.pass.now c.arguments.pass c.arguments.invariant,
    )

pub arguments-preserved : goal.arguments-preserved
arguments-preserved c =
    let all = c.args.arguments.now in let i = c.arguments.at in let one = slice_index_or all i (root_argument.Number 0) in let g = plan c.args.shared.now in
    let so = subst (λ (rest : List ℕ). IsPassing g all rest i c.arguments.passed.items c.args.pass.now c.arguments.pass) (roots-first all i one c.arguments-test.true refl) c.arguments.invariant in
    subst (λ (l : List Passed). IsPassing g all (flat_map root_passed (drop (i + 1) all)) (i + 1) l c.args.pass.now c.pass_root-one.new.pass) (sym c.push.ensures.items)
    (passing-on g all (root_passed one) (flat_map root_passed (drop (i + 1) all)) i c.arguments.passed.items one c.pass_root-one.result c.args.pass.now c.arguments.pass c.pass_root-one.new.pass so
    (at-there all i (root_argument.Number 0) c.arguments-test.true) c.pass_root-one.ensures.pass c.pass_root-one.ensures.passed)
