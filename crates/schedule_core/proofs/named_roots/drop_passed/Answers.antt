use Rattle.std.proofs.Common.{◌+◌, ◌++◌, ◌∙◌, ℕ, Option, List, drop, map, refl, sym, ap, subst, arith}
use Rattle.std.proofs.lemmas.List.{drop_all}
use Rattle.std.specs.Option.{option_to_list}
use Rattle.std.specs.Prelude.{slice_index_or}
use Rattle.frame_code.specs.Entries.{future_of}
use Rattle.frame_code.specs.Names.{present}
use Rattle.frame_code.specs.declared.entries.Passed.TheVariants as passed
use Rattle.step_table.specs.Passes.{view}
use Rattle.schedule_core.proofs.EachFacts.{IsDroppingEach, drop-front, dropping-starts, dropping-on, dropping-done}
use Rattle.schedule_core.proofs.SeeingTasks.{passed-first}
use Rattle.schedule_core.proofs.named_roots.drop_passed.Goals as goal

pub passed-init : goal.passed-init
passed-init c = dropping-starts c.args.shared.now.setup (present (map future_of c.args.passed.now)) c.args.pass.now c.requires.may

pub drop_if-requires-clause-may : goal.drop_if-requires-clause-may
drop_if-requires-clause-may c =
    let given = c.args.passed.now in let i = c.passed.at in let g = c.args.shared.now.setup in let one = slice_index_or given i (passed.Number 0) in
    let so = subst (λ (rest : List ℕ). IsDroppingEach g (present (map future_of given)) rest c.args.pass.now c.passed.pass) (passed-first given i one c.passed-test.true refl ∙ ap (λ (o : Option ℕ). option_to_list o ++ present (map future_of (drop (i + 1) given))) (sym c.unit_passed.ensures)) c.passed.invariant in
    drop-front g (option_to_list c.unit_passed.result) (present (map future_of (drop (i + 1) given))) (view c.passed.pass) so.may

pub passed-preserved : goal.passed-preserved
passed-preserved c =
    let given = c.args.passed.now in let i = c.passed.at in let g = c.args.shared.now.setup in let one = slice_index_or given i (passed.Number 0) in
    let so = subst (λ (rest : List ℕ). IsDroppingEach g (present (map future_of given)) rest c.args.pass.now c.passed.pass) (passed-first given i one c.passed-test.true refl ∙ ap (λ (o : Option ℕ). option_to_list o ++ present (map future_of (drop (i + 1) given))) (sym c.unit_passed.ensures)) c.passed.invariant in
    dropping-on g (present (map future_of given)) (option_to_list c.unit_passed.result) (present (map future_of (drop (i + 1) given))) c.args.pass.now c.passed.pass c.drop_if.new.pass so c.drop_if.ensures.pass
    c.drop_if.ensures.dropped

pub returns-clause-dropped : goal.returns-clause-dropped
returns-clause-dropped c =
    let given = c.args.passed.now in let i = c.passed.at in
    dropping-done c.args.shared.now.setup (present (map future_of given)) (present (map future_of (drop i given))) c.args.pass.now c.passed.pass
    (ap (λ l. present (map future_of l)) (drop_all i given (omega (arith, c.passed-test.false)))) c.passed.invariant
