use Rattle.std.proofs.Common.{◌+◌, ℕ, List, drop, map, refl, subst}
use Rattle.std.specs.Option.{option_to_list}
use Rattle.std.specs.Prelude.{slice_index_or}
use Rattle.frame_code.specs.Entries.{future_of}
use Rattle.frame_code.specs.Names.{present}
use Rattle.frame_code.specs.declared.entries.Passed.TheVariants as passed
use Rattle.step_table.specs.Passes.{view, plan}
use Rattle.step_table.specs.RecordHands.{HasFuture}
use Rattle.schedule_core.proofs.EachFacts.{front-has}
use Rattle.schedule_core.proofs.SeeingTasks.{IsSeeingEach, seeing-starts, seeing-on, passed-first}
use Rattle.schedule_core.proofs.sights.see_passed.Goals as goal

pub passed-init : goal.passed-init
passed-init c = seeing-starts (plan c.args.shared.now) (present (map future_of c.args.passed.now)) c.args.pass.now c.requires.has

pub see_one-requires-clause-has : goal.see_one-requires-clause-has
see_one-requires-clause-has c =
    let given = c.args.passed.now in let i = c.passed.at in let g = plan c.args.shared.now in let one = slice_index_or given i (passed.Number 0) in
    let so = subst (λ (rest : List ℕ). IsSeeingEach g (present (map future_of given)) rest c.args.pass.now c.passed.pass) (passed-first given i one c.passed-test.true refl) c.passed.invariant in
    front-has (λ (u : ℕ). HasFuture g u (view c.passed.pass)) (option_to_list (future_of one)) (present (map future_of (drop (i + 1) given))) so.has

pub passed-preserved : goal.passed-preserved
passed-preserved c =
    let given = c.args.passed.now in let i = c.passed.at in let g = plan c.args.shared.now in let one = slice_index_or given i (passed.Number 0) in
    let so = subst (λ (rest : List ℕ). IsSeeingEach g (present (map future_of given)) rest c.args.pass.now c.passed.pass) (passed-first given i one c.passed-test.true refl) c.passed.invariant in
    seeing-on g (present (map future_of given)) (option_to_list (future_of one)) (present (map future_of (drop (i + 1) given))) c.args.pass.now c.passed.pass c.see_one.new.pass so c.see_one.ensures.pass
    c.see_one.ensures.seen
