use Rattle.std.proofs.Common.{ℕ, List, map, sym, subst}
use Rattle.frame_code.specs.Entries.{future_of}
use Rattle.frame_code.specs.Names.{present}
use Rattle.frame_code.specs.declared.entries.Passed.{Passed}
use Rattle.step_table.specs.Passes.{view, plan}
use Rattle.schedule_core.specs.NewTasks.{units_given}
use Rattle.schedule_core.specs.References.{HasEach}
use Rattle.schedule_core.specs.declared.new_tasks.Given.{Given}
use Rattle.schedule_core.proofs.new_tasks.see_given.Goals as goal

pub see_passed-requires-clause-has : goal.see_passed-requires-clause-has
see_passed-requires-clause-has c =
    subst (λ (l : List Passed). HasEach (plan c.args.shared.now) (present (map future_of l)) (view c.args.pass.now)) (sym c.as_slice.ensures)
    (subst (λ (x : Given). HasEach (plan c.args.shared.now) (units_given x) (view c.args.pass.now)) c.in-Call.is c.requires.has)

pub see_members-requires-clause-has : goal.see_members-requires-clause-has
see_members-requires-clause-has c =
    subst (λ (l : List ℕ). HasEach (plan c.args.shared.now) l (view c.args.pass.now)) (sym c.as_slice-in-Members.ensures)
    (subst (λ (x : Given). HasEach (plan c.args.shared.now) (units_given x) (view c.args.pass.now)) c.in-Members.is c.requires.has)
