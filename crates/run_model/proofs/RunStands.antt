-- What every run keeps, of any program: numbers, ranks, outcomes, calls, null answers, journal and causes.
use Rattle.std.proofs.Common.{ℕ}
use Rattle.task_syntax.specs.declared.program.Root.{Root as RootLine}
use Rattle.task_syntax.specs.declared.program.Program.{Program}
use Rattle.task_syntax.specs.declared.columns.Columns.{Columns}
use Rattle.record_core.specs.EndSeen.{RunPlan}
use Rattle.run_model.specs.State.{Run}
use Rattle.run_model.specs.Step.{steps, asked, at_first}
use Rattle.run_model.specs.Move.{Move, RootMove}
use Rattle.run_model.proofs.NumbersInvariant.{NumbersStand}
use Rattle.run_model.proofs.RankInvariant.{RankStands}
use Rattle.run_model.proofs.OutcomesInvariant.{OutcomesStand}
use Rattle.run_model.proofs.CallsInvariant.{CallsStand}
use Rattle.run_model.proofs.NullsInvariant.{NullsStand}
use Rattle.run_model.proofs.JournalInvariant.{JournalStands}
use Rattle.run_model.proofs.CausesInvariant.{CausesStand}
use Rattle.run_model.proofs.NumbersKept.{numbers_first, numbers_root, numbers_move}
use Rattle.run_model.proofs.RankKept.{rank_first, rank_root, rank_move}
use Rattle.run_model.proofs.OutcomesKept.{outcomes_first, outcomes_root, outcomes_move}
use Rattle.run_model.proofs.CallsKept.{calls_first, calls_root, calls_move}
use Rattle.run_model.proofs.NullsKept.{nulls_first, nulls_root, nulls_move}
use Rattle.run_model.proofs.JournalKept.{journal_first, journal_root, journal_move}
use Rattle.run_model.proofs.CausesKept.{causes_first, causes_root, causes_move}
use Rattle.run_model.proofs.Reached.{IsNextRoot, IsKept, always}

pub record RunStands (p : Program) (limit : ℕ) (r : Run) : Type 0 where
  pub numbers : NumbersStand r
  pub rank : RankStands r
  pub outcomes : OutcomesStand r
  pub calls : CallsStand r
  pub nulls : NullsStand p r
  pub journal : JournalStands limit r
  pub causes : CausesStand r

-- what every run keeps holds before the first root
pub run_first : (p : Program) (plan : RunPlan) → RunStands p plan.limit (at_first plan)
run_first p plan = record {
  numbers = numbers_first plan;
  rank = rank_first plan;
  outcomes = outcomes_first plan;
  calls = calls_first plan;
  nulls = nulls_first p plan;
  journal = journal_first plan;
  causes = causes_first plan;
}

-- a root's move keeps it
pub run_root : (p : Program) (limit units : ℕ) (r s : Run) (root : RootLine) → IsNextRoot p r root → RunStands p limit r → RootMove p units r root s → RunStands p limit s
run_root p limit units r s root next now move = record {
  numbers = numbers_root p units r s root next now.numbers move;
  rank = rank_root p units r s root next now.numbers now.rank move;
  outcomes = outcomes_root p units r s root next now.outcomes move;
  calls = calls_root p units r s root next now.numbers now.calls move;
  nulls = nulls_root p units r s root next now.nulls move;
  journal = journal_root limit p units r s root next now.numbers now.journal move;
  causes = causes_root p units r s root next now.numbers now.journal.journal now.causes move;
}

-- each move keeps it
pub run_move : (p : Program) (c : Columns) (limit units : ℕ) (r s : Run) → RunStands p limit r → Move p c units r s → RunStands p limit s
run_move p c limit units r s now move = record {
  numbers = numbers_move p c units r s now.numbers move;
  rank = rank_move p c units r s now.numbers now.rank move;
  outcomes = outcomes_move p c units r s now.numbers now.outcomes move;
  calls = calls_move p c units r s now.numbers now.calls move;
  nulls = nulls_move p c units r s now.numbers now.outcomes now.nulls move;
  journal = journal_move limit p c units r s now.numbers now.outcomes now.journal move;
  causes = causes_move p c units r s now.numbers now.outcomes now.journal.journal now.causes move;
}

-- so it holds at each step of each run
pub run_kept : (p : Program) (c : Columns) (plan : RunPlan) → IsKept p c plan (RunStands p plan.limit)
run_kept p c plan = record {
  first = run_first p plan;
  root = λ r s root next now move. run_root p plan.limit plan.units r s root next now move;
  move = λ r s now move. run_move p c plan.limit plan.units r s now move;
}

-- at each step of each run
pub run_stands : (p : Program) (c : Columns) (plan : RunPlan) (taken : ℕ) → RunStands p plan.limit (steps p c plan.units taken (asked p plan))
run_stands p c plan taken = always p c plan (RunStands p plan.limit) (run_kept p c plan) taken
