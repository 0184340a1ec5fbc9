-- What is known of every run of a plan, while roots are asked for and afterwards: numbers, blocks, and how many null answers.
use Rattle.std.proofs.Common.{ℕ, ◌+◌, ◌<◌, ◌≤◌, ◌^◌, length, sym, subst, take, drop, arith}
use Rattle.std.proofs.lemmas.List.{take-append-drop, length-take-le}
use Rattle.task_syntax.specs.declared.program.Root.{Root as RootLine}
use Rattle.task_syntax.specs.declared.program.Program.{Program}
use Rattle.task_syntax.specs.declared.columns.Columns.{Columns}
use Rattle.kt_words.specs.Ranges.{IsUnitCount}
use Rattle.kt_words.proofs.Powers.{unit_count}
use Rattle.record_core.specs.EndSeen.{RunPlan}
use Rattle.run_model.specs.State.{Run}
use Rattle.run_model.specs.Step.{asks_roots, at_first}
use Rattle.run_model.specs.Move.{RootMove}
use Rattle.run_model.proofs.Reached.{IsNextRoot, IsKept, HasAsked, asked_front, always}
use Rattle.run_model.proofs.RunStands.{RunStands, run_first, run_root, run_move}
use Rattle.run_model.proofs.BlocksKept.{BlocksHeld, blocks_first, blocks_root, blocks_move}
use Rattle.plain_state.specs.Engine.{EngineState}
use Rattle.plain_state.specs.Sees.{IsReached}
use Rattle.plain_state.specs.Laws.{MayRun, Asked}
use Rattle.plain_state.proofs.NullsFit.{NullsFit, fit_first, fit_root, fit_move, few_nulls}

pub record Known (p : Program) (plan : RunPlan) (r : Run) : Type 0 where
  pub run : RunStands p plan.limit r
  pub blocks : BlocksHeld p plan r
  pub nulls : NullsFit p r

module _ (p : Program) (plan : RunPlan) (may : MayRun p plan) where
  -- a move of a root keeps it
  known_root : (r s : Run) (root : RootLine) → IsNextRoot p r root → Known p plan r → RootMove p plan.units r root s → Known p plan s
  known_root r s root next now move = record {
    run = run_root p plan.limit plan.units r s root next now.run move;
    blocks = blocks_root p plan may.geometry r s root next now.run.numbers now.blocks move;
    nulls = fit_root p plan.units r s root next now.nulls move;
  }

  -- it holds first
  known_first : Known p plan (at_first plan)
  known_first = record { run = run_first p plan; blocks = blocks_first p plan may.geometry; nulls = fit_first p plan }

  -- each move keeps it
  known_kept : (c : Columns) → IsKept p c plan (Known p plan)
  known_kept c = record {
    first = known_first;
    root = known_root;
    move = λ r s now move. record {
      run = run_move p c plan.limit plan.units r s now.run move;
      blocks = blocks_move p plan may.geometry c r s now.run.numbers now.blocks move;
      nulls = fit_move p c plan.units r s now.nulls move;
    };
  }

  -- in each state that is reached
  pub known_reached : (c : Columns) (r : Run) → IsReached p c plan r → Known p plan r
  known_reached c r (taken, e) = subst (Known p plan) e (always p c plan (Known p plan) (known_kept c) taken)

  -- and after some roots were asked for
  pub known_asked : (e : EngineState) (done : ℕ) (asked : Asked p plan e done) → HasAsked p plan (Known p plan) done asked.run
  known_asked e done asked =
      subst (HasAsked p plan (Known p plan) done) asked.asked
      (subst (λ n. HasAsked p plan (Known p plan) n (asks_roots p plan.units (at_first plan) (take done p.roots)))
      (length-take-le done p.roots asked.within)
      (asked_front p plan (Known p plan) known_root known_first (take done p.roots) (drop done p.roots) (sym (take-append-drop done p.roots))))

  -- the units of a superblock are a power of two
  pub units_count : IsUnitCount plan.units
  units_count = unit_count plan.units may.geometry.units_fit

  -- there are few bodies
  pub few_bodies : (r : Run) → Known p plan r → length r.bodies ≤ 4000000
  few_bodies r now = omega (arith, now.run.numbers.beside.of_bodies, now.run.journal.journal.within, now.run.journal.of_plan, may.few)

  -- there are few roots
  pub few_roots : (r : Run) → Known p plan r → length r.roots ≤ 16
  few_roots r now = omega (arith, now.nulls.roots, may.formed.roots_fit)

  -- one more null answer can be counted
  pub nulls_fit : (r : Run) → Known p plan r → r.nulls + 1 < 2 ^ 64
  nulls_fit r now = few_nulls p r now.nulls now.run.journal.journal may.formed.roots_fit (omega (arith, now.run.journal.of_plan, may.few))

  -- there are few numbers
  pub few_rows : (r : Run) → Known p plan r → length r.journal.rows ≤ 4000000
  few_rows r now = omega (arith, now.run.journal.journal.within, now.run.journal.of_plan, may.few)
