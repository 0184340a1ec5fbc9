-- The laws of ended runs, for any program, and for a well-formed one.
use Rattle.std.proofs.Common.{◌≡◌, ℕ, ◌≤◌, length, sym, ◌∙◌, ap, subst}
use Rattle.task_syntax.specs.Form.{IsWellFormed}
use Rattle.task_syntax.specs.declared.program.Program.{Program}
use Rattle.task_syntax.specs.declared.columns.Columns.{Columns}
use Rattle.record_core.specs.EndSeen.{RunPlan}
use Rattle.run_model.specs.State.{Run}
use Rattle.run_model.specs.End.{OneThreadRun, root_end, state_at}
use Rattle.run_model.specs.Laws.{StartsOnce, EndsAreInOrder, EndsHideNoCut, EndsAreAsAsked, EndsSkipAsNamed}
use Rattle.run_model.proofs.StandsStill.{IsQuiet}
use Rattle.run_model.proofs.Reached.{asked_all, always, always_from}
use Rattle.run_model.proofs.RootCount.{move_same_roots}
use Rattle.run_model.proofs.RootsInvariant.{RootsStand}
use Rattle.run_model.proofs.RootsKept.{roots_first, roots_root, roots_move}
use Rattle.run_model.proofs.JournalGrows.{steps_grow}
use Rattle.run_model.proofs.MadeInvariant.{OrderStands}
use Rattle.run_model.proofs.OrderKept.{order_first, order_root, order_move}
use Rattle.run_model.proofs.RunStands.{RunStands, run_first, run_root, run_move, run_kept, run_stands}
use Rattle.run_model.proofs.EndFields.{map_length, ends_own, ends_null, ends_null_once, ends_limited, ends_limited_root, ends_causes, ends_started, ends_finished, ends_stamped, ends_cut, ends_named, ends_hide, ends_asked}

module _ (p : Program) (c : Columns) (plan : RunPlan) where
  -- the end is a state of the run, and quiet
  pub end_stands : (end : Run) → OneThreadRun p c plan end → RunStands p plan.limit end
  end_stands end run = subst (RunStands p plan.limit) run.reached (run_stands p c plan run.taken)

  pub end_quiet : (end : Run) → OneThreadRun p c plan end → IsQuiet end
  end_quiet end run = record { idle = run.idle; empty = run.quiet }

  -- each root has a word
  pub root_count : (taken : ℕ) → length (state_at p c plan taken).roots ≡ length p.roots
  root_count taken =
      always_from p c plan (RunStands p plan.limit) (λ r. length r.roots ≡ length p.roots) (asked_all p c plan (RunStands p plan.limit) (run_kept p c plan)).roots
      (λ r s now then move. ap length (move_same_roots p c plan.units r s move) ∙ then) (run_kept p c plan) taken

  -- together with what became of the roots of a well-formed program
  pub record WithRoots (r : Run) : Type 0 where
    pub run : RunStands p plan.limit r
    pub roots : RootsStand p r

  pub roots_stand : IsWellFormed p → (taken : ℕ) → WithRoots (state_at p c plan taken)
  roots_stand formed taken = always p c plan WithRoots (record {
    first = record { run = run_first p plan; roots = roots_first p plan };
    root = λ r s root next now move. record { run = run_root p plan.limit plan.units r s root next now.run move; roots = roots_root p formed plan.units r s root next now.run.numbers now.roots move };
    move = λ r s now move. record { run = run_move p c plan.limit plan.units r s now.run move; roots = roots_move p c plan.units r s now.roots move };
  }) taken

  pub end_roots : IsWellFormed p → (end : Run) → OneThreadRun p c plan end → RootsStand p end
  end_roots formed end run = subst (RootsStand p) run.reached (roots_stand formed run.taken).roots

  -- together with the order of roots' tasks and of cut activations
  pub record WithOrder (r : Run) : Type 0 where
    pub run : RunStands p plan.limit r
    pub order : OrderStands r

  order_stands : (taken : ℕ) → WithOrder (state_at p c plan taken)
  order_stands taken = always p c plan WithOrder (record {
    first = record { run = run_first p plan; order = order_first plan };
    root = λ r s root next now move. record { run = run_root p plan.limit plan.units r s root next now.run move; order = order_root p plan.limit plan.units r s root next now.run now.order move };
    move = λ r s now move. record { run = run_move p c plan.limit plan.units r s now.run move; order = order_move p c plan.limit plan.units r s now.run now.order move };
  }) taken

  pub end_order : (end : Run) → OneThreadRun p c plan end → OrderStands end
  end_order end run = subst OrderStands run.reached (order_stands run.taken).order

pub starts_once : StartsOnce
starts_once = record {
  stays = λ p c plan taken more. steps_grow p c plan.limit plan.units more (state_at p c plan taken) (run_stands p c plan taken);
  behind = λ p c plan taken n u s row there after start. (run_stands p c plan taken).journal.journal.ordered.behind n u s row there after start;
  all_start = λ p c plan end run. ends_started plan end p plan.limit (end_stands p c plan end run) (end_quiet p c plan end run);
  all_finish = λ p c plan end run. ends_finished plan end p plan.limit (end_stands p c plan end run) (end_quiet p c plan end run);
}

pub ends_in_order : EndsAreInOrder
ends_in_order p c plan end run =
    let now = end_stands p c plan end run in
    let quiet = end_quiet p c plan end run in
    record {
      beside = now.numbers.beside.of_tasks;
      of_tasks = now.numbers.of_tasks;
      started = ends_started plan end p plan.limit now quiet;
      finished = ends_finished plan end p plan.limit now quiet;
      stamped = ends_stamped plan end p plan.limit now quiet;
      ordered = now.journal.journal.ordered;
      own = ends_own plan end p plan.limit now;
      cuts = ends_cut plan end p plan.limit now quiet;
      causes = ends_causes plan end p plan.limit now;
      caused = now.outcomes.open_;
      nulls = ends_null plan end p plan.limit now;
      nulls_once = ends_null_once plan end p plan.limit now;
      as_many = map_length (root_end end) end.roots ∙ ap (λ (r : Run). length r.roots) (sym run.reached) ∙ root_count p c plan run.taken;
      within = subst (λ limit. length end.journal.rows ≤ limit) now.journal.of_plan now.journal.journal.within;
      limited = ends_limited plan end p plan.limit now;
      limited_root = ends_limited_root plan end p plan.limit now;
    }

pub ends_hide_no_cut : EndsHideNoCut
ends_hide_no_cut p c plan end run = ends_hide plan end p plan.limit (end_stands p c plan end run) (end_quiet p c plan end run) (end_order p c plan end run)

pub ends_are_as_asked : EndsAreAsAsked
ends_are_as_asked p c plan end formed run = ends_asked plan end p plan.limit (end_stands p c plan end run) (end_quiet p c plan end run) (end_roots p c plan formed end run) (end_order p c plan end run)

pub ends_skip : EndsSkipAsNamed
ends_skip p c plan end formed run = ends_named plan end p (end_roots p c plan formed end run)
