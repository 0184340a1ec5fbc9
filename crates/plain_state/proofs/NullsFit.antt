-- How many null answers a run may have counted: each ended an activation or a root.
use Rattle.std.proofs.Common.{◌≡◌, ℕ, ◌+◌, ◌<◌, ◌≤◌, ◌^◌, Option, Some, None, length, ap, arith}
use Rattle.std.proofs.lemmas.Option.{slice_get_within}
use Rattle.task_syntax.specs.declared.program.Root.{Root as RootLine}
use Rattle.task_syntax.specs.declared.program.Program.{Program}
use Rattle.task_syntax.specs.declared.columns.Columns.{Columns}
use Rattle.task_meaning.specs.Worths.{Respawn}
use Rattle.task_meaning.specs.Frame.{set_future}
use Rattle.frame_code.specs.Words.{OfKind}
use Rattle.record_core.specs.Numbers.{found}
use Rattle.record_core.specs.Journal.{next_number, IsJournal}
use Rattle.record_core.specs.EndSeen.{RunPlan}
use Rattle.record_core.specs.declared.rows.ActivationRow.{ActivationRow}
use Rattle.record_core.specs.declared.rows.TaskRow.{TaskRow}
use Rattle.record_core.specs.declared.rows.CutTag.{CutTag}
use Rattle.record_core.proofs.TotalFacts.{total-bounded}
use Rattle.run_model.specs.State.{Body, Outcome, Named, Refused, Skipped, Run}
use Rattle.run_model.specs.Step.{arrives, waits_or_queues, accepts, draws, with_body, with_root, root_request, at_first}
use Rattle.run_model.specs.Move.{Notes, with_notes, Renews, Refuses, RefusesRoot, Move, RootMove}
use Rattle.run_model.proofs.ByNumber.{length_snoc}
use Rattle.run_model.proofs.Reached.{IsNextRoot}

-- one, if something runs
abbrev pub running_count : Option ℕ → ℕ
running_count None = 0
running_count (Some n) = 1

-- each null answer has ended an activation or a root, and no more roots were asked for than there are
pub record NullsFit (p : Program) (r : Run) : Type 0 where
  pub ended : r.nulls + running_count r.running ≤ length r.roots + r.journal.stamps
  pub roots : length r.roots ≤ length p.roots

module _ (p : Program) where
  -- an arrival keeps it
  arrives_fit : (r : Run) (n : ℕ) (after : Option ℕ) → NullsFit p r → NullsFit p (arrives r n after)
  arrives_fit r n None now = record { ended = now.ended; roots = now.roots }
  arrives_fit r n (Some u) now = by (found r.outcomes u)
    where
      by : (o : Option Outcome) → NullsFit p (waits_or_queues o r n u)
      by None = record { ended = now.ended; roots = now.roots }
      by (Some outcome) = record { ended = now.ended; roots = now.roots }

  -- a renewal or a refusal notes at most one null answer
  renews_noted : (c : Columns) (units : ℕ) (r : Run) (n : ℕ) (body to : Body) (after : Option ℕ) (priority : _) (notes : Notes)
      → Renews p c units r n body to after priority notes → notes.nulls ≤ r.nulls + 1
  renews_noted c units r n _ _ _ _ _ (Renews.again q line target waits there e) = omega arith
  renews_noted c units r n _ _ _ _ _ (Renews.retries q request to how e) = omega arith
  renews_noted c units r n _ _ _ _ _ (Renews.behind members next u e) = omega arith

  -- so does a refusal
  refuses_noted : (c : Columns) (units : ℕ) (r : Run) (n : ℕ) (body : Body) (tag : CutTag) (notes : Notes) → Refuses p c units r n body tag notes
      → notes.nulls ≤ r.nulls + 1
  refuses_noted c units r n _ _ _ (Refuses.no_block q request to how e) = omega arith
  refuses_noted c units r n _ _ _ (Refuses.no_number q request to retry block how e full) = omega arith
  refuses_noted c units r n _ _ _ (Refuses.no_renewal body to after priority notes how full) = renews_noted c units r n body to after priority notes
      how

  -- and a refusal of a root
  root_noted : (units : ℕ) (r : Run) (root : RootLine) (tag : CutTag) (notes : Notes) → RefusesRoot p units r root tag notes
      → notes.nulls ≤ r.nulls + 1
  root_noted units r root _ _ (RefusesRoot.no_block e) = omega arith
  root_noted units r root _ _ (RefusesRoot.no_number block e full) = omega arith

  -- it holds first
  pub fit_first : (plan : RunPlan) → NullsFit p (at_first plan)
  fit_first plan = record { ended = omega arith; roots = omega arith }

  -- a move of a root keeps it
  pub fit_root : (units : ℕ) (r s : Run) (root : RootLine) → IsNextRoot p r root → NullsFit p r → RootMove p units r root s → NullsFit p s
  fit_root units r _ root next now (RootMove.named block free placed some) =
      let within = slice_get_within p.roots (length r.roots) root next.there in
      let longer = length_snoc r.roots (Named (next_number r.journal)) in
      arrives_fit (with_root (accepts units r (root_request p r root) block) (Named (next_number r.journal))) (next_number r.journal)
      (root_request p r root).after
      (record { ended = omega (arith, now.ended, longer); roots = omega (arith, within, longer) })
  fit_root units r _ root next now (RootMove.refused tag notes free how) =
      let within = slice_get_within p.roots (length r.roots) root next.there in
      let longer = length_snoc r.roots (Refused tag) in
      record { ended = omega (arith, now.ended, longer, root_noted units r root tag notes how); roots = omega (arith, within, longer) }
  fit_root units r _ root next now (RootMove.skipped first e) =
      let within = slice_get_within p.roots (length r.roots) root next.there in
      let longer = length_snoc r.roots (Skipped first.0 first.1) in
      record { ended = omega (arith, now.ended, longer); roots = omega (arith, within, longer) }

  -- something runs
  runs_one : (r : Run) (n : ℕ) → r.running ≡ Some n → running_count r.running ≡ 1
  runs_one r n running = ap running_count running

  -- each move keeps it
  pub fit_move : (c : Columns) (units : ℕ) (r s : Run) → NullsFit p r → Move p c units r s → NullsFit p s
  fit_move c units r _ now (Move.goes_on t n q next runs goes) = record { ended = now.ended; roots = now.roots }
  fit_move c units r _ now (Move.spawned t n to q request retry block runs asks placed some) =
      arrives_fit (with_body (accepts units r request block) t (OfKind (set_future q to (Some (next_number r.journal)))))
      (next_number r.journal) request.after (record { ended = now.ended; roots = now.roots })
  fit_move c units r _ now (Move.respawned t n body to after priority notes runs renews some) =
      arrives_fit (with_body (record (draws (with_notes r notes) (Some t) after priority (Respawn t after) None None) { running = None }) t to)
      (next_number r.journal) after
      (record {
        ended = omega (arith, now.ended, runs_one r n runs.running, renews_noted c units r n body to after priority notes renews);
        roots =
            now.roots;
      })
  fit_move c units r _ now (Move.gave t n body v runs answers) = record { ended = omega (arith, now.ended); roots = now.roots }
  fit_move c units r _ now (Move.refused t n body tag notes runs refuses) =
      record { ended = omega (arith, now.ended, runs_one r n runs.running, refuses_noted c units r n body tag notes refuses); roots = now.roots }
  fit_move c units r _ now (Move.started n left idle next uncut) = record { ended = omega (arith, now.ended); roots = now.roots }
  fit_move c units r _ now (Move.cut_at_start n left row u tag idle next there after cut) = record {
    ended = omega
        (arith, now.ended);
    roots = now.roots;
  }

-- so there are few, where the journal is short
pub few_nulls : (p : Program) (r : Run) → NullsFit p r → IsJournal r.journal → length p.roots ≤ 16 → r.journal.limit ≤ 4000000 → r.nulls + 1 < 2 ^ 64
few_nulls p r now journal roots limit =
    let started = total-bounded (λ (row : ActivationRow). elim row.start [ None ↦ 0 | Some s ↦ 1 ]) 1 r.journal.rows
    (λ place row e. one_start row.start) in
    let finished = total-bounded (λ (task : TaskRow). elim task.finish [ None ↦ 0 | Some f ↦ 1 ]) 1 r.journal.tasks
    (λ place task e. one_finish task.finish) in
    omega (arith, now.ended, now.roots, journal.counted, started, finished, journal.beside, journal.within, roots, limit)
  where
    one_start : (o : Option ℕ) → ◌≤◌ (elim o [ None ↦ 0 | Some s ↦ 1 ]) 1
    one_start None = omega arith
    one_start (Some s) = omega arith

    one_finish : (o : Option ℕ) → ◌≤◌ (elim o [ None ↦ 0 | Some f ↦ 1 ]) 1
    one_finish None = omega arith
    one_finish (Some f) = omega arith
