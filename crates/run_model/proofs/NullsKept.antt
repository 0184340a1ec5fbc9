-- Each move keeps the account of null answers.
use Rattle.std.proofs.Common.{◌≡◌, ◌↔◌, ℕ, zero, suc, ◌+◌, ◌≤◌, true, Option, Some, None, List, [], ◌∷◌, ◌++◌, length, refl, sym, ◌∙◌, ap, arith}
use Rattle.std.proofs.lemmas.Option.{none-some}
use Rattle.task_syntax.specs.declared.value.Priority.{Priority}
use Rattle.task_syntax.specs.declared.program.Root.{Root as RootLine}
use Rattle.task_syntax.specs.declared.program.Program.{Program}
use Rattle.task_syntax.specs.declared.columns.Columns.{Columns}
use Rattle.task_syntax.specs.Columns.{no_columns}
use Rattle.task_meaning.specs.Worths.{Respawn}
use Rattle.task_meaning.specs.Frame.{set_future}
use Rattle.frame_code.specs.Words.{OfKind}
use Rattle.record_core.specs.Sums.{total}
use Rattle.record_core.specs.Numbers.{put_number, found}
use Rattle.record_core.specs.Journal.{next_number, unfinished, cause_in, cause_of}
use Rattle.record_core.specs.EndSeen.{RunPlan}
use Rattle.record_core.specs.EndSound.{null_task}
use Rattle.record_core.specs.declared.rows.TaskRow.{TaskRow}
use Rattle.record_core.specs.declared.rows.Cause.{Cause}
use Rattle.record_core.specs.declared.rows.Cause.TheVariants as cause
use Rattle.record_core.specs.declared.rows.CutTag.{CutTag}
use Rattle.record_core.specs.declared.rows.CutTag.TheVariants.{Null, Limit}
use Rattle.record_core.proofs.TotalFacts.{total-set, total-snoc}
use Rattle.run_model.specs.State.{Body, Outcome, Named, Refused, Skipped, Evidence, Run}
use Rattle.run_model.specs.Step.{arrives, waits_or_queues, accepts, draws, with_body, with_root, root_request, evidence_or, cause_of_cut, at_first}
use Rattle.run_model.specs.Move.{Notes, with_notes, RunsAt, begins, Renews, Refuses, RefusesRoot, Move, RootMove}
use Rattle.run_model.proofs.ByNumber.{member_at}
use Rattle.run_model.proofs.CodeFacts.{asks_no_retry}
use Rattle.run_model.proofs.NumbersInvariant.{NumbersStand}
use Rattle.run_model.proofs.NumbersParts.{held_starts, started_runs}
use Rattle.run_model.proofs.RunsFacts.{running_within, running_open}
use Rattle.run_model.proofs.OutcomesInvariant.{OutcomesStand}
use Rattle.run_model.proofs.NullsInvariant.{null_word, Nulls, NullsStand}
use Rattle.run_model.proofs.Reached.{IsNextRoot}

-- how many null answers a cause counts
abbrev pub null_cause : Cause → ℕ
null_cause why = null_task (record { finish = None; cause = why })

-- a task ends that had no cause
nulls_ends : (tasks : List TaskRow) (t stamp : ℕ) (why : Cause) → 1 ≤ t → t ≤ length tasks → cause_of tasks t ≡ cause.Clear
    → total null_task (put_number tasks t (record { finish = Some stamp; cause = why })) ≡ total null_task tasks + null_cause why
nulls_ends tasks zero stamp why some within clear = absurd (omega arith)
nulls_ends tasks (suc t) stamp why some within clear =
    let (was, there) = member_at tasks (suc t) some within in
    let changed = total-set null_task tasks t was (record { finish = Some stamp; cause = why }) there in
    let none : null_task was ≡ 0 = ap null_cause (sym (ap cause_in there) ∙ clear) in
    omega (arith, changed, none)

-- a null answer is counted, and leaves evidence
counted_evidence : (units : ℕ) (r : Run) (class : ℕ) → (r.nulls + 1 ≡ 0) ↔ (evidence_or r.evidence units r class ≡ None)
counted_evidence units r class = (λ e. absurd (omega (arith, e)), λ e. absurd (some r.evidence e))
  where
    some : (o : Option Evidence) → evidence_or o units r class ≡ None → ⊥
    some None e = none-some _ (sym e)
    some (Some was) e = none-some was (sym e)

module _ (p : Program) (c : Columns) (units : ℕ) (r : Run) where
  -- beside a renewal a null answer is noted as retried, if any is
  nulls_renewed : (n : ℕ) (body to : Body) (after : Option ℕ) (priority : Priority) (notes : Notes) → Renews p c units r n body to after priority notes → NullsStand p r
      → Nulls p r.journal.tasks r.roots notes.nulls notes.evidence
  nulls_renewed n _ _ _ _ _ (Renews.again q line target waits there e) now = record { retried = now.retried; counted = now.counted; none = now.none; kept = now.kept }
  nulls_renewed n _ _ _ _ _ (Renews.retries q request to how e) now = record {
    retried = now.retried + 1;
    counted = omega (arith, now.counted);
    none = λ no_retry. absurd (asks_no_retry p c q request to true no_retry how refl);
    kept = counted_evidence units r request.class;
  }
  nulls_renewed n _ _ _ _ _ (Renews.behind members next u e) now = record { retried = now.retried; counted = now.counted; none = now.none; kept = now.kept }

  -- one is noted beside a refusal by null, and ends the task
  nulls_refused : (n : ℕ) (body : Body) (tag : CutTag) (notes : Notes) → Refuses p c units r n body tag notes → NullsStand p r → (tasks' : List TaskRow)
      → total null_task tasks' ≡ total null_task r.journal.tasks + null_cause (cause_of_cut tag) → Nulls p tasks' r.roots notes.nulls notes.evidence
  nulls_refused n _ _ _ (Refuses.no_block q request to how e) now tasks' changed =
      record { retried = now.retried; counted = omega (arith, now.counted, changed); none = now.none; kept = counted_evidence units r request.class }
  nulls_refused n _ _ _ (Refuses.no_number q request to retry block how e full) now tasks' changed = record { retried = now.retried; counted = omega (arith, now.counted, changed); none = now.none; kept = now.kept }
  nulls_refused n _ _ _ (Refuses.no_renewal body to after priority notes how full) now tasks' changed =
      let noted = nulls_renewed n body to after priority notes how now in record { retried = noted.retried; counted = omega (arith, noted.counted, changed); none = noted.none; kept = noted.kept }

  nulls_refused_root : (root : RootLine) (tag : CutTag) (notes : Notes) → RefusesRoot p units r root tag notes → NullsStand p r → Nulls p r.journal.tasks (r.roots ++ Refused tag ∷ []) notes.nulls notes.evidence
  nulls_refused_root root _ _ (RefusesRoot.no_block e) now =
      record { retried = now.retried; counted = omega (arith, now.counted, total-snoc null_word r.roots (Refused Null)); none = now.none; kept = counted_evidence units r _ }
  nulls_refused_root root _ _ (RefusesRoot.no_number block e full) now = record { retried = now.retried; counted = omega (arith, now.counted, total-snoc null_word r.roots (Refused Limit)); none = now.none; kept = now.kept }

nulls_drawn : (p : Program) (r : Run) → NullsStand p r → Nulls p (r.journal.tasks ++ unfinished ∷ []) r.roots r.nulls r.evidence
nulls_drawn p r now = record { retried = now.retried; counted = omega (arith, now.counted, total-snoc null_task r.journal.tasks unfinished); none = now.none; kept = now.kept }

arrives_nulls : (p : Program) (r : Run) (n : ℕ) (after : Option ℕ) → NullsStand p r → NullsStand p (arrives r n after)
arrives_nulls p r n None now = record { retried = now.retried; counted = now.counted; none = now.none; kept = now.kept }
arrives_nulls p r n (Some u) now = by (found r.outcomes u)
  where
    by : (o : Option Outcome) → NullsStand p (waits_or_queues o r n u)
    by None = record { retried = now.retried; counted = now.counted; none = now.none; kept = now.kept }
    by (Some outcome) = record { retried = now.retried; counted = now.counted; none = now.none; kept = now.kept }

-- before the first root there is no null answer
pub nulls_first : (p : Program) (plan : RunPlan) → NullsStand p (at_first plan)
nulls_first p plan = record { retried = 0; counted = refl; none = λ no_retry. refl; kept = (λ e. refl, λ e. refl) }

-- a root's move keeps the account of null answers
pub nulls_root : (p : Program) (units : ℕ) (r s : Run) (root : RootLine) → IsNextRoot p r root → NullsStand p r → RootMove p units r root s → NullsStand p s
nulls_root p units r _ root next now (RootMove.named block free placed some) =
    let request = root_request p r root in
    arrives_nulls p (with_root (accepts units r request block) (Named (next_number r.journal))) (next_number r.journal) request.after
    (let drawn = nulls_drawn p r now in
    record { retried = drawn.retried; counted = omega (arith, drawn.counted, total-snoc null_word r.roots (Named (next_number r.journal))); none = drawn.none; kept = drawn.kept })
nulls_root p units r _ root next now (RootMove.refused tag notes free how) =
    let done = nulls_refused_root p no_columns units r root tag notes how now in record { retried = done.retried; counted = done.counted; none = done.none; kept = done.kept }
nulls_root p units r _ root next now (RootMove.skipped first e) =
    record { retried = now.retried; counted = omega (arith, now.counted, total-snoc null_word r.roots (Skipped first.0 first.1)); none = now.none; kept = now.kept }

module _ (p : Program) (c : Columns) (units : ℕ) where
  ends : (r : Run) (t m : ℕ) (body : Body) (why : Cause) → NumbersStand r → OutcomesStand r → RunsAt r t m body
      → total null_task (put_number r.journal.tasks t (record { finish = Some (r.journal.stamps + 1); cause = why })) ≡ total null_task r.journal.tasks + null_cause why
  ends r t m body why held agree runs =
      let within = running_within r [] held t m body runs in
      nulls_ends r.journal.tasks t (r.journal.stamps + 1) why within.0 (omega (arith, within.1, held.beside.of_tasks)) (agree.open_ t (running_open r [] held t m body runs))

  -- each move keeps the account of null answers
  pub nulls_move : (r s : Run) → NumbersStand r → OutcomesStand r → NullsStand p r → Move p c units r s → NullsStand p s
  nulls_move r _ held agree now (Move.goes_on t n q next runs goes) = record { retried = now.retried; counted = now.counted; none = now.none; kept = now.kept }
  nulls_move r _ held agree now (Move.spawned t n to q request retry block runs asks placed some) =
      arrives_nulls p (with_body (accepts units r request block) t (OfKind (set_future q to (Some (next_number r.journal))))) (next_number r.journal) request.after
      (let drawn = nulls_drawn p r now in record { retried = drawn.retried; counted = drawn.counted; none = drawn.none; kept = drawn.kept })
  nulls_move r _ held agree now (Move.respawned t n body to after priority notes runs renews some) =
      arrives_nulls p (with_body (record (draws (with_notes r notes) (Some t) after priority (Respawn t after) None None) { running = None }) t to) (next_number r.journal) after
      (let noted = nulls_renewed p c units r n body to after priority notes renews now in
      record { retried = noted.retried; counted = omega (arith, noted.counted, total-snoc null_task r.journal.tasks unfinished); none = noted.none; kept = noted.kept })
  nulls_move r _ held agree now (Move.gave t n body v runs answers) =
      record { retried = now.retried; counted = omega (arith, now.counted, ends r t n body cause.Clear held agree runs); none = now.none; kept = now.kept }
  nulls_move r _ held agree now (Move.refused t n body tag notes runs refuses) =
      let done = nulls_refused p c units r n body tag notes refuses now (put_number r.journal.tasks t (record { finish = Some (r.journal.stamps + 1); cause = cause_of_cut tag })) (ends r t n body (cause_of_cut tag) held agree runs) in
      record { retried = done.retried; counted = done.counted; none = done.none; kept = done.kept }
  nulls_move r _ held agree now (Move.started n left idle next uncut) = record { retried = now.retried; counted = now.counted; none = now.none; kept = now.kept }
  nulls_move r _ held agree now (Move.cut_at_start n left row u tag idle next there after cut) =
      let (body, runs) = started_runs r n left row held idle next there in
      let started : OutcomesStand (begins r n left) = record { gave = agree.gave; cut = agree.cut; open_ = agree.open_ } in
      record { retried = now.retried; counted = omega (arith, now.counted, ends (begins r n left) row.task n body (cause.By u) (held_starts r n left held idle next) started runs); none = now.none; kept = now.kept }
