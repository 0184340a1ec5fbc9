-- Each move keeps that each null answer ended a task or a root, or made its task draw a further number or meet the limit.
use Rattle.std.proofs.Common.{◌≡◌, ℕ, zero, suc, ◌+◌, ◌≤◌, Option, Some, None, List, [], length, refl, sym, ◌∙◌, ap, arith}
use Rattle.task_syntax.specs.declared.value.Priority.{Priority}
use Rattle.task_syntax.specs.declared.program.Root.{Root as RootLine}
use Rattle.task_syntax.specs.declared.program.Program.{Program}
use Rattle.task_syntax.specs.declared.columns.Columns.{Columns}
use Rattle.task_syntax.specs.Columns.{no_columns}
use Rattle.task_meaning.specs.Frame.{set_future}
use Rattle.task_meaning.specs.Worths.{Respawn}
use Rattle.frame_code.specs.Words.{OfKind}
use Rattle.record_core.specs.Sums.{total}
use Rattle.record_core.specs.Numbers.{put_number, found}
use Rattle.record_core.specs.Journal.{next_number, unfinished, cause_in, cause_of}
use Rattle.record_core.specs.EndSeen.{RunPlan}
use Rattle.record_core.specs.EndSound.{null_task}
use Rattle.record_core.specs.EndCalls.{again_at_once, limit_task}
use Rattle.record_core.specs.declared.rows.TaskRow.{TaskRow}
use Rattle.record_core.specs.declared.rows.Cause.{Cause}
use Rattle.record_core.specs.declared.rows.Cause.TheVariants as cause
use Rattle.record_core.specs.declared.rows.CutTag.{CutTag}
use Rattle.record_core.proofs.TotalFacts.{total-set, total-snoc}
use Rattle.run_model.specs.State.{Body, Outcome, Named, Refused, Skipped, Run}
use Rattle.run_model.specs.Step.{arrives, waits_or_queues, accepts, draws, with_body, with_root, root_request, cause_of_cut, at_first}
use Rattle.run_model.specs.Move.{Notes, with_notes, Renews, Refuses, RefusesRoot, Move, RootMove}
use Rattle.run_model.proofs.ByNumber.{member_at}
use Rattle.run_model.proofs.LiveFacts.{body_task, task_within}
use Rattle.run_model.proofs.NullsInvariant.{null_word}
use Rattle.run_model.proofs.NumbersParts.{started_runs}
use Rattle.run_model.proofs.RunStands.{RunStands}
use Rattle.run_model.proofs.RunsFacts.{running_within, running_open}

-- each null answer ended a task or a root, or its task drew a further number behind none or met the limit
abbrev pub NullsBoundStands : Run → Type 0
NullsBoundStands r = r.nulls ≤ total null_task r.journal.tasks + total null_word r.roots + total again_at_once r.calls + total limit_task r.journal.tasks

-- a task ends that had no cause: it counts as its cause does
abbrev pub caused : Cause → TaskRow
caused why = record { finish = None; cause = why }

-- one task more counts as its cause does
one_ends : (f : TaskRow → ℕ) → ((task : TaskRow) → f task ≡ f (caused task.cause)) → f (caused cause.Clear) ≡ 0 → (tasks : List TaskRow) (t stamp : ℕ) (why : Cause) → 1 ≤ t → t ≤ length tasks → cause_of tasks t ≡ cause.Clear
    → total f (put_number tasks t (record { finish = Some stamp; cause = why })) ≡ total f tasks + f (caused why)
one_ends f by_cause none tasks zero stamp why some within clear = absurd (omega (arith, some))
one_ends f by_cause none tasks (suc t) stamp why some within clear =
    let (was, there) = member_at tasks (suc t) some within in
    let changed = total-set f tasks t was (record { finish = Some stamp; cause = why }) there in
    let old : f was ≡ 0 = by_cause was ∙ ap (λ why. f (caused why)) (sym (ap cause_in there) ∙ clear) ∙ none in
    omega (arith, changed, old, by_cause (record { finish = Some stamp; cause = why }))

module _ (p : Program) (c : Columns) (limit units : ℕ) (r : Run) (run : RunStands p limit r) where
  -- how null answers and tasks cut by the limit change where a task ends
  nulls_end : (t stamp : ℕ) (why : Cause) → 1 ≤ t → t ≤ length r.journal.rows → cause_of r.journal.tasks t ≡ cause.Clear
      → total null_task (put_number r.journal.tasks t (record { finish = Some stamp; cause = why })) ≡ total null_task r.journal.tasks + null_task (caused why)
  nulls_end t stamp why some within clear = one_ends null_task (λ task. refl) refl r.journal.tasks t stamp why some (omega (arith, within, run.numbers.beside.of_tasks)) clear

  -- the same for the limit
  limits_end : (t stamp : ℕ) (why : Cause) → 1 ≤ t → t ≤ length r.journal.rows → cause_of r.journal.tasks t ≡ cause.Clear
      → total limit_task (put_number r.journal.tasks t (record { finish = Some stamp; cause = why })) ≡ total limit_task r.journal.tasks + limit_task (caused why)
  limits_end t stamp why some within clear = one_ends limit_task (λ task. refl) refl r.journal.tasks t stamp why some (omega (arith, within, run.numbers.beside.of_tasks)) clear

  -- beside a renewal at most one null answer is noted, and the task draws a number behind none
  renewed_bound : (t n : ℕ) (body to : Body) (after : Option ℕ) (priority : Priority) (notes : Notes) → Renews p c units r n body to after priority notes → notes.nulls ≤ r.nulls + again_at_once (Respawn t after)
  renewed_bound t n _ _ _ _ _ (Renews.again q line target waits there e) = omega arith
  renewed_bound t n _ _ _ _ _ (Renews.retries q request to how e) = omega arith
  renewed_bound t n _ _ _ _ _ (Renews.behind members next u e) = omega arith

  -- and at most one whatever it is
  renewed_one : (n : ℕ) (body to : Body) (after : Option ℕ) (priority : Priority) (notes : Notes) → Renews p c units r n body to after priority notes → notes.nulls ≤ r.nulls + 1
  renewed_one n _ _ _ _ _ (Renews.again q line target waits there e) = omega arith
  renewed_one n _ _ _ _ _ (Renews.retries q request to how e) = omega arith
  renewed_one n _ _ _ _ _ (Renews.behind members next u e) = omega arith

  -- beside a refusal at most one is noted, and the task is cut by it or by the limit
  refused_bound : (n : ℕ) (body : Body) (tag : CutTag) (notes : Notes) → Refuses p c units r n body tag notes → notes.nulls ≤ r.nulls + null_task (caused (cause_of_cut tag)) + limit_task (caused (cause_of_cut tag))
  refused_bound n _ _ _ (Refuses.no_block q request to how e) = omega arith
  refused_bound n _ _ _ (Refuses.no_number q request to retry block how e full) = omega arith
  refused_bound n _ _ _ (Refuses.no_renewal body to after priority notes how full) = omega (arith, renewed_one n body to after priority notes how)

  -- beside the refusal of a root at most one is noted, and it is the root's
  root_bound : (root : RootLine) (tag : CutTag) (notes : Notes) → RefusesRoot p units r root tag notes → notes.nulls ≤ r.nulls + null_word (Refused tag)
  root_bound root _ _ (RefusesRoot.no_block e) = omega arith
  root_bound root _ _ (RefusesRoot.no_number block e full) = omega arith

-- an arrival changes nothing of this
arrives_bound : (r : Run) (n : ℕ) (after : Option ℕ) → NullsBoundStands r → NullsBoundStands (arrives r n after)
arrives_bound r n None now = now
arrives_bound r n (Some u) now = by (found r.outcomes u)
  where
    by : (o : Option Outcome) → NullsBoundStands (waits_or_queues o r n u)
    by None = now
    by (Some outcome) = now

-- each move keeps the bound
pub bound_move : (p : Program) (c : Columns) (limit units : ℕ) (r s : Run) → RunStands p limit r → NullsBoundStands r → Move p c units r s → NullsBoundStands s
bound_move p c limit units r s run now (Move.goes_on t n q next runs goes) = now
bound_move p c limit units r _ run now (Move.spawned t n to q request retry block runs asks placed some) =
    arrives_bound (with_body (accepts units r request block) t (OfKind (set_future q to (Some (next_number r.journal))))) (next_number r.journal) request.after
    (omega (arith, now, total-snoc null_task r.journal.tasks unfinished, total-snoc limit_task r.journal.tasks unfinished, total-snoc again_at_once r.calls request.call))
bound_move p c limit units r _ run now (Move.respawned t n body to after priority notes runs renews some) =
    arrives_bound (with_body (record (draws (with_notes r notes) (Some t) after priority (Respawn t after) None None) { running = None }) t to) (next_number r.journal) after
    (omega (
      arith,
      now,
      total-snoc null_task r.journal.tasks unfinished,
      total-snoc limit_task r.journal.tasks unfinished,
      total-snoc again_at_once r.calls (Respawn t after),
      renewed_bound p c limit units r run t n body to after priority notes renews,
    ))
bound_move p c limit units r s run now (Move.gave t n body v runs answers) =
    let within = running_within r [] run.numbers t n body runs in
    let clear = run.outcomes.open_ t (running_open r [] run.numbers t n body runs) in
    omega (arith, now, nulls_end p c limit units r run t (r.journal.stamps + 1) cause.Clear within.0 within.1 clear, limits_end p c limit units r run t (r.journal.stamps + 1) cause.Clear within.0 within.1 clear)
bound_move p c limit units r s run now (Move.refused t n body tag notes runs refuses) =
    let within = running_within r [] run.numbers t n body runs in
    let clear = run.outcomes.open_ t (running_open r [] run.numbers t n body runs) in
    omega (
      arith,
      now,
      nulls_end p c limit units r run t (r.journal.stamps + 1) (cause_of_cut tag) within.0 within.1 clear,
      limits_end p c limit units r run t (r.journal.stamps + 1) (cause_of_cut tag) within.0 within.1 clear,
      refused_bound p c limit units r run n body tag notes refuses,
    )
bound_move p c limit units r s run now (Move.started n left idle next uncut) = now
bound_move p c limit units r s run now (Move.cut_at_start n left row u tag idle next is_row after cut) =
    let within = task_within r.journal.rows row.task (run.numbers.of_tasks n row is_row).of_task in
    let (body, runs) = started_runs r n left row run.numbers idle next is_row in
    let open_ = (body_task r.journal.rows r.journal.tasks r.outcomes r.bodies r.running run.numbers.live row.task body runs.has).1 in
    let clear = run.outcomes.open_ row.task open_ in
    omega (arith, now, nulls_end p c limit units r run row.task (r.journal.stamps + 1 + 1) (cause.By u) within.0 within.1 clear, limits_end p c limit units r run row.task (r.journal.stamps + 1 + 1) (cause.By u) within.0 within.1 clear)

-- before the first root there is no null answer
pub bound_first : (plan : RunPlan) → NullsBoundStands (at_first plan)
bound_first plan = omega arith

-- a root's move keeps it
pub bound_root : (p : Program) (limit units : ℕ) (r s : Run) (root : RootLine) → RunStands p limit r → NullsBoundStands r → RootMove p units r root s → NullsBoundStands s
bound_root p limit units r _ root run now (RootMove.named block free placed some) =
    let request = root_request p r root in
    arrives_bound (with_root (accepts units r request block) (Named (next_number r.journal))) (next_number r.journal) request.after
    (omega (arith, now, total-snoc null_task r.journal.tasks unfinished, total-snoc limit_task r.journal.tasks unfinished, total-snoc again_at_once r.calls request.call, total-snoc null_word r.roots (Named (next_number r.journal))))
bound_root p limit units r _ root run now (RootMove.refused tag notes free how) =
    omega (arith, now, total-snoc null_word r.roots (Refused tag), root_bound p no_columns limit units r run root tag notes how)
bound_root p limit units r _ root run now (RootMove.skipped first e) = omega (arith, now, total-snoc null_word r.roots (Skipped first.0 first.1))
