-- Each move writes into the journal under the conditions of its calls.
use Rattle.std.proofs.Common.{◌≡◌, ℕ, true, Option, Some, None, [], length, refl, ap, inr, arith}
use Rattle.std.specs.Prelude.{IsSome, IfSome}
use Rattle.std.specs.Option.{is_some}
use Rattle.std.proofs.lemmas.Bool.{ltb-true}
use Rattle.task_syntax.specs.declared.program.Root.{Root as RootLine}
use Rattle.task_syntax.specs.declared.program.Program.{Program}
use Rattle.task_syntax.specs.declared.columns.Columns.{Columns}
use Rattle.task_meaning.specs.Worths.{Respawn}
use Rattle.task_meaning.specs.Frame.{set_future}
use Rattle.frame_code.specs.Words.{OfKind}
use Rattle.record_core.specs.Numbers.{by_number, found, HasTask}
use Rattle.record_core.specs.Journal.{JournalState, next_number, with_accepted, with_finished, finish_of, IsUnderWay, MayBegin, MayCause}
use Rattle.record_core.specs.EndSeen.{RunPlan}
use Rattle.record_core.specs.declared.rows.ActivationRow.{ActivationRow}
use Rattle.record_core.specs.declared.rows.Cause.{Cause}
use Rattle.record_core.specs.declared.rows.Cause.TheVariants as cause
use Rattle.record_core.specs.declared.rows.CutTag.{CutTag}
use Rattle.record_core.specs.declared.rows.CutTag.TheVariants.{Null, Limit}
use Rattle.record_core.proofs.JournalFacts.{empty-is_journal}
use Rattle.record_core.proofs.AcceptFacts.{accept-keeps}
use Rattle.record_core.proofs.BeginFacts.{begin-keeps}
use Rattle.record_core.proofs.FinishFacts.{finish-keeps}
use Rattle.run_model.specs.State.{Body, Outcome, Named, Queues, Run, next_queued}
use Rattle.run_model.specs.Step.{arrives, waits_or_queues, accepts, draws, with_body, with_root, root_request, cause_of_cut, has_number, at_first}
use Rattle.run_model.specs.Move.{with_notes, RunsAt, begins, Move, RootMove}
use Rattle.run_model.proofs.NumbersInvariant.{NumbersStand}
use Rattle.run_model.proofs.NamesFacts.{asks_named, renews_named, root_named}
use Rattle.run_model.proofs.LiveFacts.{no_wait}
use Rattle.run_model.proofs.QueueFacts.{times_self, times_next}
use Rattle.run_model.proofs.NumbersParts.{if_some_from, next_row, held_starts, started_runs}
use Rattle.run_model.proofs.RunsFacts.{running_task, running_open}
use Rattle.run_model.proofs.OutcomesInvariant.{OutcomesStand}
use Rattle.run_model.proofs.JournalInvariant.{Journaled, JournalStands}
use Rattle.run_model.proofs.Reached.{IsNextRoot}

-- the running task is under way
pub under_way : (r : Run) (t m : ℕ) (body : Body) → NumbersStand r → RunsAt r t m body → IsUnderWay r.journal t
under_way r t m body held runs = record { accepted = running_task r [] held t m body runs; unfinished = running_open r [] held t m body runs; begun = begun }
  where
    begun : (n : ℕ) (row : ActivationRow) → by_number r.journal.rows n ≡ Some row → row.task ≡ t → IsSome row.start
    begun n row there is_t = by row.start refl
      where
        by : (o : Option ℕ) → row.start ≡ o → IsSome row.start
        by None e = absurd (no_wait r.journal.rows r.journal.tasks r.outcomes r.bodies r.running held.live t m runs.row runs.running runs.there runs.of_task n row there e is_t)
        by (Some s) e = ap is_some e

-- the next one may begin
pub may_begin : (r : Run) (n : ℕ) (left : Queues) → NumbersStand r → next_queued r.ready ≡ Some (n, left) → MayBegin r.journal n
may_begin r n left held next =
    let (row, there, waits) = next_row r [] n left held next in
    let once = times_self n in let moved = times_next r.ready left n n next in
    record { row = row; accepted = there; not_begun = waits; free = if_some_from (λ u. IsSome (finish_of r.journal.tasks u)) row.after (λ u after. held.numbers.free n u row there (omega (arith, once, moved)) after) }

arrives_journal : (limit : ℕ) (r : Run) (n : ℕ) (after : Option ℕ) → JournalStands limit r → JournalStands limit (arrives r n after)
arrives_journal limit r n None now = record { journal = now.journal; of_plan = now.of_plan }
arrives_journal limit r n (Some u) now = by (found r.outcomes u)
  where
    by : (o : Option Outcome) → JournalStands limit (waits_or_queues o r n u)
    by None = record { journal = now.journal; of_plan = now.of_plan }
    by (Some outcome) = record { journal = now.journal; of_plan = now.of_plan }

-- a number is drawn below the limit
drawn : (limit : ℕ) (r : Run) (task after : Option ℕ) → JournalStands limit r → has_number r ≡ true → IfSome task (λ t. IsUnderWay r.journal t) → ((u : ℕ) → after ≡ Some u → HasTask r.journal.rows u) → Journaled limit (with_accepted r.journal task after)
drawn limit r task after now some under after_task = record {
  journal = accept-keeps r.journal task after now.journal (ltb-true (length r.journal.rows) r.journal.limit some) under (if_some_from (λ u. HasTask r.journal.rows u) after after_task);
  of_plan = now.of_plan;
}

-- a running task ends, for a cause that may be
finished : (limit : ℕ) (r : Run) (t m : ℕ) (body : Body) (why : Cause) → NumbersStand r → RunsAt r t m body → MayCause r.journal why → JournalStands limit r → Journaled limit (with_finished r.journal t why)
finished limit r t m body why held runs may now = record { journal = finish-keeps r.journal t why now.journal (under_way r t m body held runs) may; of_plan = now.of_plan }

-- a cause of a refusal may be written of any journal
pub refusal_may : (j : JournalState) (tag : CutTag) → MayCause j (cause_of_cut tag)
refusal_may j Null = tt
refusal_may j Limit = tt

-- before the first root the journal is a new one
pub journal_first : (plan : RunPlan) → JournalStands plan.limit (at_first plan)
journal_first plan = record { journal = empty-is_journal plan.limit; of_plan = refl }

-- a root's move writes into the journal as its calls allow
pub journal_root : (limit : ℕ) (p : Program) (units : ℕ) (r s : Run) (root : RootLine) → IsNextRoot p r root → NumbersStand r → JournalStands limit r → RootMove p units r root s → JournalStands limit s
journal_root limit p units r _ root next held now (RootMove.named block free placed some) =
    let request = root_request p r root in
    arrives_journal limit (with_root (accepts units r request block) (Named (next_number r.journal))) (next_number r.journal) request.after
    (let new = drawn limit r None request.after now some tt (λ u e. let (at, f) = root_named p r root u (inr e) in held.names.in_roots at u f) in record { journal = new.journal; of_plan = new.of_plan })
journal_root limit p units r _ root next held now (RootMove.refused tag notes free how) = record { journal = now.journal; of_plan = now.of_plan }
journal_root limit p units r _ root next held now (RootMove.skipped first e) = record { journal = now.journal; of_plan = now.of_plan }

module _ (limit : ℕ) (p : Program) (c : Columns) (units : ℕ) where
  -- each move writes into the journal as its calls allow
  pub journal_move : (r s : Run) → NumbersStand r → OutcomesStand r → JournalStands limit r → Move p c units r s → JournalStands limit s
  journal_move r _ held agree now (Move.goes_on t n q next runs goes) = record { journal = now.journal; of_plan = now.of_plan }
  journal_move r _ held agree now (Move.spawned t n to q request retry block runs asks placed some) =
      arrives_journal limit (with_body (accepts units r request block) t (OfKind (set_future q to (Some (next_number r.journal))))) (next_number r.journal) request.after
      (let new = drawn limit r None request.after now some tt (λ u e. held.names.in_bodies t u (OfKind q) runs.has (asks_named p c q request to u retry asks (inr e))) in record { journal = new.journal; of_plan = new.of_plan })
  journal_move r _ held agree now (Move.respawned t n body to after priority notes runs renews some) =
      arrives_journal limit (with_body (record (draws (with_notes r notes) (Some t) after priority (Respawn t after) None None) { running = None }) t to) (next_number r.journal) after
      (let new = drawn limit r (Some t) after now some (under_way r t n body held runs) (λ u e. held.names.in_bodies t u body runs.has (renews_named p c units r n u body to after priority notes renews (inr e))) in
      record { journal = new.journal; of_plan = new.of_plan })
  journal_move r _ held agree now (Move.gave t n body v runs answers) = let done = finished limit r t n body cause.Clear held runs tt now in record { journal = done.journal; of_plan = done.of_plan }
  journal_move r _ held agree now (Move.refused t n body tag notes runs refuses) =
      let done = finished limit r t n body (cause_of_cut tag) held runs (refusal_may r.journal tag) now in record { journal = done.journal; of_plan = done.of_plan }
  journal_move r _ held agree now (Move.started n left idle next uncut) = record { journal = begin-keeps r.journal n now.journal (may_begin r n left held next); of_plan = now.of_plan }
  journal_move r _ held agree now (Move.cut_at_start n left row u tag idle next there after cut) =
      let (body, runs) = started_runs r n left row held idle next there in
      let started : JournalStands limit (begins r n left) = record { journal = begin-keeps r.journal n now.journal (may_begin r n left held next); of_plan = now.of_plan } in
      let done = finished limit (begins r n left) row.task n body (cause.By u) (held_starts r n left held idle next) runs ((held.live.has_outcome u).0 (ap is_some cut), agree.cut u tag cut) started in
      record { journal = done.journal; of_plan = done.of_plan }
