-- What stands in the journal of a run stays there.
use Rattle.std.proofs.Common.{ℕ, zero, suc, Option, Some, None, refl, ◌∙◌, ap, inl, inr}
use Rattle.std.specs.Option.{is_some}
use Rattle.task_syntax.specs.declared.program.Program.{Program}
use Rattle.task_syntax.specs.declared.columns.Columns.{Columns}
use Rattle.task_meaning.specs.Worths.{Respawn}
use Rattle.task_meaning.specs.Frame.{set_future}
use Rattle.frame_code.specs.Words.{OfKind}
use Rattle.record_core.specs.Numbers.{found}
use Rattle.record_core.specs.Journal.{JournalState, next_number, finish_of}
use Rattle.record_core.specs.JournalLaws.{GrowsFrom}
use Rattle.record_core.specs.declared.rows.Cause.TheVariants as cause
use Rattle.record_core.proofs.AcceptFacts.{accept-tells}
use Rattle.record_core.proofs.BeginFacts.{begun_tells, begin-keeps}
use Rattle.record_core.proofs.FinishFacts.{finished_tells}
use Rattle.run_model.specs.State.{Outcome, Run}
use Rattle.run_model.specs.Step.{arrives, waits_or_queues, accepts, draws, with_body, step, steps, cause_of_cut}
use Rattle.run_model.specs.Move.{with_notes, begins, Move, StaysOrMoves}
use Rattle.run_model.proofs.Traversal.{step_moves}
use Rattle.run_model.proofs.NumbersParts.{held_starts, started_runs}
use Rattle.run_model.proofs.JournalKept.{under_way, may_begin, refusal_may}
use Rattle.run_model.proofs.RunStands.{RunStands, run_move}

-- a journal has grown from itself
pub grows_same : (j : JournalState) → GrowsFrom j j
grows_same j = record { rows = λ n row there. (row.start, there); stamps = λ e s at. at; causes = λ t f at. refl }

grows_on : (i j k : JournalState) → GrowsFrom i j → GrowsFrom j k → GrowsFrom i k
grows_on i j k first second = record {
  rows = λ n row there. let (start, then) = first.rows n row there in second.rows n (record row { start = start }) then;
  stamps = λ e s at. second.stamps e s (first.stamps e s at);
  causes = λ t f at. second.causes t f (first.stamps (Rattle.record_core.specs.Journal.Finishes t) f at) ∙ first.causes t f at;
}

-- an arrival leaves the journal
pub arrives_grows : (j : JournalState) (r : Run) (n : ℕ) (after : Option ℕ) → GrowsFrom j r.journal → GrowsFrom j (arrives r n after).journal
arrives_grows j r n None now = now
arrives_grows j r n (Some u) now = by (found r.outcomes u)
  where
    by : (o : Option Outcome) → GrowsFrom j (waits_or_queues o r n u).journal
    by None = now
    by (Some outcome) = now

module _ (p : Program) (c : Columns) (limit units : ℕ) where
  -- each move leaves what stands in the journal
  pub move_grows : (r s : Run) → RunStands p limit r → Move p c units r s → GrowsFrom r.journal s.journal
  move_grows r _ now (Move.goes_on t n q next runs goes) = grows_same r.journal
  move_grows r _ now (Move.spawned t n to q request retry block runs asks placed some) =
      arrives_grows r.journal (with_body (accepts units r request block) t (OfKind (set_future q to (Some (next_number r.journal))))) (next_number r.journal) request.after (accept-tells r.journal None request.after).grows
  move_grows r _ now (Move.respawned t n body to after priority notes runs renews some) =
      arrives_grows r.journal (with_body (record (draws (with_notes r notes) (Some t) after priority (Respawn t after) None None) { running = None }) t to) (next_number r.journal) after (accept-tells r.journal (Some t) after).grows
  move_grows r _ now (Move.gave t n body v runs answers) = (finished_tells r.journal t cause.Clear now.journal.journal (under_way r t n body now.numbers runs) tt).grows
  move_grows r _ now (Move.refused t n body tag notes runs refuses) = (finished_tells r.journal t (cause_of_cut tag) now.journal.journal (under_way r t n body now.numbers runs) (refusal_may r.journal tag)).grows
  move_grows r _ now (Move.started n left idle next uncut) = (begun_tells r.journal n now.journal.journal (may_begin r n left now.numbers next)).grows
  move_grows r _ now (Move.cut_at_start n left row u tag idle next there after cut) =
      let (body, runs) = started_runs r n left row now.numbers idle next there in
      let may = may_begin r n left now.numbers next in
      grows_on r.journal (begins r n left).journal _ (begun_tells r.journal n now.journal.journal may).grows
      (finished_tells (begins r n left).journal row.task (cause.By u) (begin-keeps r.journal n now.journal.journal may) (under_way (begins r n left) row.task n body (held_starts r n left now.numbers idle next) runs)
      ((now.numbers.live.has_outcome u).0 (ap is_some cut), now.outcomes.cut u tag cut)).grows

  step_grows : (r s : Run) → RunStands p limit r → StaysOrMoves p c units r s → RunStands p limit s × GrowsFrom r.journal s.journal
  step_grows r s now (inl stays) = (rw stays.0 now, rw stays.0 (grows_same r.journal))
  step_grows r s now (inr move) = (run_move p c limit units r s now move, move_grows r s now move)

  -- over any number of steps
  pub steps_grow : (more : ℕ) (r : Run) → RunStands p limit r → GrowsFrom r.journal (steps p c units more r).journal
  steps_grow zero r now = grows_same r.journal
  steps_grow (suc more) r now =
      let next = step p c units r in
      let (then, grows) = step_grows r next now (step_moves p c units r) in grows_on r.journal next.journal (steps p c units more next).journal grows (steps_grow more next then)
