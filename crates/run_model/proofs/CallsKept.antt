-- Each move keeps that rows are as calls say, and that calls name earlier tasks.
use Rattle.std.proofs.Common.{◌≡◌, ℕ, suc, ◌+◌, ◌<◌, Option, Some, None, List, [], ◌∷◌, ◌++◌, length, refl, sym, ◌∙◌, subst, inr, ⊎_elim, arith}
use Rattle.std.proofs.lemmas.Option.{none-some}
use Rattle.task_syntax.specs.declared.program.Root.{Root as RootLine}
use Rattle.task_syntax.specs.declared.program.Program.{Program}
use Rattle.task_syntax.specs.declared.columns.Columns.{Columns}
use Rattle.std.specs.Prelude.{Bool}
use Rattle.frame_code.specs.Words.{OfKind}
use Rattle.task_meaning.specs.Frame.{FrameOf, set_future}
use Rattle.task_meaning.specs.Worths.{Accepted, OfCall, OfAll, Respawn}
use Rattle.record_core.specs.Numbers.{by_number, found, HasTask}
use Rattle.record_core.specs.Journal.{next_number, started_rows}
use Rattle.record_core.specs.EndSeen.{RunPlan}
use Rattle.record_core.specs.EndCalls.{IsRowOf}
use Rattle.record_core.specs.declared.rows.ActivationRow.{ActivationRow}
use Rattle.run_model.specs.State.{Outcome, Named, Run, Queues, next_queued}
use Rattle.run_model.specs.Step.{Request, arrives, waits_or_queues, accepts, draws, with_body, with_root, root_request, at_first}
use Rattle.run_model.specs.Move.{with_notes, Move, RootMove, Asks, begins}
use Rattle.run_model.proofs.ByNumber.{number_within, snoc_cases, none_of_empty}
use Rattle.run_model.proofs.NumbersInvariant.{NumbersStand}
use Rattle.run_model.proofs.NamesFacts.{asks_call_named, renews_named, root_call_named}
use Rattle.run_model.proofs.LiveFacts.{task_snoc, task_within, one_started, was_row, task_then}
use Rattle.run_model.proofs.NumbersParts.{next_row}
use Rattle.run_model.proofs.RunsFacts.{running_within}
use Rattle.record_core.specs.EndAsks.{CallNames}
use Rattle.run_model.proofs.CallsInvariant.{Calls, CallsStand}
use Rattle.run_model.proofs.Reached.{IsNextRoot}

-- a number is drawn with its call
calls_drawn : (rows : List ActivationRow) (calls : List Accepted) (row : ActivationRow) (call : Accepted) → length calls ≡ length rows → IsRowOf (suc (length rows)) call row
    → ((u : ℕ) → CallNames call u → HasTask rows u) → Calls rows calls → Calls (rows ++ row ∷ []) (calls ++ call ∷ [])
calls_drawn rows calls row call beside is_row names now = record { row_of = row_of; earlier = earlier }
  where
    row_of : (n : ℕ) (other : Accepted) (there : ActivationRow) → by_number (calls ++ call ∷ []) n ≡ Some other → by_number (rows ++ row ∷ []) n ≡ Some there → IsRowOf n other there
    row_of n other there e f =
        ⊎_elim
        (λ old. ⊎_elim (λ old_row. now.row_of n other there old old_row) (λ new_row. let within = number_within calls n other old in absurd (omega (arith, within.1, beside, new_row.0))) (snoc_cases rows row n there f))
        (λ new. ⊎_elim (λ old_row. let within = number_within rows n there old_row in absurd (omega (arith, within.1, beside, new.0))) (λ new_row. rw (new_row.0, new.1, new_row.1) is_row) (snoc_cases rows row n there f))
        (snoc_cases calls call n other e)

    earlier : (n u : ℕ) (other : Accepted) → by_number (calls ++ call ∷ []) n ≡ Some other → CallNames other u → (u < n) × HasTask (rows ++ row ∷ []) u
    earlier n u other e named =
        ⊎_elim
        (λ old. let was = now.earlier n u other old named in (was.0, task_snoc rows row u was.1))
        (λ new. let task = names u (subst (λ a. CallNames a u) new.1 named) in (omega (arith, (task_within rows u task).1, new.0, beside), task_snoc rows row u task))
        (snoc_cases calls call n other e)

-- an activation starts
calls_start : (r : Run) (n : ℕ) (left : Queues) → NumbersStand r → next_queued r.ready ≡ Some (n, left) → CallsStand r → CallsStand (begins r n left)
calls_start r n left held next now =
    let (row, there, waits) = next_row r [] n left held next in
    let rows' = started_rows r.journal.rows n (r.journal.stamps + 1) (by_number r.journal.rows n) in
    let started = one_started r.journal.rows n (r.journal.stamps + 1) row there in record {
      row_of = λ k call other e f. let w = was_row r.journal.rows rows' n (r.journal.stamps + 1) row there started k other f in same_row_of k call w.was other w.task w.after (now.row_of k call w.was e w.stood);
      earlier = λ k u call e named. let was = now.earlier k u call e named in (was.0, task_then r.journal.rows rows' n (r.journal.stamps + 1) row there started u was.1);
    }
  where
    same_row_of : (k : ℕ) (call : Accepted) (was other : ActivationRow) → other.task ≡ was.task → other.after ≡ was.after → IsRowOf k call was → IsRowOf k call other
    same_row_of k (OfCall call waits) was other task after is_row = (task ∙ is_row.0, after ∙ is_row.1)
    same_row_of k (OfAll members) was other task after is_row = (task ∙ is_row.0, after ∙ is_row.1)
    same_row_of k (Respawn t waits) was other task after is_row = (task ∙ is_row.0, after ∙ is_row.1, is_row.2)

-- before the first root there is no call
pub calls_first : (plan : RunPlan) → CallsStand (at_first plan)
calls_first plan = record { row_of = λ n call row e. absurd (none-some call (sym (none_of_empty n) ∙ e)); earlier = λ n u call e. absurd (none-some call (sym (none_of_empty n) ∙ e)) }

-- an arrival changes no row and no call
arrives_calls : (r : Run) (n : ℕ) (after : Option ℕ) → CallsStand r → CallsStand (arrives r n after)
arrives_calls r n None now = record { row_of = now.row_of; earlier = now.earlier }
arrives_calls r n (Some u) now = by (found r.outcomes u)
  where
    by : (o : Option Outcome) → CallsStand (waits_or_queues o r n u)
    by None = record { row_of = now.row_of; earlier = now.earlier }
    by (Some outcome) = record { row_of = now.row_of; earlier = now.earlier }

module _ (p : Program) (units : ℕ) where
  -- a root's move keeps rows as calls say, and calls of earlier tasks
  pub calls_root : (r s : Run) (root : RootLine) → IsNextRoot p r root → NumbersStand r → CallsStand r → RootMove p units r root s → CallsStand s
  calls_root r _ root next held now (RootMove.named block free placed some) =
      arrives_calls (with_root (accepts units r request block) (Named (next_number r.journal))) (next_number r.journal) request.after
      (let drawn = calls_drawn r.journal.rows r.calls row request.call held.beside.of_calls (refl, refl) names now in record { row_of = drawn.row_of; earlier = drawn.earlier })
    where
      request : Request
      request = root_request p r root

      row : ActivationRow
      row = record { task = next_number r.journal; after = (root_request p r root).after; start = None }

      names : (u : ℕ) → CallNames (root_request p r root).call u → HasTask r.journal.rows u
      names u named = let (at, e) = root_call_named p r root u named in held.names.in_roots at u e
  calls_root r _ root next held now (RootMove.refused tag notes free how) = record { row_of = now.row_of; earlier = now.earlier }
  calls_root r _ root next held now (RootMove.skipped first e) = record { row_of = now.row_of; earlier = now.earlier }

-- the row of a request is as its call says
asked_row : (p : Program) (c : Columns) (q : FrameOf ℕ) (request : Request) (to n : ℕ) (retry : Bool) → Asks p c q request to retry → IsRowOf n request.call (record { task = n; after = request.after; start = None })
asked_row p c q _ _ n _ (Asks.calls line to call waits there e) = (refl, refl)
asked_row p c q _ _ n _ (Asks.gathers line to members there e) = (refl, refl)

module _ (p : Program) (c : Columns) (units : ℕ) where
  -- each move keeps rows as calls say, and calls of earlier tasks
  pub calls_move : (r s : Run) → NumbersStand r → CallsStand r → Move p c units r s → CallsStand s
  calls_move r _ held now (Move.goes_on t n q next runs goes) = record { row_of = now.row_of; earlier = now.earlier }
  calls_move r _ held now (Move.spawned t n to q request retry block runs asks placed some) =
      arrives_calls (with_body (accepts units r request block) t (OfKind (set_future q to (Some (next_number r.journal))))) (next_number r.journal) request.after
      (let drawn = calls_drawn r.journal.rows r.calls (record { task = next_number r.journal; after = request.after; start = None }) request.call held.beside.of_calls
      (asked_row p c q request to (next_number r.journal) retry asks) (λ u named. held.names.in_bodies t u (OfKind q) runs.has (asks_call_named p c q request to u retry asks named)) now in
      record { row_of = drawn.row_of; earlier = drawn.earlier })
  calls_move r _ held now (Move.respawned t n body to after priority notes runs renews some) =
      arrives_calls (with_body (record (draws (with_notes r notes) (Some t) after priority (Respawn t after) None None) { running = None }) t to) (next_number r.journal) after
      (let drawn = calls_drawn r.journal.rows r.calls (record { task = t; after = after; start = None }) (Respawn t after) held.beside.of_calls
      (refl, refl, (let within = running_within r [] held t n body runs in omega (arith, within.1))) (λ u named. held.names.in_bodies t u body runs.has (renews_named p c units r n u body to after priority notes renews (inr named))) now in
      record { row_of = drawn.row_of; earlier = drawn.earlier })
  calls_move r _ held now (Move.gave t n body v runs answers) = record { row_of = now.row_of; earlier = now.earlier }
  calls_move r _ held now (Move.refused t n body tag notes runs refuses) = record { row_of = now.row_of; earlier = now.earlier }
  calls_move r _ held now (Move.started n left idle next uncut) = calls_start r n left held next now
  calls_move r _ held now (Move.cut_at_start n left row u tag idle next there after cut) =
      let started = calls_start r n left held next now in record { row_of = started.row_of; earlier = started.earlier }
