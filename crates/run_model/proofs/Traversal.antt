-- Each step stays or moves, and each root moves.
use Rattle.std.proofs.Common.{◌≡◌, ◌≢◌, ℕ, ◌+◌, Bool, true, false, cond, Option, Some, None, List, slice_get, refl, sym, ◌∙◌, ap, inl, inr}
use Rattle.std.proofs.lemmas.Option.{none-some, same_Some}
use Rattle.task_syntax.specs.declared.value.Value.{Value}
use Rattle.task_syntax.specs.declared.value.Value.TheVariants.{Number, Trapped}
use Rattle.task_syntax.specs.declared.value.Priority.{Priority}
use Rattle.task_syntax.specs.declared.instr.Line.{Line}
use Rattle.task_syntax.specs.declared.program.Root.{Root as RootLine}
use Rattle.task_syntax.specs.declared.program.Program.{Program}
use Rattle.task_syntax.specs.declared.columns.Columns.{Columns}
use Rattle.task_meaning.specs.Meant.{future_at}
use Rattle.task_meaning.specs.Frame.{FrameOf, code_at, set_future}
use Rattle.task_meaning.specs.Acts.{Act, Steps, Calls, Gathers, Reads, Respawns, Finishes, ActsAt, act_of}
use Rattle.pool_core.specs.Blocks.{BlockState}
use Rattle.frame_code.specs.Words.{OfKind, OfMembers}
use Rattle.record_core.specs.Numbers.{by_number, found}
use Rattle.record_core.specs.Journal.{next_number}
use Rattle.record_core.specs.EndSound.{kind_class}
use Rattle.record_core.specs.RootEnds.{roots_named}
use Rattle.record_core.specs.declared.rows.ActivationRow.{ActivationRow}
use Rattle.record_core.specs.declared.rows.CutTag.{CutTag}
use Rattle.record_core.specs.declared.rows.CutTag.TheVariants.{Limit}
use Rattle.task_meaning.specs.Worths.{Respawn}
use Rattle.run_model.specs.State.{Body, Outcome, Gave, WasCut, Named, Refused, Queues, Run, next_queued}
use Rattle.run_model.specs.Placing.{pool_of, placed}
use Rattle.run_model.specs.Step.{Request, arrives, with_body, draws, is_refused, accepts, places, with_root, priority_of, asks_with, respawns, reads, outcome_of, does, runs_line, runs_body, runs_row, goes_behind, cut_behind, is_behind, started_row, starts_next, step_with, has_number, first_taskless, asks_root, asks_root_with, root_request}
use Rattle.run_model.specs.Move.{Notes, with_notes, RunsAt, Goes, Asks, Answers, Renews, Refuses, RefusesRoot, begins, Move, RootMove, Still, StaysOrMoves, StepsMove, RootsMove}

module _ (p : Program) (c : Columns) (units : ℕ) (r : Run) where
  -- a renewal is a further activation, or a refusal
  renewed : (t n : ℕ) (body to : Body) (after : Option ℕ) (priority : Priority) (notes : Notes) → RunsAt r t n body → Renews p c units r n body to after priority notes
      → Move p c units r (respawns (with_notes r notes) t to after priority)
  renewed t n body to after priority notes runs how = by (has_number r) refl
    where
      by : (b : Bool) → has_number r ≡ b
          → Move p c units r (cond b (arrives (with_body (record (draws (with_notes r notes) (Some t) after priority (Respawn t after) None None) { running = None }) t to) (next_number r.journal) after) (is_refused (with_notes r notes) t Limit))
      by true e = Move.respawned t n body to after priority notes runs how e
      by false e = Move.refused t n body _ notes runs (Refuses.no_renewal body to after priority notes how e)

  -- a task that asks for a new one goes on, tries again, or is refused
  asked_for : (t n to : ℕ) (q : FrameOf ℕ) (request : Request) (retry : Bool) (o : Option BlockState) → placed (pool_of units r) request.class ≡ o → RunsAt r t n (OfKind q) → Asks p c q request to retry
      → Move p c units r (asks_with o units r t (OfKind q) (λ m. OfKind (set_future q to (Some m))) request retry)
  asked_for t n to q request false None e runs how = Move.refused t n (OfKind q) _ _ runs (Refuses.no_block q request to how e)
  asked_for t n to q request true None e runs how = renewed t n (OfKind q) (OfKind q) None _ _ runs (Renews.retries q request to how e)
  asked_for t n to q request retry (Some block) e runs how = by (has_number r) refl
    where
      by : (b : Bool) → has_number r ≡ b
          → Move p c units r (cond b (arrives (with_body (accepts units r request block) t (OfKind (set_future q to (Some (next_number r.journal))))) (next_number r.journal) request.after) (is_refused (places units r block) t Limit))
      by true free = Move.spawned t n to q request retry block runs how e free
      by false full = Move.refused t n (OfKind q) _ _ runs (Refuses.no_number q request to retry block how e full)

  -- a read goes on, ends by a trap, or stands still without a value
  reading : (t n to x : ℕ) (q : FrameOf ℕ) (u : Option ℕ) (o : Option Outcome) → future_at q.futures x ≡ u → outcome_of r u ≡ o → RunsAt r t n (OfKind q) → ActsAt p c q (Reads to x)
      → StaysOrMoves p c units r (reads o r t q to)
  reading t n to x q None o e f runs acts = rw (← f) (inl (refl, Still.no_value t n to x q runs acts (λ v g. none-some (Gave v) (sym (ap (outcome_of r) e) ∙ g))))
  reading t n to x q (Some u) (Some (Gave (Number k))) e f runs acts = inr (Move.goes_on t n q _ runs (Goes.reads to x u k acts e f))
  reading t n to x q (Some u) (Some (Gave (Trapped trap))) e f runs acts = inr (Move.gave t n (OfKind q) (Trapped trap) runs (Answers.traps q to x u trap acts e f))
  reading t n to x q (Some u) (Some (WasCut tag)) e f runs acts = inl (refl, Still.no_value t n to x q runs acts (λ v g. absurd (no_value v (sym (ap (outcome_of r) e ∙ f) ∙ g))))
    where
      no_value : (v : Value) → Some (WasCut tag) ≡ Some (Gave v) → ⊥
      no_value v h = cc
  reading t n to x q (Some u) None e f runs acts = inl (refl, Still.no_value t n to x q runs acts (λ v g. none-some (Gave v) (sym (ap (outcome_of r) e ∙ f) ∙ g)))

  -- a line
  line_done : (t n : ℕ) (q : FrameOf ℕ) (line : Line) (a : Act ℕ) → slice_get (code_at p q.kind q.state) q.at ≡ Some line → act_of c line.instr q ≡ a → RunsAt r t n (OfKind q)
      → StaysOrMoves p c units r (does p units r t q line.instr a)
  line_done t n q line (Steps next) there e runs = inr (Move.goes_on t n q next runs (Goes.steps next (line, there, e)))
  line_done t n q line (Calls to call waits) there e runs = inr (asked_for t n to q _ _ _ refl runs (Asks.calls line to call waits there e))
  line_done t n q line (Gathers to members) there e runs = inr (asked_for t n to q _ _ _ refl runs (Asks.gathers line to members there e))
  line_done t n q line (Reads to x) there e runs = reading t n to x q _ _ refl refl runs (line, there, e)
  line_done t n q line (Respawns target waits) there e runs = inr (renewed t n (OfKind q) _ _ _ _ runs (Renews.again q line target waits there e))
  line_done t n q line (Finishes v) there e runs = inr (Move.gave t n (OfKind q) v runs (Answers.finishes q v (line, there, e)))

  at_line : (t n : ℕ) (q : FrameOf ℕ) (o : Option Line) → slice_get (code_at p q.kind q.state) q.at ≡ o → RunsAt r t n (OfKind q) → StaysOrMoves p c units r (runs_line p c units r t q o)
  at_line t n q None e runs = inl (refl, Still.no_line t n q runs e)
  at_line t n q (Some line) e runs = line_done t n q line _ e refl runs

  -- an aggregate
  at_member : (t n : ℕ) (members : List ℕ) (next : ℕ) (o : Option ℕ) → slice_get members next ≡ o → RunsAt r t n (OfMembers members next)
      → Move p c units r (goes_behind r t (priority_of r.priorities n) members next o)
  at_member t n members next None e runs = Move.gave t n (OfMembers members next) (Number 0) runs (Answers.gathered members next e)
  at_member t n members next (Some u) e runs = renewed t n (OfMembers members next) (OfMembers members (next + 1)) (Some u) _ _ runs (Renews.behind members next u e)

  at_body : (n : ℕ) (row : ActivationRow) (o : Option Body) → r.running ≡ Some n → by_number r.journal.rows n ≡ Some row → found r.bodies row.task ≡ o → StaysOrMoves p c units r (runs_body p c units r n row.task o)
  at_body n row None runs there e = inl (refl, Still.no_body n row runs there e)
  at_body n row (Some (OfKind q)) runs there e = at_line row.task n q _ refl (record { row = row; running = runs; there = there; of_task = refl; has = e })
  at_body n row (Some (OfMembers members next)) runs there e = inr (at_member row.task n members next _ refl (record { row = row; running = runs; there = there; of_task = refl; has = e }))

  at_row : (n : ℕ) (o : Option ActivationRow) → r.running ≡ Some n → by_number r.journal.rows n ≡ o → StaysOrMoves p c units r (runs_row p c units r n o)
  at_row n None runs e = inl (refl, Still.no_row n runs e)
  at_row n (Some row) runs e = at_body n row _ runs e refl

  -- a start
  abbrev NotCutBehind : ℕ → Type 0
  NotCutBehind n = (row : ActivationRow) (u : ℕ) (tag : CutTag) → by_number r.journal.rows n ≡ Some row → row.after ≡ Some u → found r.outcomes u ≢ Some (WasCut tag)

  not_cut : (n : ℕ) (row : ActivationRow) → by_number r.journal.rows n ≡ Some row → ((u : ℕ) (tag : CutTag) → row.after ≡ Some u → found r.outcomes u ≢ Some (WasCut tag)) → NotCutBehind n
  not_cut n row there none other u tag there' after = none u tag (ap (λ (x : ActivationRow). x.after) (same_Some row other (sym there ∙ there')) ∙ after)

  starts_behind : (n : ℕ) (left : Queues) (row : ActivationRow) (u : ℕ) (o : Option Outcome) → r.running ≡ None → next_queued r.ready ≡ Some (n, left) → by_number r.journal.rows n ≡ Some row
      → row.after ≡ Some u → found r.outcomes u ≡ o → Move p c units r (cut_behind o (begins r n left) row.task u)
  starts_behind n left row u (Some (WasCut tag)) idle next there after e = Move.cut_at_start n left row u tag idle next there after e
  starts_behind n left row u (Some (Gave v)) idle next there after e =
      Move.started n left idle next (not_cut n row there (λ u' tag after' cut. gave_not_cut v tag (sym e ∙ ap (found r.outcomes) (same_Some u u' (sym after ∙ after')) ∙ cut)))
    where
      gave_not_cut : (v : Value) (tag : CutTag) → Some (Gave v) ≡ Some (WasCut tag) → ⊥
      gave_not_cut v tag h = cc
  starts_behind n left row u None idle next there after e =
      Move.started n left idle next (not_cut n row there (λ u' tag after' cut. none-some (WasCut tag) (sym e ∙ ap (found r.outcomes) (same_Some u u' (sym after ∙ after')) ∙ cut)))

  starts_row : (n : ℕ) (left : Queues) (row : ActivationRow) (o : Option ℕ) → r.running ≡ None → next_queued r.ready ≡ Some (n, left) → by_number r.journal.rows n ≡ Some row → row.after ≡ o
      → Move p c units r (is_behind (begins r n left) row.task o)
  starts_row n left row None idle next there e = Move.started n left idle next (not_cut n row there (λ u tag after. absurd (none-some u (sym e ∙ after))))
  starts_row n left row (Some u) idle next there e = starts_behind n left row u _ idle next there e refl

  starts_number : (n : ℕ) (left : Queues) (o : Option ActivationRow) → r.running ≡ None → next_queued r.ready ≡ Some (n, left) → by_number r.journal.rows n ≡ o → Move p c units r (started_row (begins r n left) o)
  starts_number n left None idle next e = Move.started n left idle next (λ row u tag there. absurd (none-some row (sym e ∙ there)))
  starts_number n left (Some row) idle next e = starts_row n left row _ idle next e refl

  starts_some : (o : Option (ℕ × Queues)) → r.running ≡ None → next_queued r.ready ≡ o → StaysOrMoves p c units r (starts_next r o)
  starts_some None idle e = inl (refl, Still.quiet idle e)
  starts_some (Some (n, left)) idle e = inr (starts_number n left _ idle e refl)

  steps_from : (o : Option ℕ) → r.running ≡ o → StaysOrMoves p c units r (step_with p c units r o)
  steps_from None e = starts_some _ e refl
  steps_from (Some n) e = at_row n _ e refl

-- a step
pub step_moves : StepsMove
step_moves p c units r = steps_from p c units r _ refl

-- a root
module _ (p : Program) (units : ℕ) (r : Run) (root : RootLine) where
  root_asked : (o : Option BlockState) → first_taskless r.roots (roots_named root) ≡ None → placed (pool_of units r) (kind_class p root.kind) ≡ o
      → RootMove p units r root (asks_root_with o units r (root_request p r root))
  root_asked None free e = RootMove.refused _ _ free (RefusesRoot.no_block e)
  root_asked (Some block) free e = by (has_number r) refl
    where
      by : (b : Bool) → has_number r ≡ b → RootMove p units r root (cond b (arrives (with_root (accepts units r (root_request p r root) block) (Named (next_number r.journal))) (next_number r.journal) (root_request p r root).after)
          (with_root (places units r block) (Refused Limit)))
      by true some = RootMove.named block free e some
      by false full = RootMove.refused _ _ free (RefusesRoot.no_number block e full)

  root_moved : (o : Option (ℕ × CutTag)) → first_taskless r.roots (roots_named root) ≡ o → RootMove p units r root (asks_root p units r root o)
  root_moved None e = root_asked _ e refl
  root_moved (Some first) e = RootMove.skipped first e

-- each root moves
pub root_moves : RootsMove
root_moves p units r root = root_moved p units r root _ refl
