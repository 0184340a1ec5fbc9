-- A run has as many root words as its program has roots.
use Rattle.std.proofs.Common.{◌≡◌, ℕ, Option, Some, None, refl}
use Rattle.task_syntax.specs.declared.program.Program.{Program}
use Rattle.task_syntax.specs.declared.columns.Columns.{Columns}
use Rattle.task_meaning.specs.Worths.{Respawn}
use Rattle.task_meaning.specs.Frame.{set_future}
use Rattle.frame_code.specs.Words.{OfKind}
use Rattle.record_core.specs.Numbers.{found}
use Rattle.record_core.specs.Journal.{next_number}
use Rattle.run_model.specs.State.{Outcome, Run}
use Rattle.run_model.specs.Step.{arrives, waits_or_queues, accepts, draws, with_body}
use Rattle.run_model.specs.Move.{with_notes, Move}

-- an arrival leaves the root words
pub arrives_same_roots : (r : Run) (n : ℕ) (after : Option ℕ) → (arrives r n after).roots ≡ r.roots
arrives_same_roots r n None = refl
arrives_same_roots r n (Some u) = by (found r.outcomes u)
  where
    by : (o : Option Outcome) → (waits_or_queues o r n u).roots ≡ r.roots
    by None = refl
    by (Some outcome) = refl

-- no step changes what became of a root
pub move_same_roots : (p : Program) (c : Columns) (units : ℕ) (r s : Run) → Move p c units r s → s.roots ≡ r.roots
move_same_roots p c units r _ (Move.goes_on t n q next runs goes) = refl
move_same_roots p c units r _ (Move.spawned t n to q request retry block runs asks placed some) =
    arrives_same_roots (with_body (accepts units r request block) t (OfKind (set_future q to (Some (next_number r.journal))))) (next_number r.journal) request.after
move_same_roots p c units r _ (Move.respawned t n body to after priority notes runs renews some) =
    arrives_same_roots (with_body (record (draws (with_notes r notes) (Some t) after priority (Respawn t after) None None) { running = None }) t to) (next_number r.journal) after
move_same_roots p c units r _ (Move.gave t n body v runs answers) = refl
move_same_roots p c units r _ (Move.refused t n body tag notes runs refuses) = refl
move_same_roots p c units r _ (Move.started n left idle next uncut) = refl
move_same_roots p c units r _ (Move.cut_at_start n left row u tag idle next there after cut) = refl
