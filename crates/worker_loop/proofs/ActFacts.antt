-- What a task asks for where it stands, and a task that stands there still.
use Rattle.std.proofs.Common.{◌≡◌, ◌∙◌, ℕ, Bool, true, false, cond, Option, Some, None, List, [], ◌∷◌, sym, ap}
use Rattle.std.proofs.lemmas.Option.{none-some, same_Some}
use Rattle.task_syntax.specs.declared.columns.Columns.{Columns}
use Rattle.task_syntax.specs.declared.instr.Instr.{Instr}
use Rattle.task_syntax.specs.declared.instr.Instr.TheVariants.{Math, Cell, Spawn, All, Copy, Drop, Get, Again, Done}
use Rattle.task_syntax.specs.declared.program.Program.{Program}
use Rattle.task_syntax.specs.declared.value.Value.{Value}
use Rattle.task_syntax.specs.declared.value.Value.TheVariants as value
use Rattle.task_meaning.specs.Arithmetic.{computed, cell_at}
use Rattle.task_meaning.specs.Frame.{FrameOf, operand}
use Rattle.frame_code.specs.Members.{member_act}
use Rattle.frame_code.specs.Stops.{stop_at, trapped}
use Rattle.frame_code.specs.Words.{BodyOf, OfKind, OfMembers}
use Rattle.frame_code.specs.declared.act.Act.{Act}
use Rattle.frame_code.specs.declared.act.Act.TheVariants as act
use Rattle.table_core.specs.Holdings.{Run}
use Rattle.table_core.specs.WaitViews.{is_run_at}
use Rattle.table_core.specs.declared.setup.Setup.{Setup}
use Rattle.table_core.specs.declared.view.View.{View}
use Rattle.schedule_rule.specs.HeldNames.{StandsDropping}
use Rattle.step_table.specs.Lookups.{run_in}
use Rattle.schedule_core.specs.Moves.{Asks}
use Rattle.schedule_core.specs.declared.running.Running.{Running}
use Rattle.worker_loop.specs.Working.{RunsAlone, Stands}

no-trap : (v : Value) (x : ℕ) → trapped v ≡ Some (act.Drop x) → ⊥
no-trap (value.Number n) x e = cc
no-trap (value.Trapped t) x e = cc

abbrev dropped_by : Act → Option ℕ
dropped_by (act.Drop x) = Some x
dropped_by _ = None

drops-at : (c : Columns) (q : FrameOf ℕ) (x : ℕ) (instr : Instr) → stop_at c instr q ≡ Some (act.Drop x) → instr ≡ Drop x
drops-at c q x (Math op at left right) e = absurd (no-trap (computed op (operand q.numbers left) (operand q.numbers right)) x e)
drops-at c q x (Cell at column row) e = absurd (no-trap (cell_at c column (operand q.numbers row)) x e)
drops-at c q x (Spawn at kind arguments waits priority retry) e = cc
drops-at c q x (All at members priority retry) e = cc
drops-at c q x (Copy at from) e = cc
drops-at c q x (Drop y) e = let s : act.Drop y ≡ act.Drop x = cc in let t : Some y ≡ Some x = ap dropped_by s in ap Drop (same_Some y x t)
drops-at c q x (Get at y) e = cc
drops-at c q x (Again target waits priority) e = cc
drops-at c q x (Done a) e = cc
drops-at c q x _ e = cc

no-member : (o : Option ℕ) (next x : ℕ) → member_act o next ≡ act.Drop x → ⊥
no-member None next x e = cc
no-member (Some m) next x e = cc

-- a task that asks for a drop stands at one
pub asks-drop : (p : Program) (c : Columns) (x : ℕ) (b : BodyOf ℕ) → Asks p c (act.Drop x) b → StandsDropping p x b
asks-drop p c x (OfKind q) (line, at, stops) = (line, at, drops-at c q x line.instr stops)
asks-drop p c x (OfMembers units next) asks = absurd (no-member _ next x asks)

-- the run that a pass has is that of the task
pub alone-stands : (g : Setup) (x : Running) (units : List ℕ) (v : View) → RunsAlone g x units v → Stands x.started.number v
alone-stands g x units v a = by a.one (ap (run_in x.started.unit) (sym a.one.1) ∙ a.in_step.at.there)
  where
    by : (one : (r : Run) × (v.runs ≡ r ∷ [])) → run_in x.started.unit (one.0 ∷ []) ≡ Some a.in_step.run → Stands x.started.number v
    by (r, is) found = (r, is, at (is_run_at x.started.unit r) found)
      where
        at : (b : Bool) → cond b (Some r) None ≡ Some a.in_step.run → r.number ≡ x.started.number
        at true e = ap (λ (z : Run). z.number) (same_Some r a.in_step.run e) ∙ a.in_step.number_is
        at false e = absurd (none-some a.in_step.run e)
