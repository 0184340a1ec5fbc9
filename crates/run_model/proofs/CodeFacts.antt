-- Where the line of a frame stands in its program.
use Rattle.std.proofs.Common.{◌≡◌, ℕ, Bool, true, Option, Some, None, slice_get, refl, sym, ◌∙◌}
use Rattle.std.proofs.lemmas.Bool.{false≢true}
use Rattle.std.proofs.lemmas.Option.{none-some}
use Rattle.task_syntax.specs.declared.instr.Instr.{Instr}
use Rattle.task_syntax.specs.declared.instr.Instr.TheVariants.{Spawn, All}
use Rattle.task_syntax.specs.declared.instr.Line.{Line}
use Rattle.task_syntax.specs.declared.program.State.{State}
use Rattle.task_syntax.specs.declared.program.Kind.{Kind}
use Rattle.task_syntax.specs.declared.program.Program.{Program}
use Rattle.task_syntax.specs.declared.columns.Columns.{Columns}
use Rattle.task_meaning.specs.Frame.{FrameOf, code_at, code_in, state_in}
use Rattle.record_core.specs.EndSound.{IsNoRetry, HasNoRetry}
use Rattle.run_model.specs.Step.{Request, asks_again}
use Rattle.run_model.specs.Move.{Asks}

-- a line of a state of a kind of the program
pub record IsLineOf (p : Program) (kind state at : ℕ) (line : Line) : Type 0 where
  pub of_kind : Kind
  pub of_state : State
  pub is_kind : slice_get p.kinds kind ≡ Some of_kind
  pub is_state : slice_get of_kind.states state ≡ Some of_state
  pub is_line : slice_get of_state.code at ≡ Some line

-- the line at a position of a state's code is one of a kind and a state of the program
pub line_of_code : (p : Program) (kind state at : ℕ) (line : Line) → slice_get (code_at p kind state) at ≡ Some line → IsLineOf p kind state at line
line_of_code p kind state at line e = by_kind (slice_get p.kinds kind) refl e
  where
    by_state : (k : Kind) → slice_get p.kinds kind ≡ Some k → (o : Option State) → slice_get k.states state ≡ o → slice_get (code_in o) at ≡ Some line → IsLineOf p kind state at line
    by_state k f None g h = absurd (none-some line h)
    by_state k f (Some s) g h = record { of_kind = k; of_state = s; is_kind = f; is_state = g; is_line = h }

    by_kind : (o : Option Kind) → slice_get p.kinds kind ≡ o → slice_get (code_in (state_in o state)) at ≡ Some line → IsLineOf p kind state at line
    by_kind None f h = absurd (none-some line h)
    by_kind (Some k) f h = by_state k f (slice_get k.states state) refl h

-- a program without `retry` asks for nothing again
pub no_retry : (instr : Instr) → IsNoRetry instr → asks_again instr ≡ true → ⊥
no_retry (Spawn to kind arguments waits priority retry) none e = false≢true (sym none ∙ e)
no_retry (All to members priority retry) none e = false≢true (sym none ∙ e)
no_retry _ none e = false≢true e

line_no_retry : (p : Program) (kind state at : ℕ) (line : Line) → HasNoRetry p → slice_get (code_at p kind state) at ≡ Some line → asks_again line.instr ≡ true → ⊥
line_no_retry p kind state at line none there e =
    let l = line_of_code p kind state at line there in no_retry line.instr (none kind l.of_kind l.is_kind state l.of_state l.is_state at line l.is_line) e

-- a program without `retry` asks for none
pub asks_no_retry : (p : Program) (c : Columns) (q : FrameOf ℕ) (request : Request) (to : ℕ) (retry : Bool) → HasNoRetry p → Asks p c q request to retry → retry ≡ true → ⊥
asks_no_retry p c q _ _ _ none (Asks.calls line to call waits there e) again = line_no_retry p q.kind q.state q.at line none there again
asks_no_retry p c q _ _ _ none (Asks.gathers line to members there e) again = line_no_retry p q.kind q.state q.at line none there again
