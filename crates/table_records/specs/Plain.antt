-- A program whose first kind has no variables, and what its tasks are.
use Rattle.std.specs.Prelude.{◌≡◌, ℕ, ◌≤◌, Option, Some, None, List, [], ◌∷◌, length, slice_get}
use Rattle.task_syntax.specs.declared.program.Kind.{Kind}
use Rattle.task_syntax.specs.declared.program.Program.{Program}
use Rattle.task_syntax.specs.declared.program.Root.{Root}
use Rattle.task_syntax.specs.declared.program.State.{State}
use Rattle.task_meaning.specs.Frame.{FrameOf, CallOf}
use Rattle.task_meaning.specs.Worths.{Accepted, OfCall}

-- the first kind has no variables, and its first state holds none and has code
pub record IsPlainKind (p : Program) : Type 0 where
  pub kind : Kind
  pub kind_there : slice_get p.kinds 0 ≡ Some kind
  pub no_arguments : kind.arguments ≡ 0
  pub no_variables : kind.variables ≡ []
  pub state : State
  pub state_there : slice_get kind.states 0 ≡ Some state
  pub holds_none : state.holds ≡ []
  pub some_code : 1 ≤ length state.code

-- and the first root is a task of that kind, behind none
pub record IsPlainRoot (p : Program) : Type 0 where
  pub root : Root
  pub root_there : slice_get p.roots 0 ≡ Some root
  pub kind_is : root.kind ≡ 0
  pub passes_none : root.arguments ≡ []
  pub behind_none : root.behind ≡ None

abbrev pub IsPlain : Program → Type 0
IsPlain p = IsPlainKind p × IsPlainRoot p

-- the call of a task of that kind, behind a task or none
abbrev pub plain_call : CallOf ℕ
plain_call = record { kind = 0; numbers = []; futures = [] }

abbrev pub call_behind : Option ℕ → Accepted
call_behind behind = OfCall plain_call behind

-- its first frame, and the words of that
abbrev pub plain_frame : FrameOf ℕ
plain_frame = record { kind = 0; state = 0; at = 0; numbers = []; futures = [] }

abbrev pub plain_words : List ℕ
plain_words = 0 ∷ []
