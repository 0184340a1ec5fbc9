-- Programs written down, without the lines and names of their text.
use Rattle.std.specs.Prelude.{ℕ, List, [], Option, map}
use Rattle.task_syntax.specs.declared.value.Priority.{Priority}
use Rattle.task_syntax.specs.declared.instr.Instr.{Instr}
use Rattle.task_syntax.specs.declared.instr.Line.{Line}
use Rattle.task_syntax.specs.declared.program.Sort.{Sort}
use Rattle.task_syntax.specs.declared.program.Variable.{Variable}
use Rattle.task_syntax.specs.declared.program.State.{State}
use Rattle.task_syntax.specs.declared.program.Kind.{Kind}
use Rattle.task_syntax.specs.declared.program.Root.{Root}
use Rattle.task_syntax.specs.declared.program.RootArgument.{RootArgument}

abbrev pub line_of : Instr → Line
line_of instr = record { line = 0; instr = instr }

-- a state: what it holds, what of that is settled, and its code
abbrev pub state_of : List ℕ → List ℕ → List Instr → State
state_of holds settled code = record { line = 0; name = []; holds = holds; settled = settled; code = map line_of code }

abbrev pub variable_of : Sort → Variable
variable_of sort = record { name = []; sort = sort }

-- a kind: how many of its variables are arguments, their sorts, and its states
abbrev pub kind_of : ℕ → List Sort → List State → Kind
kind_of arguments sorts states = record { line = 0; name = []; arguments = arguments; variables = map variable_of sorts; states = states }

-- a root: its kind, its arguments, the root that it is behind, and its priority
abbrev pub root_of : ℕ → List RootArgument → Option ℕ → Priority → Root
root_of kind arguments behind priority = record { line = 0; name = []; kind = kind; arguments = arguments; behind = behind; priority = priority }
