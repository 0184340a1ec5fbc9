-- The lines of a program, over the names that its positions stand for.
use Rattle.std.specs.List.{flat_map}
use Rattle.std.specs.Prelude.{ℕ, List, [], ◌∷◌, ◌++◌, map, take, drop, slice_get, unwrap_or, option_map, length, ◌≤◌}
use Rattle.task_lines.specs.declared.item.RootTerm.{RootTerm}
use Rattle.task_lines.specs.declared.item.What.{What}
use Rattle.task_lines.specs.declared.step.Passed.{Passed}
use Rattle.task_lines.specs.declared.step.Step.{Step}
use Rattle.task_lines.specs.declared.step.Term.{Term}
use Rattle.task_syntax.specs.Places.{Each}
use Rattle.task_syntax.specs.declared.instr.Argument.{Argument}
use Rattle.task_syntax.specs.declared.instr.Instr.{Instr}
use Rattle.task_syntax.specs.declared.instr.Instr.TheVariants.{Set, Math, If, Goto, Label, Cell, Rows, Spawn, All, Copy, Drop, Get, Again, Done}
use Rattle.task_syntax.specs.declared.instr.Line.{Line}
use Rattle.task_syntax.specs.declared.instr.Operand.{Operand}
use Rattle.task_syntax.specs.declared.program.Kind.{Kind}
use Rattle.task_syntax.specs.declared.program.Program.{Program}
use Rattle.task_syntax.specs.declared.program.Root.{Root}
use Rattle.task_syntax.specs.declared.program.RootArgument.{RootArgument}
use Rattle.task_syntax.specs.declared.program.State.{State}
use Rattle.task_syntax.specs.declared.program.Variable.{Variable}

-- ---- names

-- the name at a position, or no bytes where there is none
abbrev pub name_at : List (List ℕ) → ℕ → List ℕ
name_at names at = unwrap_or (slice_get names at) []

-- the name of a label; other instructions have none
abbrev pub label_of : Instr → List ℕ
label_of (Label name) = name
label_of _ = []

-- the names that positions stand for in an instruction: of the kinds, of the variables and the states of its kind, and of
-- the labels by their places in the code of its state
pub record Names : Type 0 where
  pub kinds : List (List ℕ)
  pub variables : List (List ℕ)
  pub states : List (List ℕ)
  pub labels : List (List ℕ)

abbrev pub kind_names : List Kind → List (List ℕ)
kind_names kinds = map (λ (k : Kind). k.name) kinds

abbrev pub variable_names : List Variable → List (List ℕ)
variable_names variables = map (λ (v : Variable). v.name) variables

abbrev pub state_names : List State → List (List ℕ)
state_names states = map (λ (s : State). s.name) states

abbrev pub label_names : List Line → List (List ℕ)
label_names code = map (λ (l : Line). label_of l.instr) code

abbrev pub root_names : List Root → List (List ℕ)
root_names roots = map (λ (r : Root). r.name) roots

-- the names in a state of a kind, where the kinds have these names
abbrev pub names_in : List (List ℕ) → Kind → State → Names
names_in kinds kind state = record {
  kinds = kinds;
  variables = variable_names kind.variables;
  states = state_names kind.states;
  labels = label_names state.code;
}

-- names that say nothing: which instruction a step is can be read without them
abbrev pub nameless : Names
nameless = record { kinds = []; variables = []; states = []; labels = [] }

-- ---- instructions

abbrev pub term_of : List (List ℕ) → Operand → Term
term_of variables (Operand.Literal n) = Term.Literal n
term_of variables (Operand.Variable at) = Term.Variable (name_at variables at)

abbrev pub passed_of : List (List ℕ) → Argument → Passed
passed_of variables (Argument.Number a) = Passed.Number (term_of variables a)
passed_of variables (Argument.Future at) = Passed.Future (name_at variables at)

unfoldable pub step_of : Names → Instr → Step
step_of n (Set to value) = Step.Set (name_at n.variables to) (term_of n.variables value)
step_of n (Math op to left right) = Step.Math op (name_at n.variables to) (term_of n.variables left) (term_of n.variables right)
step_of n (If relation left right target) = Step.If relation (term_of n.variables left) (term_of n.variables right) (name_at n.labels target)
step_of n (Goto target) = Step.Goto (name_at n.labels target)
step_of n (Label name) = Step.Label name
step_of n (Cell to column row) = Step.Cell (name_at n.variables to) column (term_of n.variables row)
step_of n (Rows to column) = Step.Rows (name_at n.variables to) column
step_of n (Spawn to kind arguments behind priority retry) =
    Step.Spawn (name_at n.variables to) (name_at n.kinds kind) (map (passed_of n.variables) arguments) (option_map (name_at n.variables) behind) priority retry
step_of n (All to members priority retry) = Step.All (name_at n.variables to) (map (name_at n.variables) members) priority retry
step_of n (Copy to source) = Step.Copy (name_at n.variables to) (name_at n.variables source)
step_of n (Drop future) = Step.Drop (name_at n.variables future)
step_of n (Get to future) = Step.Get (name_at n.variables to) (name_at n.variables future)
step_of n (Again target behind priority) = Step.Again (name_at n.states target) (option_map (name_at n.variables) behind) priority
step_of n (Done value) = Step.Done (term_of n.variables value)

-- ---- lines

-- the arguments of a kind are variables of it
abbrev pub HaveArguments : List Kind → Type 0
HaveArguments kinds = Each kinds (λ (k : Kind). k.arguments ≤ length k.variables)

abbrev pub code_lines : Names → List Line → List What
code_lines n code = map (λ (l : Line). What.Step (step_of n l.instr)) code

-- the line of the state, and one for each instruction
unfoldable pub state_lines : List (List ℕ) → Kind → State → List What
state_lines kinds kind state =
    What.State state.name (map (name_at (variable_names kind.variables)) state.holds) (map (name_at (variable_names kind.variables)) state.settled)
    ∷ code_lines (names_in kinds kind state) state.code

-- one line for all local variables, and none where there are none
abbrev pub var_lines : List Variable → List What
var_lines [] = []
var_lines (v ∷ vs) = What.Var (v ∷ vs) ∷ []

-- the line of the kind with its arguments, its other variables, its states, and its end
unfoldable pub kind_lines : List (List ℕ) → Kind → List What
kind_lines kinds kind =
    What.Kind kind.name (take kind.arguments kind.variables)
    ∷ (var_lines (drop kind.arguments kind.variables) ++ (flat_map (state_lines kinds kind) kind.states ++ What.End ∷ []))

abbrev pub root_term_of : List (List ℕ) → RootArgument → RootTerm
root_term_of roots (RootArgument.Number n) = RootTerm.Number n
root_term_of roots (RootArgument.Root at) = RootTerm.Root (name_at roots at)

unfoldable pub root_line : List (List ℕ) → List (List ℕ) → Root → What
root_line kinds roots root =
    What.Root root.name (name_at kinds root.kind) (map (root_term_of roots) root.arguments) (option_map (name_at roots) root.behind) root.priority

-- the kinds, and then the roots
unfoldable pub lines_of_program : Program → List What
lines_of_program p = flat_map (kind_lines (kind_names p.kinds)) p.kinds ++ map (root_line (kind_names p.kinds) (root_names p.roots)) p.roots
