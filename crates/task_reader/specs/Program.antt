-- The program that items stand for, with names as positions.
use Rattle.std.specs.Prelude.{ℕ, ◌+◌, Bool, false, if◌then◌else◌, List, [], ◌∷◌, ◌++◌, map, length, Option, option_map}
use Rattle.task_lines.specs.Scope.{is_variable}
use Rattle.task_lines.specs.declared.item.Item.{Item}
use Rattle.task_lines.specs.declared.item.RootTerm.{RootTerm}
use Rattle.task_lines.specs.declared.step.Passed.{Passed}
use Rattle.task_lines.specs.declared.step.Step.{Step}
use Rattle.task_lines.specs.declared.step.Step.TheVariants.{Set, Math, If, Goto, Label, Cell, Rows, Spawn, All, Copy, Drop, Get, Again, Done}
use Rattle.task_lines.specs.declared.step.Term.{Term}
use Rattle.task_reader.specs.declared.positions.Positions.{Positions}
use Rattle.task_syntax.specs.Names.{same_bytes}
use Rattle.task_syntax.specs.declared.instr.Argument.{Argument}
use Rattle.task_syntax.specs.declared.instr.Instr.{Instr}
use Rattle.task_syntax.specs.declared.instr.Line.{Line}
use Rattle.task_syntax.specs.declared.instr.Operand.{Operand}
use Rattle.task_syntax.specs.declared.program.Kind.{Kind}
use Rattle.task_syntax.specs.declared.program.Program.{Program}
use Rattle.task_syntax.specs.declared.program.Root.{Root}
use Rattle.task_syntax.specs.declared.program.RootArgument.{RootArgument}
use Rattle.task_syntax.specs.declared.program.Sort.TheVariants.{Number, Future}
use Rattle.task_syntax.specs.declared.program.State.{State}
use Rattle.task_syntax.specs.declared.program.Variable.{Variable}
use Rattle.task_syntax.specs.declared.value.Priority.{Priority}
use Rattle.task_lines.specs.declared.item.What.TheVariants as what
use Rattle.task_reader.specs.Names.{kind_names, state_names}

-- ---- positions

-- how many stand before the first that passes the test
abbrev pub place_where : {A : Type 0} → (A → Bool) → List A → ℕ
place_where test [] = 0
place_where test (a ∷ more) = if test a then 0 else place_where test more + 1

abbrev pub place_of : List (List ℕ) → List ℕ → ℕ
place_of names name = place_where (same_bytes name) names

abbrev pub number_place : List Variable → List ℕ → ℕ
number_place variables name = place_where (is_variable Number name) variables

abbrev pub future_place : List Variable → List ℕ → ℕ
future_place variables name = place_where (is_variable Future name) variables

-- how many instructions stand before the label
abbrev pub is_label : List ℕ → Step → Bool
is_label name (Label other) = same_bytes name other
is_label name _ = false

abbrev pub steps_to : List ℕ → List Item → ℕ
steps_to name [] = 0
steps_to name (item ∷ items) =
    elim item.what [ what.Step step ↦ (if is_label name step then 0 else steps_to name items + 1) | _ ↦ 0 ]

-- ---- instructions

abbrev pub operand_of : Positions → Term → Operand
operand_of p (Term.Literal n) = Operand.Literal n
operand_of p (Term.Variable name) = Operand.Variable (number_place p.variables name)

abbrev pub argument_of : Positions → Passed → Argument
argument_of p (Passed.Number t) = Argument.Number (operand_of p t)
argument_of p (Passed.Future name) = Argument.Future (future_place p.variables name)

-- the instruction of a step, where a label of this name has that position
unfoldable pub instr_of : Positions → (List ℕ → ℕ) → Step → Instr
instr_of p label_place (Set to value) = Instr.Set (number_place p.variables to) (operand_of p value)
instr_of p label_place (Math operation to left right) =
    Instr.Math operation (number_place p.variables to) (operand_of p left) (operand_of p right)
instr_of p label_place (If relation left right target) = Instr.If relation (operand_of p left) (operand_of p right) (label_place target)
instr_of p label_place (Goto target) = Instr.Goto (label_place target)
instr_of p label_place (Label name) = Instr.Label name
instr_of p label_place (Cell to column row) = Instr.Cell (number_place p.variables to) column (operand_of p row)
instr_of p label_place (Rows to column) = Instr.Rows (number_place p.variables to) column
instr_of p label_place (Spawn to kind arguments behind priority retry) =
    Instr.Spawn (future_place p.variables to) (place_of p.kinds kind) (map (argument_of p) arguments) (option_map (future_place p.variables) behind) priority retry
instr_of p label_place (All to members priority retry) =
    Instr.All (future_place p.variables to) (map (future_place p.variables) members) priority retry
instr_of p label_place (Copy to source) = Instr.Copy (future_place p.variables to) (future_place p.variables source)
instr_of p label_place (Drop future) = Instr.Drop (future_place p.variables future)
instr_of p label_place (Get to future) = Instr.Get (number_place p.variables to) (future_place p.variables future)
instr_of p label_place (Again target behind priority) =
    Instr.Again (place_of p.states target) (option_map (future_place p.variables) behind) priority
instr_of p label_place (Done value) = Instr.Done (operand_of p value)

-- the instructions up to the end of the state, where the first has the position `at`
unfoldable pub code_from : Positions → ℕ → List Item → List Line
code_from p at [] = []
code_from p at (item ∷ items) =
    elim item.what [ what.Step step ↦ record { line = item.line; instr = instr_of p (λ name. at + 1 + steps_to name items) step } ∷ code_from p (at + 1) items | _ ↦ [] ]

-- ---- states and kinds

abbrev pub state_of : Positions → ℕ → List ℕ → List (List ℕ) → List (List ℕ) → List Item → State
state_of p line name holds settled items = record {
  line = line;
  name = name;
  holds = map (future_place p.variables) holds;
  settled = map (future_place p.variables) settled;
  code = code_from p 0 items;
}

-- the states up to the end of the kind
unfoldable pub states_from : Positions → List Item → List State
states_from p [] = []
states_from p (item ∷ items) =
    elim item.what [ what.State name holds settled ↦ state_of p item.line name holds settled items ∷ states_from p items | what.End ↦ [] | _ ↦ states_from p items ]

-- the variables of the `var` lines that follow
abbrev pub variables_from : List Item → List Variable
variables_from [] = []
variables_from (item ∷ items) = elim item.what [ what.Var variables ↦ variables ++ variables_from items | _ ↦ [] ]

unfoldable pub kind_of : List (List ℕ) → ℕ → List ℕ → List Variable → List Item → Kind
kind_of kinds line name arguments items = record {
  line = line;
  name = name;
  arguments = length arguments;
  variables = arguments ++ variables_from items;
  states = states_from (record { kinds = kinds; variables = arguments ++ variables_from items; states = state_names items }) items;
}

unfoldable pub kinds_from : List (List ℕ) → List Item → List Kind
kinds_from kinds [] = []
kinds_from kinds (item ∷ items) =
    elim item.what [ what.Kind name arguments ↦ kind_of kinds item.line name arguments items ∷ kinds_from kinds items | _ ↦ kinds_from kinds items ]

-- ---- roots and the program

abbrev pub root_argument_of : List (List ℕ) → RootTerm → RootArgument
root_argument_of earlier (RootTerm.Number n) = RootArgument.Number n
root_argument_of earlier (RootTerm.Root name) = RootArgument.Root (place_of earlier name)

-- the root of a line, behind roots with the earlier names
unfoldable pub root_of : List (List ℕ) → List (List ℕ) → ℕ → List ℕ → List ℕ → List RootTerm → Option (List ℕ) → Priority → Root
root_of kinds earlier line name kind arguments behind priority = record {
  line = line;
  name = name;
  kind = place_of kinds kind;
  arguments = map (root_argument_of earlier) arguments;
  behind = option_map (place_of earlier) behind;
  priority = priority;
}

unfoldable pub roots_from : List (List ℕ) → List (List ℕ) → List Item → List Root
roots_from kinds earlier [] = []
roots_from kinds earlier (item ∷ items) =
    elim item.what [ what.Root name kind arguments behind priority ↦ root_of kinds earlier item.line name kind arguments behind priority ∷ roots_from kinds (earlier ++ name ∷ []) items | _ ↦ roots_from kinds earlier items ]

unfoldable pub program_of : List Item → Program
program_of items = record { kinds = kinds_from (kind_names items) items; roots = roots_from (kind_names items) [] items }
