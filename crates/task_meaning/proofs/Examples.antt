-- Small programs whose meaning is known.
use Rattle.std.specs.Prelude.{◌≡◌, ℕ, Some, None, List, [], ◌∷◌, false, map}
use Rattle.std.proofs.Common.{refl}
use Rattle.task_syntax.specs.declared.value.Value.TheVariants as value
use Rattle.task_syntax.specs.declared.value.Trap.TheVariants.{Overflow, NoRow}
use Rattle.task_syntax.specs.declared.value.Priority.TheVariants.{Regular}
use Rattle.task_syntax.specs.declared.instr.Operand.TheVariants.{Literal, Variable}
use Rattle.task_syntax.specs.declared.instr.Argument.TheVariants as argument
use Rattle.task_syntax.specs.declared.instr.MathOp.TheVariants as op
use Rattle.task_syntax.specs.declared.instr.Relation.TheVariants.{Less}
use Rattle.task_syntax.specs.declared.instr.Instr.{Instr}
use Rattle.task_syntax.specs.declared.instr.Instr.TheVariants.{Math, If, Label, Cell, Spawn, All, Get, Again, Done}
use Rattle.task_syntax.specs.declared.instr.Line.{Line}
use Rattle.task_syntax.specs.declared.program.Sort.{Sort}
use Rattle.task_syntax.specs.declared.program.Sort.TheVariants as sort
use Rattle.task_syntax.specs.declared.program.Variable.{Variable as VariableOf}
use Rattle.task_syntax.specs.declared.program.State.{State}
use Rattle.task_syntax.specs.declared.program.Kind.{Kind}
use Rattle.task_syntax.specs.declared.program.RootArgument.TheVariants as root_argument
use Rattle.task_syntax.specs.declared.program.Program.{Program}
use Rattle.task_syntax.specs.declared.columns.Columns.{Columns}
use Rattle.task_meaning.specs.Meant.{counted}
use Rattle.task_meaning.specs.Roots.{root_value, roots_counts}

abbrev line_of : Instr → Line
line_of instr = record { line = 0; instr = instr }

abbrev state_of : List ℕ → List Instr → State
state_of holds code = record { line = 0; name = []; holds = holds; settled = holds; code = map line_of code }

abbrev variable_of : Sort → VariableOf
variable_of s = record { name = []; sort = s }

abbrev kind_of : ℕ → List Sort → List State → Kind
kind_of arguments sorts states = record { line = 0; name = []; arguments = arguments; variables = map variable_of sorts; states = states }

abbrev no_columns : Columns
no_columns = record { names = []; cells = [] }

-- fib of n
abbrev fib : ℕ → Program
fib n = record {
  kinds = kind_of 1 (sort.Number ∷ sort.Number ∷ sort.Number ∷ sort.Future ∷ sort.Future ∷ sort.Future ∷ []) (
      state_of [] (
      If Less (Variable 0) (Literal 2) 7 ∷ Math op.Sub 1 (Variable 0) (Literal 1) ∷ Math op.Sub 2 (Variable 0) (Literal 2) ∷
      Spawn 3 0 (argument.Number (Variable 1) ∷ []) None Regular false ∷ Spawn 4 0 (argument.Number (Variable 2) ∷ []) None Regular false ∷
      All 5 (3 ∷ 4 ∷ []) Regular false ∷ Again 1 (Some 5) Regular ∷ Label [] ∷ Done (Variable 0) ∷ [])
      ∷ state_of (3 ∷ 4 ∷ []) (Get 1 3 ∷ Get 2 4 ∷ Math op.Add 1 (Variable 1) (Variable 2) ∷ Done (Variable 1) ∷ []) ∷ []) ∷ [];
  roots = record { line = 0; name = []; kind = 0; arguments = root_argument.Number n ∷ []; behind = None; priority = Regular } ∷ [];
}

fib_2-value : root_value (fib 2) no_columns 4 0 ≡ Some (value.Number 1)
fib_2-value = refl

fib_2-counts : roots_counts (fib 2) no_columns 4 ≡ counted 4 6
fib_2-counts = refl

fib_6-value : root_value (fib 6) no_columns 9 0 ≡ Some (value.Number 8)
fib_6-value = refl

-- a root that gives nothing at too little fuel
fib_2-short : root_value (fib 2) no_columns 1 0 ≡ None
fib_2-short = refl

-- a task that runs this code, and one behind it that reads it
abbrev read_back : List Instr → Program
read_back code = record {
  kinds = kind_of 0 (sort.Number ∷ []) (state_of [] code ∷ [])
      ∷ kind_of 1 (sort.Future ∷ sort.Number ∷ []) (state_of (0 ∷ []) (Get 1 0 ∷ Done (Variable 1) ∷ []) ∷ []) ∷ [];
  roots = record { line = 0; name = []; kind = 0; arguments = []; behind = None; priority = Regular }
      ∷ record { line = 0; name = []; kind = 1; arguments = root_argument.Root 0 ∷ []; behind = Some 0; priority = Regular } ∷ [];
}

abbrev code_below_0 : List Instr
code_below_0 = Math op.Sub 0 (Literal 0) (Literal 1) ∷ Done (Variable 0) ∷ []

below_0 : root_value (read_back code_below_0) no_columns 1 0 ≡ Some (value.Trapped Overflow)
below_0 = refl

-- the reader passes the trap on, and the counts are there
below_0-read : root_value (read_back code_below_0) no_columns 1 1 ≡ Some (value.Trapped Overflow)
below_0-read = refl

below_0-counts : roots_counts (read_back code_below_0) no_columns 1 ≡ counted 2 2
below_0-counts = refl

-- a cell of a column that is not there
no_cell : root_value (read_back (Cell 0 (112 ∷ []) (Literal 0) ∷ Done (Variable 0) ∷ [])) no_columns 1 1 ≡ Some (value.Trapped NoRow)
no_cell = refl

-- a task that calls itself for ever has no value at any fuel, and one that spawns it has no counts
no_end : root_value (read_back (Again 0 None Regular ∷ [])) no_columns 20 0 ≡ None
no_end = refl

abbrev spawns_no_end : Program
spawns_no_end = record {
  kinds = kind_of 0 [] (state_of [] (Again 0 None Regular ∷ []) ∷ [])
      ∷ kind_of 0 (sort.Future ∷ []) (state_of [] (Spawn 0 0 [] None Regular false ∷ Done (Literal 7) ∷ []) ∷ []) ∷ [];
  roots = record { line = 0; name = []; kind = 1; arguments = []; behind = None; priority = Regular } ∷ [];
}

spawns_no_end-value : root_value spawns_no_end no_columns 9 0 ≡ Some (value.Number 7)
spawns_no_end-value = refl

spawns_no_end-counts : roots_counts spawns_no_end no_columns 9 ≡ None
spawns_no_end-counts = refl
