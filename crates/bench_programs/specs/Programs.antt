-- The programs of the families. Each line has the number that it has in the canonical text.
use Rattle.std.specs.Prelude.{ℕ, ◌+◌, false, List, [], ◌∷◌, Some, None, codes}
use Rattle.task_syntax.specs.declared.value.Priority.TheVariants.{High, Regular, Low}
use Rattle.task_syntax.specs.declared.instr.Operand.TheVariants.{Literal, Variable}
use Rattle.task_syntax.specs.declared.instr.Argument.TheVariants as argument
use Rattle.task_syntax.specs.declared.instr.MathOp.TheVariants.{Add, Sub}
use Rattle.task_syntax.specs.declared.instr.Relation.TheVariants.{Less, Equal}
use Rattle.task_syntax.specs.declared.instr.Instr.{Instr}
use Rattle.task_syntax.specs.declared.instr.Instr.TheVariants.{Math, If, Label, Spawn, All, Get, Again, Done}
use Rattle.task_syntax.specs.declared.instr.Line.{Line}
use Rattle.task_syntax.specs.declared.program.Sort.TheVariants as sort
use Rattle.task_syntax.specs.declared.program.Variable.{Variable as VariableOf}
use Rattle.task_syntax.specs.declared.program.State.{State}
use Rattle.task_syntax.specs.declared.program.Kind.{Kind}
use Rattle.task_syntax.specs.declared.program.RootArgument.{RootArgument}
use Rattle.task_syntax.specs.declared.program.RootArgument.TheVariants as root_argument
use Rattle.task_syntax.specs.declared.program.Root.{Root}
use Rattle.task_syntax.specs.declared.program.Program.{Program}
use Rattle.bench_programs.specs.declared.family.Family.{Family}
use Rattle.bench_programs.specs.declared.family.Family.TheVariants.{Fib, Grid, Chain}

abbrev pub number : List ℕ → VariableOf
number name = record { name = name; sort = sort.Number }

abbrev pub future : List ℕ → VariableOf
future name = record { name = name; sort = sort.Future }

-- instructions on the lines from `first` on
abbrev pub lines_from : ℕ → List Instr → List Line
lines_from first [] = []
lines_from first (instr ∷ more) = record { line = first; instr = instr } ∷ lines_from (first + 1) more

-- a state that holds these futures, all of them settled, with its code on the lines behind its own
abbrev pub state_on : ℕ → List ℕ → List ℕ → List Instr → State
state_on line name futures code =
    record { line = line; name = name; holds = futures; settled = futures; code = lines_from (line + 1) code }

-- a spawn with one number, and an aggregate, each with regular priority
abbrev pub spawn : ℕ → ℕ → ℕ → Instr
spawn to kind passed = Spawn to kind (argument.Number (Variable passed) ∷ []) None Regular false

abbrev pub all : ℕ → List ℕ → Instr
all to members = All to members Regular false

abbrev pub root_on : ℕ → ℕ → List RootArgument → Root
root_on line kind arguments =
    record { line = line; name = codes "r"; kind = kind; arguments = arguments; behind = None; priority = Regular }

-- ---- fib: the sum of the two numbers before

-- n, x, y, @a, @b, @g
abbrev pub fib_kind : Kind
fib_kind = record {
  line = 2;
  name = codes "fib";
  arguments = 1;
  variables = number (codes "n") ∷ number (codes "x") ∷ number (codes "y") ∷ future (codes "a") ∷ future (codes "b") ∷ future (codes "g") ∷ [];
  states =
      state_on 4 (codes "start") []
      (If Less (Variable 0) (Literal 2) 7
      ∷ Math Sub 1 (Variable 0) (Literal 1)
      ∷ Math Sub 2 (Variable 0) (Literal 2)
      ∷ spawn 3 0 1
      ∷ spawn 4 0 2
      ∷ all 5 (3 ∷ 4 ∷ [])
      ∷ Again 1 (Some 5) Regular
      ∷ Label (codes "small")
      ∷ Done (Variable 0)
      ∷ [])
      ∷ state_on 14 (codes "sum") (3 ∷ 4 ∷ [])
      (Get 1 3
      ∷ Get 2 4
      ∷ Math Add 1 (Variable 1) (Variable 2)
      ∷ Done (Variable 1)
      ∷ [])
      ∷ [];
}

abbrev pub fib_program : ℕ → Program
fib_program n = record { kinds = fib_kind ∷ []; roots = root_on 20 0 (root_argument.Number n ∷ []) ∷ [] }

-- ---- grid: four tasks for each

-- d, x, @a, @b, @c, @e, @g
abbrev pub grid_kind : Kind
grid_kind = record {
  line = 2;
  name = codes "grid";
  arguments = 1;
  variables = number (codes "d") ∷ number (codes "x") ∷ future (codes "a") ∷ future (codes "b") ∷ future (codes "c") ∷ future (codes "e") ∷ future (codes "g") ∷ [];
  states =
      state_on 4 (codes "start") []
      (If Equal (Variable 0) (Literal 0) 8
      ∷ Math Sub 1 (Variable 0) (Literal 1)
      ∷ Spawn 2 0 (argument.Number (Variable 1) ∷ []) None High false
      ∷ spawn 3 0 1
      ∷ spawn 4 0 1
      ∷ Spawn 5 0 (argument.Number (Variable 1) ∷ []) None Low false
      ∷ all 6 (2 ∷ 3 ∷ 4 ∷ 5 ∷ [])
      ∷ Again 1 (Some 6) Regular
      ∷ Label (codes "one")
      ∷ Done (Literal 1)
      ∷ [])
      ∷ state_on 15 (codes "sum") (2 ∷ 3 ∷ 4 ∷ 5 ∷ [])
      (Get 0 2
      ∷ Get 1 3
      ∷ Math Add 0 (Variable 0) (Variable 1)
      ∷ Get 1 4
      ∷ Math Add 0 (Variable 0) (Variable 1)
      ∷ Get 1 5
      ∷ Math Add 0 (Variable 0) (Variable 1)
      ∷ Done (Variable 0)
      ∷ [])
      ∷ [];
}

abbrev pub grid_program : ℕ → Program
grid_program n = record { kinds = grid_kind ∷ []; roots = root_on 25 0 (root_argument.Number n ∷ []) ∷ [] }

-- ---- chain: the sum of the numbers up to one, each by a task of its own

-- n
abbrev pub leaf_kind : Kind
leaf_kind = record {
  line = 2;
  name = codes "leaf";
  arguments = 1;
  variables = number (codes "n") ∷ [];
  states = state_on 3 (codes "start") [] (Done (Variable 0) ∷ []) ∷ [];
}

-- n, s, x, @a
abbrev pub chain_kind : Kind
chain_kind = record {
  line = 6;
  name = codes "chain";
  arguments = 2;
  variables = number (codes "n") ∷ number (codes "s") ∷ number (codes "x") ∷ future (codes "a") ∷ [];
  states =
      state_on 8 (codes "start") []
      (If Equal (Variable 0) (Literal 0) 3
      ∷ spawn 3 0 0
      ∷ Again 1 (Some 3) Regular
      ∷ Label (codes "out")
      ∷ Done (Variable 1)
      ∷ [])
      ∷ state_on 14 (codes "next") (3 ∷ [])
      (Get 2 3
      ∷ Math Add 1 (Variable 1) (Variable 2)
      ∷ Math Sub 0 (Variable 0) (Literal 1)
      ∷ Again 0 None Regular
      ∷ [])
      ∷ [];
}

abbrev pub chain_program : ℕ → Program
chain_program n = record {
  kinds = leaf_kind ∷ chain_kind ∷ [];
  roots = root_on 20 1 (root_argument.Number n ∷ root_argument.Number 0 ∷ []) ∷ [];
}

-- ---- the program of a family for a number

abbrev pub family_program : Family → ℕ → Program
family_program Fib n = fib_program n
family_program Grid n = grid_program n
family_program Chain n = chain_program n
