-- Programs whose runs are worked.
use Rattle.std.specs.Prelude.{true, false, [], ◌∷◌, Some, None, codes}
use Rattle.task_syntax.specs.declared.value.Priority.TheVariants.{High, Regular, Low}
use Rattle.task_syntax.specs.declared.instr.Operand.TheVariants.{Literal, Variable}
use Rattle.task_syntax.specs.declared.instr.Argument.TheVariants as argument
use Rattle.task_syntax.specs.declared.instr.MathOp.TheVariants as op
use Rattle.task_syntax.specs.declared.instr.Relation.TheVariants.{Less, Equal}
use Rattle.task_syntax.specs.declared.instr.Instr.TheVariants.{Math, If, Label, Cell, Rows, Spawn, All, Drop, Get, Again, Done}
use Rattle.task_syntax.specs.declared.program.Sort.TheVariants as sort
use Rattle.task_syntax.specs.declared.program.RootArgument.TheVariants as root_argument
use Rattle.task_syntax.specs.declared.program.Program.{Program}
use Rattle.task_syntax.specs.declared.columns.Columns.{Columns}
use Rattle.run_model.specs.ProgramParts.{state_of, kind_of, root_of}

-- the second Fibonacci number, by two tasks and an aggregate
abbrev pub fib_two : Program
fib_two = record {
  kinds = kind_of 1 (sort.Number ∷ sort.Number ∷ sort.Number ∷ sort.Future ∷ sort.Future ∷ sort.Future ∷ []) (
      state_of [] []
      (If Less (Variable 0) (Literal 2) 7
      ∷ Math op.Sub 1 (Variable 0) (Literal 1)
      ∷ Math op.Sub 2 (Variable 0) (Literal 2)
      ∷ Spawn 3 0 (argument.Number (Variable 1) ∷ []) None Regular false
      ∷ Spawn 4 0 (argument.Number (Variable 2) ∷ []) None Regular false
      ∷ All 5 (3 ∷ 4 ∷ []) Regular false
      ∷ Again 1 (Some 5) Regular
      ∷ Label []
      ∷ Done (Variable 0)
      ∷ [])
      ∷ state_of (3 ∷ 4 ∷ []) (3 ∷ 4 ∷ [])
      (Get 1 3
      ∷ Get 2 4
      ∷ Math op.Add 1 (Variable 1) (Variable 2)
      ∷ Done (Variable 1)
      ∷ [])
      ∷ []) ∷ [];
  roots = root_of 0 (root_argument.Number 2 ∷ []) None Regular ∷ [];
}

-- the fourth
abbrev pub fib_four : Program
fib_four = record {
  kinds = kind_of 1 (sort.Number ∷ sort.Number ∷ sort.Number ∷ sort.Future ∷ sort.Future ∷ sort.Future ∷ []) (
      state_of [] []
      (If Less (Variable 0) (Literal 2) 7
      ∷ Math op.Sub 1 (Variable 0) (Literal 1)
      ∷ Math op.Sub 2 (Variable 0) (Literal 2)
      ∷ Spawn 3 0 (argument.Number (Variable 1) ∷ []) None Regular false
      ∷ Spawn 4 0 (argument.Number (Variable 2) ∷ []) None Regular false
      ∷ All 5 (3 ∷ 4 ∷ []) Regular false
      ∷ Again 1 (Some 5) Regular
      ∷ Label []
      ∷ Done (Variable 0)
      ∷ [])
      ∷ state_of (3 ∷ 4 ∷ []) (3 ∷ 4 ∷ [])
      (Get 1 3
      ∷ Get 2 4
      ∷ Math op.Add 1 (Variable 1) (Variable 2)
      ∷ Done (Variable 1)
      ∷ [])
      ∷ []) ∷ [];
  roots = root_of 0 (root_argument.Number 4 ∷ []) None Regular ∷ [];
}

-- the fourth, where each spawn asks again
abbrev pub fib_retrying : Program
fib_retrying = record {
  kinds = kind_of 1 (sort.Number ∷ sort.Number ∷ sort.Number ∷ sort.Future ∷ sort.Future ∷ sort.Future ∷ []) (
      state_of [] []
      (If Less (Variable 0) (Literal 2) 7
      ∷ Math op.Sub 1 (Variable 0) (Literal 1)
      ∷ Math op.Sub 2 (Variable 0) (Literal 2)
      ∷ Spawn 3 0 (argument.Number (Variable 1) ∷ []) None Regular true
      ∷ Spawn 4 0 (argument.Number (Variable 2) ∷ []) None Regular true
      ∷ All 5 (3 ∷ 4 ∷ []) Regular true
      ∷ Again 1 (Some 5) Regular
      ∷ Label []
      ∷ Done (Variable 0)
      ∷ [])
      ∷ state_of (3 ∷ 4 ∷ []) (3 ∷ 4 ∷ [])
      (Get 1 3
      ∷ Get 2 4
      ∷ Math op.Add 1 (Variable 1) (Variable 2)
      ∷ Done (Variable 1)
      ∷ [])
      ∷ []) ∷ [];
  roots = root_of 0 (root_argument.Number 4 ∷ []) None Regular ∷ [];
}

-- a root whose block is wider, and one that is passed it
abbrev pub wide : Program
wide = record {
  kinds = kind_of 0 [] (
      state_of [] []
      (Done (Literal 1)
      ∷ [])
      ∷ [])
      ∷ kind_of 8 (sort.Number ∷ sort.Number ∷ sort.Number ∷ sort.Number ∷ sort.Number ∷ sort.Number ∷ sort.Number ∷ sort.Number ∷ []) (
      state_of [] []
      (Done (Variable 0)
      ∷ [])
      ∷ [])
      ∷ kind_of 1 (sort.Future ∷ sort.Number ∷ []) (
      state_of (0 ∷ []) (0 ∷ [])
      (Get 1 0
      ∷ Done (Variable 1)
      ∷ [])
      ∷ []) ∷ [];
  roots = root_of 0 [] None Regular
      ∷ root_of 1 (root_argument.Number 3 ∷ []) None Regular
      ∷ root_of 2 (root_argument.Root 1 ∷ []) (Some 1) Regular ∷ [];
}

-- two roots without room, one that is passed the second of them and is behind the first, and one that is behind the first alone
abbrev pub skips : Program
skips = record {
  kinds = kind_of 0 [] (
      state_of [] []
      (Done (Literal 1)
      ∷ [])
      ∷ [])
      ∷ kind_of 8 (sort.Number ∷ sort.Number ∷ sort.Number ∷ sort.Number ∷ sort.Number ∷ sort.Number ∷ sort.Number ∷ sort.Number ∷ []) (
      state_of [] []
      (Done (Variable 0)
      ∷ [])
      ∷ [])
      ∷ kind_of 1 (sort.Future ∷ []) (
      state_of (0 ∷ []) []
      (Done (Literal 1)
      ∷ [])
      ∷ []) ∷ [];
  roots = root_of 0 [] None Regular
      ∷ root_of 1 (root_argument.Number 3 ∷ []) None Regular
      ∷ root_of 1 (root_argument.Number 4 ∷ []) None Regular
      ∷ root_of 2 (root_argument.Root 2 ∷ []) (Some 1) Regular
      ∷ root_of 0 [] (Some 1) Regular ∷ [];
}

-- a trap, and a task that reads it
abbrev pub overflows : Program
overflows = record {
  kinds = kind_of 0 (sort.Number ∷ []) (
      state_of [] []
      (Math op.Add 0 (Literal 18446744073709551615) (Literal 1)
      ∷ Done (Variable 0)
      ∷ [])
      ∷ [])
      ∷ kind_of 1 (sort.Future ∷ sort.Number ∷ []) (
      state_of (0 ∷ []) (0 ∷ [])
      (Get 1 0
      ∷ Done (Variable 1)
      ∷ [])
      ∷ []) ∷ [];
  roots = root_of 0 [] None Regular
      ∷ root_of 1 (root_argument.Root 0 ∷ []) (Some 0) Regular ∷ [];
}

-- an aggregate of one task twice
abbrev pub twice : Program
twice = record {
  kinds = kind_of 1 (sort.Number ∷ []) (
      state_of [] []
      (Done (Variable 0)
      ∷ [])
      ∷ [])
      ∷ kind_of 0 (sort.Number ∷ sort.Future ∷ sort.Future ∷ []) (
      state_of [] []
      (Spawn 1 0 (argument.Number (Literal 7) ∷ []) None Regular false
      ∷ All 2 (1 ∷ 1 ∷ []) Regular false
      ∷ Again 1 (Some 2) Regular
      ∷ [])
      ∷ state_of (1 ∷ []) (1 ∷ [])
      (Get 0 1
      ∷ Done (Variable 0)
      ∷ [])
      ∷ []) ∷ [];
  roots = root_of 1 [] None Regular ∷ [];
}

-- a column is summed in halves
abbrev pub prices : Program
prices = record {
  kinds = kind_of 2 (sort.Number ∷ sort.Number ∷ sort.Number ∷ sort.Number ∷ sort.Future ∷ sort.Future ∷ sort.Future ∷ []) (
      state_of [] []
      (Math op.Sub 2 (Variable 1) (Variable 0)
      ∷ If Equal (Variable 2) (Literal 0) 12
      ∷ If Equal (Variable 2) (Literal 1) 9
      ∷ Math op.Div 2 (Variable 2) (Literal 2)
      ∷ Math op.Add 2 (Variable 0) (Variable 2)
      ∷ Spawn 4 0 (argument.Number (Variable 0) ∷ argument.Number (Variable 2) ∷ []) None Regular false
      ∷ Spawn 5 0 (argument.Number (Variable 2) ∷ argument.Number (Variable 1) ∷ []) None Regular false
      ∷ All 6 (4 ∷ 5 ∷ []) Regular false
      ∷ Again 1 (Some 6) Regular
      ∷ Label []
      ∷ Cell 3 (codes "price") (Variable 0)
      ∷ Done (Variable 3)
      ∷ Label []
      ∷ Done (Literal 0)
      ∷ [])
      ∷ state_of (4 ∷ 5 ∷ []) (4 ∷ 5 ∷ [])
      (Get 3 4
      ∷ Get 2 5
      ∷ Math op.Add 3 (Variable 3) (Variable 2)
      ∷ Done (Variable 3)
      ∷ [])
      ∷ [])
      ∷ kind_of 0 (sort.Number ∷ sort.Number ∷ sort.Future ∷ []) (
      state_of [] []
      (Rows 0 (codes "price")
      ∷ Spawn 2 0 (argument.Number (Literal 0) ∷ argument.Number (Variable 0) ∷ []) None Regular false
      ∷ Again 1 (Some 2) Regular
      ∷ [])
      ∷ state_of (2 ∷ []) (2 ∷ [])
      (Get 1 2
      ∷ Done (Variable 1)
      ∷ [])
      ∷ []) ∷ [];
  roots = root_of 1 [] None Regular ∷ [];
}

-- a task that spawns and reads one after the other
abbrev pub chain : Program
chain = record {
  kinds = kind_of 1 (sort.Number ∷ []) (
      state_of [] []
      (Done (Variable 0)
      ∷ [])
      ∷ [])
      ∷ kind_of 2 (sort.Number ∷ sort.Number ∷ sort.Number ∷ sort.Future ∷ []) (
      state_of [] []
      (If Equal (Variable 0) (Literal 0) 3
      ∷ Spawn 3 0 (argument.Number (Variable 0) ∷ []) None Regular false
      ∷ Again 1 (Some 3) Regular
      ∷ Label []
      ∷ Done (Variable 1)
      ∷ [])
      ∷ state_of (3 ∷ []) (3 ∷ [])
      (Get 2 3
      ∷ Math op.Add 1 (Variable 1) (Variable 2)
      ∷ Math op.Sub 0 (Variable 0) (Literal 1)
      ∷ Again 0 None Regular
      ∷ [])
      ∷ []) ∷ [];
  roots = root_of 1 (root_argument.Number 5 ∷ root_argument.Number 0 ∷ []) None Regular ∷ [];
}

-- the same chain, a hundred long
abbrev pub chain_hundred : Program
chain_hundred = record chain { roots = root_of 1 (root_argument.Number 100 ∷ root_argument.Number 0 ∷ []) None Regular ∷ [] }

-- a grid of depth two: each task spawns four, of three priorities, and adds up what they give
abbrev pub grid_two : Program
grid_two = record {
  kinds = kind_of 1 (sort.Number ∷ sort.Number ∷ sort.Future ∷ sort.Future ∷ sort.Future ∷ sort.Future ∷ sort.Future ∷ []) (
      state_of [] []
      (If Equal (Variable 0) (Literal 0) 8
      ∷ Math op.Sub 1 (Variable 0) (Literal 1)
      ∷ Spawn 2 0 (argument.Number (Variable 1) ∷ []) None High false
      ∷ Spawn 3 0 (argument.Number (Variable 1) ∷ []) None Regular false
      ∷ Spawn 4 0 (argument.Number (Variable 1) ∷ []) None Regular false
      ∷ Spawn 5 0 (argument.Number (Variable 1) ∷ []) None Low false
      ∷ All 6 (2 ∷ 3 ∷ 4 ∷ 5 ∷ []) Regular false
      ∷ Again 1 (Some 6) Regular
      ∷ Label []
      ∷ Done (Literal 1)
      ∷ [])
      ∷ state_of (2 ∷ 3 ∷ 4 ∷ 5 ∷ []) (2 ∷ 3 ∷ 4 ∷ 5 ∷ [])
      (Get 0 2
      ∷ Get 1 3
      ∷ Math op.Add 0 (Variable 0) (Variable 1)
      ∷ Get 1 4
      ∷ Math op.Add 0 (Variable 0) (Variable 1)
      ∷ Get 1 5
      ∷ Math op.Add 0 (Variable 0) (Variable 1)
      ∷ Done (Variable 0)
      ∷ [])
      ∷ []) ∷ [];
  roots = root_of 0 (root_argument.Number 2 ∷ []) None Regular ∷ [];
}

-- three spawns of three priorities
abbrev pub three : Program
three = record {
  kinds = kind_of 1 (sort.Number ∷ []) (
      state_of [] []
      (Done (Variable 0)
      ∷ [])
      ∷ [])
      ∷ kind_of 0 (sort.Future ∷ sort.Future ∷ sort.Future ∷ []) (
      state_of [] []
      (Spawn 0 0 (argument.Number (Literal 1) ∷ []) None Low false
      ∷ Spawn 1 0 (argument.Number (Literal 2) ∷ []) None Regular false
      ∷ Spawn 2 0 (argument.Number (Literal 3) ∷ []) None High false
      ∷ Done (Literal 0)
      ∷ [])
      ∷ []) ∷ [];
  roots = root_of 1 [] None Regular ∷ [];
}

-- nine roots
abbrev pub nine : Program
nine = record {
  kinds = kind_of 0 [] (
      state_of [] []
      (Done (Literal 1)
      ∷ [])
      ∷ []) ∷ [];
  roots = root_of 0 [] None Regular
      ∷ root_of 0 [] None Regular
      ∷ root_of 0 [] None Regular
      ∷ root_of 0 [] None Regular
      ∷ root_of 0 [] None Regular
      ∷ root_of 0 [] None Regular
      ∷ root_of 0 [] None Regular
      ∷ root_of 0 [] None Regular
      ∷ root_of 0 [] None Regular ∷ [];
}

-- a block of class 1 in the superblock after a full one of class 0
abbrev pub beside : Program
beside = record {
  kinds = kind_of 0 [] (
      state_of [] []
      (Done (Literal 1)
      ∷ [])
      ∷ [])
      ∷ kind_of 8 (sort.Number ∷ sort.Number ∷ sort.Number ∷ sort.Number ∷ sort.Number ∷ sort.Number ∷ sort.Number ∷ sort.Number ∷ []) (
      state_of [] []
      (Done (Variable 0)
      ∷ [])
      ∷ []) ∷ [];
  roots = root_of 0 [] None Regular
      ∷ root_of 1 (root_argument.Number 3 ∷ []) None Regular
      ∷ root_of 0 [] None Regular
      ∷ root_of 0 [] None Regular
      ∷ root_of 0 [] None Regular
      ∷ root_of 0 [] None Regular
      ∷ root_of 0 [] None Regular
      ∷ root_of 0 [] None Regular
      ∷ root_of 0 [] None Regular
      ∷ root_of 0 [] None Regular ∷ [];
}

-- a future that is dropped gives its block back before the next spawn
abbrev pub drops : Program
drops = record {
  kinds = kind_of 0 [] (
      state_of [] []
      (Done (Literal 1)
      ∷ [])
      ∷ [])
      ∷ kind_of 1 (sort.Number ∷ []) (
      state_of [] []
      (Done (Variable 0)
      ∷ [])
      ∷ [])
      ∷ kind_of 0 (sort.Future ∷ []) (
      state_of [] []
      (Spawn 0 1 (argument.Number (Literal 1) ∷ []) None Regular false
      ∷ Again 1 (Some 0) Regular
      ∷ [])
      ∷ state_of (0 ∷ []) []
      (Drop 0
      ∷ Spawn 0 1 (argument.Number (Literal 2) ∷ []) None Regular false
      ∷ Done (Literal 0)
      ∷ [])
      ∷ []) ∷ [];
  roots = root_of 0 [] None Regular
      ∷ root_of 0 [] None Regular
      ∷ root_of 0 [] None Regular
      ∷ root_of 0 [] None Regular
      ∷ root_of 0 [] None Regular
      ∷ root_of 0 [] None Regular
      ∷ root_of 2 [] None Regular ∷ [];
}

-- a retry that finds room
abbrev pub retries : Program
retries = record {
  kinds = kind_of 0 [] (
      state_of [] []
      (Done (Literal 1)
      ∷ [])
      ∷ [])
      ∷ kind_of 1 (sort.Number ∷ []) (
      state_of [] []
      (Done (Variable 0)
      ∷ [])
      ∷ [])
      ∷ kind_of 0 (sort.Future ∷ sort.Future ∷ []) (
      state_of [] []
      (Spawn 0 1 (argument.Number (Literal 1) ∷ []) None Regular false
      ∷ Drop 0
      ∷ Spawn 1 1 (argument.Number (Literal 2) ∷ []) None Regular true
      ∷ Done (Literal 0)
      ∷ [])
      ∷ []) ∷ [];
  roots = root_of 0 [] None Regular
      ∷ root_of 0 [] None Regular
      ∷ root_of 0 [] None Regular
      ∷ root_of 0 [] None Regular
      ∷ root_of 0 [] None Regular
      ∷ root_of 0 [] None Regular
      ∷ root_of 2 [] None Regular ∷ [];
}

-- no roots
abbrev pub empty : Program
empty = record {
  kinds = [];
  roots = [];
}

-- a column of names and one of prices
abbrev pub price_table : Columns
price_table = record { names = codes "id" ∷ codes "price" ∷ []; cells = (1 ∷ 2 ∷ 3 ∷ 4 ∷ 5 ∷ []) ∷ (10 ∷ 20 ∷ 30 ∷ 40 ∷ 50 ∷ []) ∷ [] }
