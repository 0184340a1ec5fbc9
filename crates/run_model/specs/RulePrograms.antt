-- Small programs, each for one rule of the run.
use Rattle.std.specs.Prelude.{true, false, [], ◌∷◌, Some, None}
use Rattle.task_syntax.specs.declared.value.Priority.TheVariants.{High, Regular}
use Rattle.task_syntax.specs.declared.instr.Operand.TheVariants.{Literal, Variable}
use Rattle.task_syntax.specs.declared.instr.Argument.TheVariants as argument
use Rattle.task_syntax.specs.declared.instr.Instr.TheVariants.{Spawn, All, Again, Done}
use Rattle.task_syntax.specs.declared.program.Sort.TheVariants as sort
use Rattle.task_syntax.specs.declared.program.RootArgument.TheVariants as root_argument
use Rattle.task_syntax.specs.declared.program.Program.{Program}
use Rattle.run_model.specs.ProgramParts.{state_of, kind_of, root_of}

-- at `again` the futures that the state does not hold are given up, so their blocks are free
abbrev pub gives_up : Program
gives_up = record {
  kinds = kind_of 2 (sort.Number ∷ sort.Number ∷ sort.Number ∷ sort.Future ∷ []) (
      state_of [] []
      (Spawn 3 0 (argument.Number (Variable 2) ∷ argument.Number (Variable 1) ∷ []) None Regular false
      ∷ Again 0 None Regular
      ∷ [])
      ∷ []) ∷ [];
  roots = root_of 0 (root_argument.Number 2 ∷ root_argument.Number 0 ∷ []) None Regular ∷ [];
}

-- an aggregate goes on behind each of its members, repeated ones too
abbrev pub gathers : Program
gathers = record {
  kinds = kind_of 2 (sort.Number ∷ sort.Number ∷ sort.Number ∷ sort.Future ∷ sort.Future ∷ []) (
      state_of [] []
      (Spawn 4 0 (argument.Number (Variable 2) ∷ argument.Number (Literal 2) ∷ []) None Regular false
      ∷ All 3 (4 ∷ 4 ∷ []) Regular false
      ∷ Done (Literal 1)
      ∷ [])
      ∷ []) ∷ [];
  roots = root_of 0 (root_argument.Number 2 ∷ root_argument.Number 2 ∷ []) None Regular ∷ [];
}

-- a block stays in use while a future names its ended task
abbrev pub keeps : Program
keeps = record {
  kinds = kind_of 1 (sort.Number ∷ sort.Number ∷ sort.Future ∷ sort.Future ∷ []) (
      state_of [] []
      (Spawn 2 0 (argument.Number (Variable 1) ∷ []) None Regular false
      ∷ All 3 (2 ∷ 2 ∷ []) Regular false
      ∷ Done (Literal 4)
      ∷ [])
      ∷ []) ∷ [];
  roots = root_of 0 (root_argument.Number 3 ∷ []) None Regular ∷ [];
}

-- what is behind a cut task starts, and is cut by it at once
abbrev pub cut : Program
cut = record {
  kinds = kind_of 1 (sort.Number ∷ []) (
      state_of [] []
      (Again 0 None Regular
      ∷ [])
      ∷ []) ∷ [];
  roots = root_of 0 (root_argument.Number 5 ∷ []) None Regular
      ∷ root_of 0 (root_argument.Number 0 ∷ []) (Some 0) Regular ∷ [];
}

-- the first null answer is kept, and no later one
abbrev pub first_null : Program
first_null = record {
  kinds = kind_of 2 (sort.Number ∷ sort.Number ∷ sort.Number ∷ sort.Future ∷ sort.Future ∷ sort.Future ∷ sort.Number ∷ sort.Number ∷ []) (
      state_of [] []
      (Spawn 3 0 (argument.Number (Variable 1) ∷ argument.Number (Variable 2) ∷ []) None Regular false
      ∷ All 3 (3 ∷ []) Regular false
      ∷ Done (Literal 3)
      ∷ [])
      ∷ []) ∷ [];
  roots = root_of 0 (root_argument.Number 2 ∷ root_argument.Number 2 ∷ []) None Regular ∷ [];
}

-- the first superblock with room gives the block
abbrev pub two_superblocks : Program
two_superblocks = record {
  kinds = kind_of 1 (sort.Number ∷ sort.Number ∷ sort.Number ∷ sort.Future ∷ sort.Future ∷ sort.Future ∷ sort.Future ∷ sort.Future ∷ []) (
      state_of [] []
      (Spawn 7 0 (argument.Number (Variable 1) ∷ []) None Regular false
      ∷ Spawn 5 0 (argument.Number (Variable 1) ∷ []) None Regular false
      ∷ All 5 (7 ∷ []) Regular false
      ∷ Done (Variable 1)
      ∷ [])
      ∷ []) ∷ [];
  roots = root_of 0 (root_argument.Number 0 ∷ []) None Regular ∷ [];
}

-- of the waiters the last to come is ready first
abbrev pub waiters : Program
waiters = record {
  kinds = kind_of 1 (sort.Number ∷ []) (
      state_of [] []
      (Done (Literal 3)
      ∷ [])
      ∷ []) ∷ [];
  roots = root_of 0 (root_argument.Number 0 ∷ []) None Regular
      ∷ root_of 0 (root_argument.Number 1 ∷ []) (Some 0) Regular
      ∷ root_of 0 (root_argument.Number 2 ∷ []) (Some 0) Regular ∷ [];
}

-- the future that a spawn overwrites keeps its block until the new task is there
abbrev pub overwrites : Program
overwrites = record {
  kinds = kind_of 2 (sort.Number ∷ sort.Number ∷ sort.Number ∷ sort.Future ∷ []) (
      state_of [] []
      (Spawn 3 0 (argument.Number (Variable 2) ∷ argument.Number (Variable 2) ∷ []) None Regular false
      ∷ Again 1 None Regular
      ∷ [])
      ∷ state_of (3 ∷ []) []
      (Spawn 3 0 (argument.Number (Variable 2) ∷ argument.Number (Variable 1) ∷ []) None Regular false
      ∷ Done (Variable 1)
      ∷ [])
      ∷ []) ∷ [];
  roots = root_of 0 (root_argument.Number 2 ∷ root_argument.Number 0 ∷ []) None Regular ∷ [];
}

-- with a full pool at the limit the answer is null
abbrev pub full_at_limit : Program
full_at_limit = record {
  kinds = kind_of 2 (sort.Number ∷ sort.Number ∷ sort.Number ∷ sort.Future ∷ sort.Future ∷ sort.Future ∷ sort.Number ∷ sort.Number ∷ []) (
      state_of [] []
      (Spawn 3 0 (argument.Number (Variable 1) ∷ argument.Number (Variable 2) ∷ []) None Regular false
      ∷ All 3 (3 ∷ []) Regular false
      ∷ Done (Literal 3)
      ∷ [])
      ∷ []) ∷ [];
  roots = root_of 0 (root_argument.Number 2 ∷ root_argument.Number 2 ∷ []) None Regular ∷ [];
}

-- a row has the predecessor, also where that has ended
abbrev pub behind : Program
behind = record {
  kinds = kind_of 1 (sort.Number ∷ []) (
      state_of [] []
      (Done (Literal 3)
      ∷ [])
      ∷ []) ∷ [];
  roots = root_of 0 (root_argument.Number 0 ∷ []) None Regular
      ∷ root_of 0 (root_argument.Number 1 ∷ []) (Some 0) Regular ∷ [];
}

-- a higher priority goes first
abbrev pub priorities : Program
priorities = record {
  kinds = kind_of 1 (sort.Number ∷ []) (
      state_of [] []
      (Done (Literal 10)
      ∷ [])
      ∷ []) ∷ [];
  roots = root_of 0 (root_argument.Number 3 ∷ []) None Regular
      ∷ root_of 0 (root_argument.Number 1 ∷ []) None High ∷ [];
}

-- a retry waits with priority low, behind none
abbrev pub low_retry : Program
low_retry = record {
  kinds = kind_of 1 (sort.Number ∷ sort.Number ∷ sort.Future ∷ []) (
      state_of [] []
      (Spawn 2 0 (argument.Number (Variable 1) ∷ []) None Regular false
      ∷ Spawn 2 0 (argument.Number (Variable 1) ∷ []) None Regular true
      ∷ Done (Variable 0)
      ∷ [])
      ∷ []) ∷ [];
  roots = root_of 0 (root_argument.Number 0 ∷ []) None Regular ∷ [];
}
