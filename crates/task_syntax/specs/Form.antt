-- Which programs are well formed: names, positions, sorts, labels and limits.
use Rattle.std.specs.Prelude.{◌≡◌, ℕ, ◌<◌, ◌≤◌, ◌+◌, ◌^◌, Some, List, [], ◌∷◌, ◌++◌, map, length, IfSome}
use Rattle.std.specs.List.{flat_map}
use Rattle.task_syntax.specs.Names.{IsName}
use Rattle.task_syntax.specs.Places.{EachAt, Each, AllDiffer, IsNumberAt, IsFutureAt, instr_at}
use Rattle.task_syntax.specs.declared.instr.Operand.{Operand}
use Rattle.task_syntax.specs.declared.instr.Operand.TheVariants.{Literal, Variable}
use Rattle.task_syntax.specs.declared.instr.Argument.{Argument}
use Rattle.task_syntax.specs.declared.instr.Argument.TheVariants as argument
use Rattle.task_syntax.specs.declared.program.RootArgument.{RootArgument}
use Rattle.task_syntax.specs.declared.program.RootArgument.TheVariants as root_argument
use Rattle.task_syntax.specs.declared.instr.Instr.{Instr}
use Rattle.task_syntax.specs.declared.instr.Instr.TheVariants.{Set, Math, If, Goto, Label, Cell, Rows, Spawn, All, Copy, Drop, Get, Again, Done}
use Rattle.task_syntax.specs.declared.instr.Line.{Line}
use Rattle.task_syntax.specs.declared.program.State.{State}
use Rattle.task_syntax.specs.declared.program.Kind.{Kind}
use Rattle.task_syntax.specs.declared.program.Variable.{Variable as VariableOf}
use Rattle.task_syntax.specs.declared.program.Root.{Root}
use Rattle.task_syntax.specs.declared.program.Program.{Program}

-- a 64-bit number, or a number variable
abbrev pub IsFormedOperand : Kind → Operand → Type 0
IsFormedOperand kind (Literal n) = n < 2 ^ 64
IsFormedOperand kind (Variable at) = IsNumberAt kind at

abbrev pub IsFormedArgument : Kind → Argument → Type 0
IsFormedArgument kind (argument.Number a) = IsFormedOperand kind a
IsFormedArgument kind (argument.Future at) = IsFutureAt kind at

-- done and again, which end an activation
abbrev pub Ends : Instr → Type 0
Ends (Again target behind priority) = Unit {0}
Ends (Done value) = Unit {0}
Ends _ = ⊥

-- the lines behind which only a label may stand
abbrev pub Leaves : Instr → Type 0
Leaves (Goto target) = Unit {0}
Leaves instr = Ends instr

abbrev pub IsLabel : Instr → Type 0
IsLabel (Label name) = Unit {0}
IsLabel _ = ⊥

-- a label stands at the target, and the target is ahead
abbrev pub IsLabelAhead : State → ℕ → ℕ → Type 0
IsLabelAhead state at target = (at < target) × ((instr : Instr) × (instr_at state target ≡ Some instr) × IsLabel instr)

-- each position that the instruction at a place names is in range, of the sort that is wanted there
abbrev pub IsFormedInstr : Program → Kind → State → ℕ → Instr → Type 0
IsFormedInstr p kind state at (Set to value) = IsNumberAt kind to × IsFormedOperand kind value
IsFormedInstr p kind state at (Math op to left right) = IsNumberAt kind to × IsFormedOperand kind left × IsFormedOperand kind right
IsFormedInstr p kind state at (If relation left right target) = IsFormedOperand kind left × IsFormedOperand kind right × IsLabelAhead state at target
IsFormedInstr p kind state at (Goto target) = IsLabelAhead state at target
IsFormedInstr p kind state at (Label name) = IsName name
IsFormedInstr p kind state at (Cell to column row) = IsNumberAt kind to × IsName column × IsFormedOperand kind row
IsFormedInstr p kind state at (Rows to column) = IsNumberAt kind to × IsName column
IsFormedInstr p kind state at (Spawn to callee arguments behind priority retry) =
    IsFutureAt kind to × (callee < length p.kinds) × (length arguments ≤ 16) × Each arguments (IsFormedArgument kind) × IfSome behind (IsFutureAt kind)
IsFormedInstr p kind state at (All to members priority retry) =
    IsFutureAt kind to × (0 < length members) × (length members ≤ 8) × Each members (IsFutureAt kind)
IsFormedInstr p kind state at (Copy to source) = IsFutureAt kind to × IsFutureAt kind source
IsFormedInstr p kind state at (Drop future) = IsFutureAt kind future
IsFormedInstr p kind state at (Get to future) = IsNumberAt kind to × IsFutureAt kind future
IsFormedInstr p kind state at (Again target behind priority) = (target < length kind.states) × IfSome behind (IsFutureAt kind)
IsFormedInstr p kind state at (Done value) = IsFormedOperand kind value

-- the names of the labels, in their order
abbrev pub labels_of : List Line → List (List ℕ)
labels_of [] = []
labels_of (line ∷ lines) = elim line.instr [ Label name ↦ name ∷ labels_of lines | _ ↦ labels_of lines ]

pub record IsFormedState (p : Program) (kind : Kind) (state : State) : Type 0 where
  pub name : IsName state.name
  pub holds : Each state.holds (IsFutureAt kind)
  pub holds_differ : AllDiffer state.holds
  pub settled : Each state.settled (IsFutureAt kind)
  pub settled_differ : AllDiffer state.settled
  pub fits : length state.code ≤ 64
  pub instrs : EachAt state.code (λ at line. IsFormedInstr p kind state at line.instr)
  pub labels_differ : AllDiffer (labels_of state.code)
  pub left_by_label : (at : ℕ) (instr next : Instr) → instr_at state at ≡ Some instr → Leaves instr → instr_at state (at + 1) ≡ Some next → IsLabel next
  pub ends : (at : ℕ) × (last : Instr) × (length state.code ≡ at + 1) × (instr_at state at ≡ Some last) × Ends last

pub record IsFormedKind (p : Program) (kind : Kind) : Type 0 where
  pub name : IsName kind.name
  pub arguments_fit : kind.arguments ≤ 16
  pub arguments_are_variables : kind.arguments ≤ length kind.variables
  pub variables_fit : length kind.variables ≤ 255
  pub variable_names : Each kind.variables (λ (v : VariableOf). IsName v.name)
  pub variables_differ : AllDiffer kind.variables
  pub states_fit : length kind.states ≤ 32
  pub has_state : 0 < length kind.states
  pub state_names_differ : AllDiffer (map (λ (s : State). s.name) kind.states)
  pub states : Each kind.states (IsFormedState p kind)

-- a 64-bit number, or a root before this one
abbrev pub IsFormedRootArgument : ℕ → RootArgument → Type 0
IsFormedRootArgument at (root_argument.Number n) = n < 2 ^ 64
IsFormedRootArgument at (root_argument.Root root) = root < at

pub record IsFormedRoot (p : Program) (at : ℕ) (root : Root) : Type 0 where
  pub name : IsName root.name
  pub kind : root.kind < length p.kinds
  pub arguments_fit : length root.arguments ≤ 16
  pub arguments : Each root.arguments (IsFormedRootArgument at)
  pub behind : IfSome root.behind (λ earlier. earlier < at)

-- the numbers of the lines of a state, of a kind, and of a program
abbrev pub lines_of_state : State → List ℕ
lines_of_state state = state.line ∷ map (λ (l : Line). l.line) state.code

abbrev pub lines_of_kind : Kind → List ℕ
lines_of_kind kind = kind.line ∷ flat_map lines_of_state kind.states

abbrev pub lines_of : Program → List ℕ
lines_of p = flat_map lines_of_kind p.kinds ++ map (λ (r : Root). r.line) p.roots

pub record IsWellFormed (p : Program) : Type 0 where
  pub kinds_fit : length p.kinds ≤ 64
  pub kind_names_differ : AllDiffer (map (λ (k : Kind). k.name) p.kinds)
  pub kinds : Each p.kinds (IsFormedKind p)
  pub roots_fit : length p.roots ≤ 16
  pub root_names_differ : AllDiffer (map (λ (r : Root). r.name) p.roots)
  pub roots : EachAt p.roots (IsFormedRoot p)
  pub lines_differ : AllDiffer (lines_of p)
