-- Which well-formed programs are valid: what all ways to a place agree in has the futures held and settled that the line
-- there needs.
use Rattle.std.specs.Prelude.{◌≡◌, ℕ, ◌+◌, ◌<◌, ◌≤◌, ◌⊎◌, Option, Some, None, List, length, slice_get, IfSome, IsTrue}
use Rattle.task_syntax.specs.Places.{Each, instr_at}
use Rattle.task_syntax.specs.Form.{Leaves, IsLabel}
use Rattle.task_syntax.specs.Facts.{Facts, has, members_of, after, at_start, nothing_held}
use Rattle.task_syntax.specs.declared.program.Sort.{Sort}
use Rattle.task_syntax.specs.declared.program.Sort.TheVariants as sort
use Rattle.task_syntax.specs.declared.instr.Argument.{Argument}
use Rattle.task_syntax.specs.declared.instr.Argument.TheVariants as argument
use Rattle.task_syntax.specs.declared.program.RootArgument.{RootArgument}
use Rattle.task_syntax.specs.declared.program.RootArgument.TheVariants as root_argument
use Rattle.task_syntax.specs.declared.instr.Instr.{Instr}
use Rattle.task_syntax.specs.declared.instr.Instr.TheVariants.{If, Goto, Spawn, All, Copy, Drop, Get, Again}
use Rattle.task_syntax.specs.declared.program.State.{State}
use Rattle.task_syntax.specs.declared.program.Kind.{Kind}
use Rattle.task_syntax.specs.declared.program.Variable.{Variable}
use Rattle.task_syntax.specs.declared.program.Root.{Root}
use Rattle.task_syntax.specs.declared.program.Program.{Program}

-- the instruction may jump to a place
abbrev pub JumpsTo : Instr → ℕ → Type 0
JumpsTo (If relation left right target) to = target ≡ to
JumpsTo (Goto target) to = target ≡ to
JumpsTo _ to = ⊥

-- a label that no line before goes on to and no jump names
pub record IsUnreachedLabel (state : State) (at : ℕ) : Type 0 where
  pub before : ℕ
  pub label : Instr
  pub left : Instr
  pub stands : instr_at state at ≡ Some label
  pub is_label : IsLabel label
  pub follows : at ≡ before + 1
  pub stands_before : instr_at state before ≡ Some left
  pub leaves : Leaves left
  pub no_jump : (from : ℕ) (jump : Instr) → instr_at state from ≡ Some jump → ¬ JumpsTo jump at

-- A way to a place, with the facts that it leaves there. A way begins at the state's start, or with nothing held at a
-- label that nothing reaches; it goes on from line to line, and over each jump.
pub data Way (state : State) : ℕ → Facts → Type 0 where
  starts : Way state 0 (at_start state)
  unreached : {at : ℕ} → IsUnreachedLabel state at → Way state at nothing_held
  goes_on : {at : ℕ} {f : Facts} (instr : Instr) → Way state at f → instr_at state at ≡ Some instr → ¬ Leaves instr → Way state (at + 1) (after instr f)
  jumps : {at : ℕ} {f : Facts} (instr : Instr) (to : ℕ) → Way state at f → instr_at state at ≡ Some instr → JumpsTo instr to → Way state to f

-- what all ways to a place agree in: x is held, x is settled, x is among the members of g
abbrev pub Held : State → ℕ → ℕ → Type 0
Held state at x = (f : Facts) → Way state at f → IsTrue (has x f.held)

abbrev pub Settled : State → ℕ → ℕ → Type 0
Settled state at x = (f : Facts) → Way state at f → IsTrue (has x f.settled)

abbrev pub Member : State → ℕ → ℕ → ℕ → Type 0
Member state at g x = (f : Facts) → Way state at f → IsTrue (has x (members_of g f.members))

-- x is settled for what stands behind a predecessor: it is so already, or it is the predecessor or a member of it
abbrev pub WillSettle : State → ℕ → Option ℕ → ℕ → Type 0
WillSettle state at None x = Settled state at x
WillSettle state at (Some g) x = Settled state at x ⊎ ((g ≡ x) ⊎ Member state at g x)

abbrev pub sort_of : Argument → Sort
sort_of (argument.Number a) = sort.Number
sort_of (argument.Future x) = sort.Future

abbrev pub sort_of_root : RootArgument → Sort
sort_of_root (root_argument.Number n) = sort.Number
sort_of_root (root_argument.Root r) = sort.Future

-- the arguments agree with those of the kind in number and sort
abbrev pub Agrees : {A : Type 0} → (A → Sort) → Kind → List A → Type 0
Agrees {A} sort_by kind arguments = (length arguments ≡ kind.arguments)
    × ((at : ℕ) (a : A) (v : Variable) → slice_get arguments at ≡ Some a → slice_get kind.variables at ≡ Some v → v.sort ≡ sort_by a)

-- P holds of each argument that the entry state of the kind settles
abbrev pub EachSettledArgument : {A : Type 0} → Kind → List A → (A → Type 0) → Type 0
EachSettledArgument {A} kind arguments P = (entry : State) → slice_get kind.states 0 ≡ Some entry →
    Each entry.settled (λ x. (a : A) → slice_get arguments x ≡ Some a → P a)

abbrev pub HeldArgument : State → ℕ → Argument → Type 0
HeldArgument state at (argument.Number a) = Unit {0}
HeldArgument state at (argument.Future x) = Held state at x

abbrev pub WillSettleArgument : State → ℕ → Option ℕ → Argument → Type 0
WillSettleArgument state at behind (argument.Number a) = Unit {0}
WillSettleArgument state at behind (argument.Future x) = WillSettle state at behind x

pub record SpawnsSoundly (callee : Kind) (state : State) (at : ℕ) (arguments : List Argument) (behind : Option ℕ) : Type 0 where
  pub agrees : Agrees sort_of callee arguments
  pub held : Each arguments (HeldArgument state at)
  pub behind_held : IfSome behind (Held state at)
  pub settled : EachSettledArgument callee arguments (WillSettleArgument state at behind)

-- what a respawn keeps is held, and what it settles is or will be settled
pub record RespawnsSoundly (target : State) (state : State) (at : ℕ) (behind : Option ℕ) : Type 0 where
  pub behind_held : IfSome behind (Held state at)
  pub held : Each target.holds (Held state at)
  pub settled : Each target.settled (WillSettle state at behind)

-- what an instruction needs on all ways to it
abbrev pub IsSoundInstr : Program → Kind → State → ℕ → Instr → Type 0
IsSoundInstr p kind state at (Spawn to callee arguments behind priority retry) =
    (k : Kind) → slice_get p.kinds callee ≡ Some k → SpawnsSoundly k state at arguments behind
IsSoundInstr p kind state at (All to members priority retry) = Each members (Held state at)
IsSoundInstr p kind state at (Copy to source) = Held state at source
IsSoundInstr p kind state at (Drop future) = Held state at future
IsSoundInstr p kind state at (Get to future) = Held state at future × Settled state at future
IsSoundInstr p kind state at (Again target behind priority) =
    (next : State) → slice_get kind.states target ≡ Some next → RespawnsSoundly next state at behind
IsSoundInstr p kind state at _ = Unit {0}

pub record IsSoundState (p : Program) (kind : Kind) (state : State) : Type 0 where
  pub settled_held : Each state.settled (λ x. IsTrue (has x state.holds))
  pub instrs : (at : ℕ) (instr : Instr) → instr_at state at ≡ Some instr → IsSoundInstr p kind state at instr

pub record IsSoundKind (p : Program) (kind : Kind) : Type 0 where
  pub few_variables : length kind.variables ≤ 63
  pub entry : (first : State) → slice_get kind.states 0 ≡ Some first → Each first.holds (λ x. x < kind.arguments)
  pub states : Each kind.states (IsSoundState p kind)

-- at a root no future is settled, and only its predecessor will be
abbrev pub IsBehind : Option ℕ → RootArgument → Type 0
IsBehind behind (root_argument.Number n) = Unit {0}
IsBehind behind (root_argument.Root r) = behind ≡ Some r

pub record IsSoundRoot (p : Program) (root : Root) : Type 0 where
  pub agrees : (k : Kind) → slice_get p.kinds root.kind ≡ Some k → Agrees sort_of_root k root.arguments
  pub settled : (k : Kind) → slice_get p.kinds root.kind ≡ Some k → EachSettledArgument k root.arguments (IsBehind root.behind)

pub record IsValid (p : Program) : Type 0 where
  pub kinds : Each p.kinds (IsSoundKind p)
  pub roots : Each p.roots (IsSoundRoot p)
