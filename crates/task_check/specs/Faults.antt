-- Which faults a well-formed program has, by what all ways to a place agree in, and which of them is the first.
use Rattle.std.specs.Prelude.{◌≡◌, ℕ, ◌+◌, ◌<◌, ◌⊎◌, Bool, false, ◌&&◌, ◌||◌, nat_eq, nat_lt, Option, Some, None, List, length, slice_get, IsTrue}
use Rattle.task_syntax.specs.Facts.{has}
use Rattle.task_syntax.specs.Valid.{Held, Settled, WillSettle, Agrees, IsValid, sort_of, sort_of_root}
use Rattle.task_syntax.specs.declared.instr.Instr.{Instr}
use Rattle.task_syntax.specs.declared.instr.Instr.TheVariants.{Spawn, Again}
use Rattle.task_syntax.specs.declared.instr.Line.{Line}
use Rattle.task_syntax.specs.declared.program.State.{State}
use Rattle.task_syntax.specs.declared.program.Variable.{Variable}
use Rattle.task_syntax.specs.declared.program.Kind.{Kind}
use Rattle.task_syntax.specs.declared.program.Root.{Root}
use Rattle.task_syntax.specs.declared.program.Program.{Program}
use Rattle.task_check.specs.declared.fault.Cause.{Cause}
use Rattle.task_check.specs.declared.fault.Cause.TheVariants.{FrameTooLarge, BadCount, NotHeld, NotSettled, StateNeeds}
use Rattle.task_check.specs.declared.fault.Found.{Found}
use Rattle.task_check.specs.declared.fault.CheckError.{CheckError}
use Rattle.task_check.specs.declared.fault.CheckError.TheVariants.{Fault, Memory}
use Rattle.task_check.specs.Asks.{asks_held, asks_settled, passed_settled, future_in, root_in}
use Rattle.task_check.specs.Causes.{rank}

-- P holds of some place of a list and the member there
abbrev pub SomeAt : {X : Type 0} → List X → (ℕ → X → Type 0) → Type 0
SomeAt {X} xs P = (at : ℕ) × (x : X) × (slice_get xs at ≡ Some x) × P at x

-- at a position of a list stands a variable, by its name, of which P does not hold
abbrev pub Lacks : Kind → List ℕ → (ℕ → Type 0) → ℕ → List ℕ → Type 0
Lacks kind xs P position name =
    (x : ℕ) × (v : Variable) × (slice_get xs position ≡ Some x) × (slice_get kind.variables x ≡ Some v) × (name ≡ v.name) × ¬ P x

-- the same, in the second of two lists of a line
abbrev pub LacksBehind : ℕ → Kind → List ℕ → (ℕ → Type 0) → ℕ → List ℕ → Type 0
LacksBehind front kind xs P position name = (i : ℕ) × (position ≡ front + i) × Lacks kind xs P i name

-- the arguments of a spawn do not agree with the kind, which is named
abbrev pub IsMisfit : Program → Instr → List ℕ → Type 0
IsMisfit p (Spawn to callee arguments behind priority retry) name =
    (k : Kind) × (slice_get p.kinds callee ≡ Some k) × (name ≡ k.name) × ¬ Agrees sort_of k arguments
IsMisfit p _ name = ⊥

-- the state that a spawn or a respawn starts needs a future that is not held, or that will not be settled
abbrev pub LacksForState : Program → Kind → State → ℕ → Instr → ℕ → List ℕ → Type 0
LacksForState p kind state at (Spawn to callee arguments behind priority retry) position name =
    (k : Kind) × (entry : State) × (slice_get p.kinds callee ≡ Some k) × (slice_get k.states 0 ≡ Some entry)
    × Lacks kind (passed_settled future_in entry.settled arguments) (WillSettle state at behind) position name
LacksForState p kind state at (Again target behind priority) position name =
    (next : State) × (slice_get kind.states target ≡ Some next)
    × (Lacks kind next.holds (Held state at) position name ⊎ LacksBehind (length next.holds) kind next.settled (WillSettle state at behind) position name)
LacksForState p kind state at _ position name = ⊥

-- the instruction at a place of a state has a cause, at a position of its line and with a name
abbrev pub HasCause : Program → Kind → State → ℕ → Instr → Cause → ℕ → List ℕ → Type 0
HasCause p kind state at instr FrameTooLarge position name = ⊥
HasCause p kind state at instr BadCount position name = (position ≡ 0) × IsMisfit p instr name
HasCause p kind state at instr NotHeld position name = Lacks kind (asks_held instr) (Held state at) position name
HasCause p kind state at instr NotSettled position name = Lacks kind (asks_settled instr) (Settled state at) position name
HasCause p kind state at instr StateNeeds position name = LacksForState p kind state at instr position name

-- an entry state holds what is no argument
abbrev pub HoldsNoArgument : Kind → ℕ → State → ℕ → List ℕ → Type 0
HoldsNoArgument kind place state position name = (place ≡ 0) × Lacks kind state.holds (λ x. x < kind.arguments) position name

-- a state settles what it does not hold
abbrev pub SettlesUnheld : Kind → State → ℕ → List ℕ → Type 0
SettlesUnheld kind state position name = LacksBehind (length state.holds) kind state.settled (λ x. IsTrue (has x state.holds)) position name

-- the faults of a line of a state
abbrev pub LineFault : Program → Kind → State → ℕ → Line → Found → Type 0
LineFault p kind state at line f = (f.line ≡ line.line) × HasCause p kind state at line.instr f.cause f.position f.name

-- the faults of a state's own line, and of all its lines
abbrev pub DeclaredFault : Kind → ℕ → State → Found → Type 0
DeclaredFault kind place state f = (f.line ≡ state.line) × (f.cause ≡ NotHeld)
    × (HoldsNoArgument kind place state f.position f.name ⊎ SettlesUnheld kind state f.position f.name)

abbrev pub StateFault : Program → Kind → ℕ → State → Found → Type 0
StateFault p kind place state f = DeclaredFault kind place state f ⊎ SomeAt state.code (λ at line. LineFault p kind state at line f)

-- a kind with more than 63 variables
abbrev pub SizeFault : Kind → Found → Type 0
SizeFault kind f = (f.line ≡ kind.line) × (f.cause ≡ FrameTooLarge) × (f.position ≡ 0) × (f.name ≡ kind.name) × (63 < length kind.variables)

abbrev pub KindFault : Program → Kind → Found → Type 0
KindFault p kind f = SizeFault kind f ⊎ SomeAt kind.states (λ place state. StateFault p kind place state f)

-- the line of a root has a cause: no future is settled there, and only the predecessor will be
abbrev pub RootHasCause : Program → Root → Cause → ℕ → List ℕ → Type 0
RootHasCause p root BadCount position name =
    (position ≡ 0) × ((k : Kind) × (slice_get p.kinds root.kind ≡ Some k) × (name ≡ k.name) × ¬ Agrees sort_of_root k root.arguments)
RootHasCause p root StateNeeds position name =
    (k : Kind) × (entry : State) × (slice_get p.kinds root.kind ≡ Some k) × (slice_get k.states 0 ≡ Some entry)
    × ((r : ℕ) × (earlier : Root) × (slice_get (passed_settled root_in entry.settled root.arguments) position ≡ Some r)
    × (slice_get p.roots r ≡ Some earlier) × (name ≡ earlier.name) × ¬ (root.behind ≡ Some r))
RootHasCause p root _ position name = ⊥

abbrev pub RootFault : Program → Root → Found → Type 0
RootFault p root f = (f.line ≡ root.line) × RootHasCause p root f.cause f.position f.name

-- the faults of a program
abbrev pub HasFault : Program → Found → Type 0
HasFault p f = SomeAt p.kinds (λ _ kind. KindFault p kind f) ⊎ SomeAt p.roots (λ _ root. RootFault p root f)

-- f comes before g: by lines, in one line by the causes' order, and for one cause from left to right
abbrev pub precedes : Found → Found → Bool
precedes f g = nat_lt f.line g.line || (nat_eq f.line g.line && (nat_lt (rank f.cause) (rank g.cause)
    || (nat_eq (rank f.cause) (rank g.cause) && nat_lt f.position g.position)))

-- a fault at a position of a line, with a name
abbrev pub found_at : ℕ → Cause → ℕ → List ℕ → Found
found_at line cause position name = record { line = line; cause = cause; position = position; name = name }

-- the answer is a fault that no other one precedes, and none where there is no fault
abbrev pub IsFirst : (Found → Type 0) → Option Found → Type 0
IsFirst P None = (f : Found) → ¬ P f
IsFirst P (Some f) = P f × ((g : Found) → P g → precedes g f ≡ false)

-- an error that tells a fault tells the first one of the program, and the program is not valid
abbrev pub TellsFirst : Program → CheckError → Type 0
TellsFirst p (Fault cause line name) = (position : ℕ) × IsFirst (HasFault p) (Some (record { line = line; cause = cause; position = position; name = name }))
TellsFirst p Memory = Unit {0}

abbrev pub Refuses : Program → CheckError → Type 0
Refuses p (Fault cause line name) = ¬ IsValid p
Refuses p Memory = Unit {0}
