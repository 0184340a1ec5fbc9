-- What the parts of the checker look for: the earlier of two faults, and the faults of one cause by its own answers.
use Rattle.std.specs.Prelude.{◌≡◌, ℕ, ◌<◌, ◌⊎◌, nat_lt, cond, Option, Some, None, List, length, slice_get, IsTrue, IfSome}
use Rattle.task_syntax.specs.Facts.{has}
use Rattle.task_syntax.specs.Places.{Each}
use Rattle.task_syntax.specs.Form.{IsFormedInstr}
use Rattle.task_syntax.specs.Valid.{Way, Agrees}
use Rattle.task_syntax.specs.declared.instr.Instr.{Instr}
use Rattle.task_syntax.specs.declared.instr.Argument.{Argument}
use Rattle.task_syntax.specs.declared.instr.Line.{Line}
use Rattle.task_syntax.specs.declared.instr.Instr.TheVariants.{Spawn, Again}
use Rattle.task_syntax.specs.declared.program.State.{State}
use Rattle.task_syntax.specs.declared.program.Kind.{Kind}
use Rattle.task_syntax.specs.declared.program.Root.{Root}
use Rattle.task_syntax.specs.declared.program.RootArgument.{RootArgument}
use Rattle.task_syntax.specs.declared.program.Sort.{Sort}
use Rattle.task_syntax.specs.declared.program.Program.{Program}
use Rattle.task_check.specs.declared.fault.Cause.{Cause}
use Rattle.task_check.specs.declared.fault.Cause.TheVariants.{BadCount, NotHeld, NotSettled, StateNeeds}
use Rattle.task_check.specs.declared.fault.Found.{Found}
use Rattle.task_check.specs.declared.known.Known.{Known}
use Rattle.task_check.specs.Asks.{asks_held, asks_settled, passed_settled, future_in, root_in}
use Rattle.task_check.specs.Known.{in_set, knows, will_settle, IsIn, WillBeSettled}
use Rattle.task_check.specs.Ways.{Agreed}
use Rattle.task_check.specs.Faults.{Lacks, LacksBehind, precedes, IsFirst, IsMisfit, SomeAt, LineFault, StateFault, KindFault, RootFault}

-- the earlier one of two answers
abbrev pub earlier_of : Option Found → Option Found → Option Found
earlier_of None g = g
earlier_of (Some f) None = Some f
earlier_of (Some f) (Some g) = cond (precedes g f) (Some g) (Some f)

-- the faults by which a line lacks futures of a list, of one cause
abbrev pub LackingFault : ℕ → Cause → ℕ → Kind → List ℕ → (ℕ → Type 0) → Found → Type 0
LackingFault line cause front kind xs P f = (f.line ≡ line) × (f.cause ≡ cause) × LacksBehind front kind xs P f.position f.name

-- the faults of a kind by futures of a list that it does not hold or settle, told at its line
abbrev pub UnheldFault : Kind → Known → Line → Found → Type 0
UnheldFault kind known line = LackingFault line.line NotHeld 0 kind (asks_held line.instr) (IsIn known.held)

abbrev pub UnsettledFault : Kind → Known → Line → Found → Type 0
UnsettledFault kind known line = LackingFault line.line NotSettled 0 kind (asks_settled line.instr) (IsIn known.settled)

-- the fault of a call whose arguments do not agree with the kind that is called
abbrev pub CallMisfit : {A : Type 0} → (A → Sort) → ℕ → Kind → List A → Found → Type 0
CallMisfit sort_by line callee arguments f =
    (f.line ≡ line) × (f.cause ≡ BadCount) × (f.position ≡ 0) × (f.name ≡ callee.name) × ¬ Agrees sort_by callee arguments

-- the fault of a line whose call does not agree
abbrev pub MisfitFault : Program → Line → Found → Type 0
MisfitFault p line f = (f.line ≡ line.line) × (f.cause ≡ BadCount) × (f.position ≡ 0) × IsMisfit p line.instr f.name

-- what an entry state lacks of what is passed to it, where each that passes P is settled
abbrev pub EntryFault : ℕ → Kind → State → List Argument → (ℕ → Type 0) → Found → Type 0
EntryFault line kind entry arguments P = LackingFault line StateNeeds 0 kind (passed_settled future_in entry.settled arguments) P

-- what a respawn to a state lacks: futures that it keeps, and futures that it settles
abbrev pub RespawnFault : ℕ → Kind → State → Known → Option ℕ → Found → Type 0
RespawnFault line kind next known behind f = LackingFault line StateNeeds 0 kind next.holds (IsIn known.held) f
    ⊎ LackingFault line StateNeeds (length next.holds) kind next.settled (WillBeSettled known behind) f

-- the first fault of a line, for each state and place that what is known agrees with
abbrev pub IsFirstOfLine : Program → Kind → Known → Line → Option Found → Type 0
IsFirstOfLine p kind known line r = (state : State) (at : ℕ) → Agreed (length kind.variables) (Way state at) (λ q. knows q known)
    → IsFirst (LineFault p kind state at line) r

-- the first fault of the line at a place of a state
abbrev pub IsFirstAt : Program → Kind → State → ℕ → Option Found → Type 0
IsFirstAt p kind state at r = (line : Line) → slice_get state.code at ≡ Some line → IsFirst (LineFault p kind state at line) r

-- the faults of the lines of a state, of all states of a kind, of all kinds and of all roots
abbrev pub CodeFault : Program → Kind → State → Found → Type 0
CodeFault p kind state f = SomeAt state.code (λ at line. LineFault p kind state at line f)

abbrev pub StatesFault : Program → Kind → Found → Type 0
StatesFault p kind f = SomeAt kind.states (λ place state. StateFault p kind place state f)

abbrev pub KindsFault : Program → Found → Type 0
KindsFault p f = SomeAt p.kinds (λ _ kind. KindFault p kind f)

abbrev pub RootsFault : Program → Found → Type 0
RootsFault p f = SomeAt p.roots (λ _ root. RootFault p root f)

-- the faults of a state's own line: it settles what it does not hold, and holds what is no argument
abbrev pub SettledFault : Kind → State → Found → Type 0
SettledFault kind state = LackingFault state.line NotHeld (length state.holds) kind state.settled (λ x. IsTrue (has x state.holds))

abbrev pub ArgumentFault : Kind → State → Found → Type 0
ArgumentFault kind state = LackingFault state.line NotHeld 0 kind state.holds (λ x. IsTrue (nat_lt x kind.arguments))

-- the futures that are passed are variables of a kind, and the roots are roots of the program
abbrev pub PassesVariables : ℕ → List Argument → Type 0
PassesVariables n arguments = Each arguments (λ a. IfSome (future_in a) (λ x. x < n))

abbrev pub PassesRoots : ℕ → List RootArgument → Type 0
PassesRoots n arguments = Each arguments (λ a. IfSome (root_in a) (λ r. r < n))

-- the instruction is one of a well-formed state
abbrev pub IsFormedLine : Program → Kind → Instr → Type 0
IsFormedLine p kind instr = (state : State) × (at : ℕ) × IsFormedInstr p kind state at instr

-- what the state that is started lacks, by the checker's answers
abbrev pub LacksAnswers : Program → Kind → Known → Instr → ℕ → List ℕ → Type 0
LacksAnswers p kind known (Spawn to callee arguments behind priority retry) position name =
    (k : Kind) × (entry : State) × (slice_get p.kinds callee ≡ Some k) × (slice_get k.states 0 ≡ Some entry)
    × Lacks kind (passed_settled future_in entry.settled arguments) (λ x. IsTrue (will_settle (λ q. knows q known) behind x)) position name
LacksAnswers p kind known (Again target behind priority) position name =
    (next : State) × (slice_get kind.states target ≡ Some next)
    × (Lacks kind next.holds (λ x. IsTrue (in_set x known.held)) position name
    ⊎ LacksBehind (length next.holds) kind next.settled (λ x. IsTrue (will_settle (λ q. knows q known) behind x)) position name)
LacksAnswers p kind known _ position name = ⊥

-- the fault of a line whose new state lacks something
abbrev pub NeedsFault : Program → Kind → Known → Line → Found → Type 0
NeedsFault p kind known line f = (f.line ≡ line.line) × (f.cause ≡ StateNeeds) × LacksAnswers p kind known line.instr f.position f.name

-- the faults by which the line of a root lacks roots of a list: they are not its predecessor
abbrev pub UnbehindFault : Program → ℕ → Option ℕ → List ℕ → Found → Type 0
UnbehindFault p line behind roots f = (f.line ≡ line) × (f.cause ≡ StateNeeds)
    × ((r : ℕ) × (earlier : Root) × (slice_get roots f.position ≡ Some r) × (slice_get p.roots r ≡ Some earlier) × (f.name ≡ earlier.name) × ¬ (behind ≡ Some r))

-- the same for the entry state of the kind of a root
abbrev pub RootNeeds : Program → Root → State → Found → Type 0
RootNeeds p root entry = UnbehindFault p root.line root.behind (passed_settled root_in entry.settled root.arguments)
