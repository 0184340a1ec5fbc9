-- Laws on ways: each place has one, and in a valid program what is asked for or handed over is there.
use Rattle.std.specs.Prelude.{◌≡◌, ℕ, ◌<◌, ◌⊎◌, ◌↔◌, Bool, Option, Some, None, List, slice_get, length, IsTrue}
use Rattle.task_syntax.specs.Places.{Each, instr_at}
use Rattle.task_syntax.specs.Form.{IsWellFormed}
use Rattle.task_syntax.specs.Facts.{Facts, has, members_of}
use Rattle.task_syntax.specs.Valid.{Way, IsValid}
use Rattle.task_syntax.specs.declared.value.Priority.{Priority}
use Rattle.task_syntax.specs.declared.instr.Argument.{Argument}
use Rattle.task_syntax.specs.declared.instr.Argument.TheVariants as argument
use Rattle.task_syntax.specs.declared.instr.Instr.{Instr}
use Rattle.task_syntax.specs.declared.instr.Instr.TheVariants.{Spawn, Again}
use Rattle.task_syntax.specs.declared.program.RootArgument.TheVariants as root_argument
use Rattle.task_syntax.specs.declared.program.State.{State}
use Rattle.task_syntax.specs.declared.program.Kind.{Kind}
use Rattle.task_syntax.specs.declared.program.Root.{Root}
use Rattle.task_syntax.specs.declared.program.Program.{Program}
use Rattle.task_check.specs.declared.fault.Found.{Found}
use Rattle.task_check.specs.Faults.{HasFault}
use Rattle.task_check.specs.Asks.{asks_held, asks_settled}

-- a state of a kind of the program
pub record IsStateOf (p : Program) (kind : Kind) (state : State) : Type 0 where
  pub kind_at : ℕ
  pub state_at : ℕ
  pub is_kind : slice_get p.kinds kind_at ≡ Some kind
  pub is_state : slice_get kind.states state_at ≡ Some state

-- a way leads to each place of a state
abbrev pub EachPlaceHasWay : Type 0
EachPlaceHasWay = (p : Program) → IsWellFormed p → (kind : Kind) (state : State) → IsStateOf p kind state
    → (at : ℕ) → at < length state.code → (f : Facts) × Way state at f

-- on each way in a valid program a future that is asked for is held, and is settled where that is asked
abbrev pub AskedIsThere : Type 0
AskedIsThere = (p : Program) → IsWellFormed p → IsValid p → (kind : Kind) (state : State) → IsStateOf p kind state
    → (at : ℕ) (instr : Instr) → instr_at state at ≡ Some instr → (f : Facts) → Way state at f
    → ((i x : ℕ) → slice_get (asks_held instr) i ≡ Some x → IsTrue (has x f.held)) × ((i x : ℕ) → slice_get (asks_settled instr) i ≡ Some x → IsTrue (has x f.settled))

-- a well-formed program is valid exactly where it has no fault
abbrev pub ValidIsFaultless : Type 0
ValidIsFaultless = (p : Program) → IsWellFormed p → IsValid p ↔ ((f : Found) → ¬ HasFault p f)

-- behind a predecessor, if any, the future is settled: it is so on the way, or it is the predecessor, or a member of it
abbrev pub IsSettledBehind : Facts → Option ℕ → ℕ → Type 0
IsSettledBehind f None x = IsTrue (has x f.settled)
IsSettledBehind f (Some g) x = IsTrue (has x f.settled) ⊎ ((g ≡ x) ⊎ IsTrue (has x (members_of g f.members)))

-- a spawn stands at a place of a state, and its callee begins in the entry state
pub record IsSpawnAt (p : Program) (state : State) (at : ℕ) (entry : State) (arguments : List Argument) (behind : Option ℕ) : Type 0 where
  pub to : ℕ
  pub callee : ℕ
  pub priority : Priority
  pub retry : Bool
  pub kind : Kind
  pub stands : instr_at state at ≡ Some (Spawn to callee arguments behind priority retry)
  pub is_kind : slice_get p.kinds callee ≡ Some kind
  pub is_entry : slice_get kind.states 0 ≡ Some entry

-- a respawn stands at a place of a state, and its task goes on in the target
pub record IsRespawnAt (kind : Kind) (state : State) (at : ℕ) (target : State) (behind : Option ℕ) : Type 0 where
  pub named : ℕ
  pub priority : Priority
  pub stands : instr_at state at ≡ Some (Again named behind priority)
  pub is_target : slice_get kind.states named ≡ Some target

-- the argument at a position passes a future of which P holds
abbrev pub PassesFuture : List Argument → (ℕ → Type 0) → ℕ → Type 0
PassesFuture arguments P position = (x : ℕ) × (slice_get arguments position ≡ Some (argument.Future x)) × P x

-- on each way to a spawn, an argument that the callee's entry state settles passes a future that is settled, or will be behind
-- the predecessor
abbrev pub SpawnsHandOverSettled : Type 0
SpawnsHandOverSettled = (p : Program) → IsWellFormed p → IsValid p → (kind : Kind) (state : State) → IsStateOf p kind state
    → (at : ℕ) (entry : State) (arguments : List Argument) (behind : Option ℕ) → IsSpawnAt p state at entry arguments behind
    → (f : Facts) → Way state at f → Each entry.settled (PassesFuture arguments (IsSettledBehind f behind))

-- on each way to a respawn, a future that the target settles is settled, or will be behind the predecessor
abbrev pub RespawnsHandOverSettled : Type 0
RespawnsHandOverSettled = (p : Program) → IsWellFormed p → IsValid p → (kind : Kind) (state : State) → IsStateOf p kind state
    → (at : ℕ) (target : State) (behind : Option ℕ) → IsRespawnAt kind state at target behind
    → (f : Facts) → Way state at f → Each target.settled (IsSettledBehind f behind)

-- a root passes its predecessor alone for an argument that the entry state of its kind settles
abbrev pub RootsHandOverPredecessor : Type 0
RootsHandOverPredecessor = (p : Program) → IsWellFormed p → IsValid p → (root : Root) (kind : Kind) (entry : State)
    → ((position : ℕ) × (slice_get p.roots position ≡ Some root)) → slice_get p.kinds root.kind ≡ Some kind → slice_get kind.states 0 ≡ Some entry
    → Each entry.settled (λ position. (r : ℕ) × (slice_get root.arguments position ≡ Some (root_argument.Root r)) × (root.behind ≡ Some r))

-- on each way to a spawn and a respawn, what the callee's entry state or the target holds is held
abbrev pub SpawnsHandOverHeld : Type 0
SpawnsHandOverHeld = (p : Program) → IsWellFormed p → IsValid p → (kind : Kind) (state : State) → IsStateOf p kind state
    → (at : ℕ) (entry : State) (arguments : List Argument) (behind : Option ℕ) → IsSpawnAt p state at entry arguments behind
    → (f : Facts) → Way state at f → Each entry.holds (PassesFuture arguments (λ x. IsTrue (has x f.held)))

abbrev pub RespawnsHandOverHeld : Type 0
RespawnsHandOverHeld = (p : Program) → IsWellFormed p → IsValid p → (kind : Kind) (state : State) → IsStateOf p kind state
    → (at : ℕ) (target : State) (behind : Option ℕ) → IsRespawnAt kind state at target behind
    → (f : Facts) → Way state at f → Each target.holds (λ x. IsTrue (has x f.held))

-- on each way what is settled is held, and so is each member, with the future that it is a member of
abbrev pub WhatIsKnownIsHeld : Type 0
WhatIsKnownIsHeld = (p : Program) → IsWellFormed p → IsValid p → (kind : Kind) (state : State) → IsStateOf p kind state → (at : ℕ) (f : Facts) → Way state at f
    → ((x : ℕ) → IsTrue (has x f.settled) → IsTrue (has x f.held))
    × ((g x : ℕ) → IsTrue (has x (members_of g f.members)) → IsTrue (has g f.held) × IsTrue (has x f.held))
