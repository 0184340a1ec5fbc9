-- What is passed to a new task, and the first frames of tasks and of aggregates.
use Rattle.std.specs.Prelude.{◌≡◌, ℕ, ◌+◌, ◌<◌, ◌≤◌, ◌^◌, Option, Some, None, List, length, map, slice_get, IfSome}
use Rattle.task_syntax.specs.Places.{Each}
use Rattle.task_syntax.specs.Valid.{Agrees, sort_of}
use Rattle.task_syntax.specs.declared.instr.Argument.{Argument}
use Rattle.task_syntax.specs.declared.program.Sort.{Sort}
use Rattle.task_syntax.specs.declared.program.Sort.TheVariants as sort
use Rattle.task_syntax.specs.declared.program.Variable.{Variable}
use Rattle.task_syntax.specs.declared.program.Kind.{Kind}
use Rattle.task_syntax.specs.declared.program.Program.{Program}
use Rattle.task_meaning.specs.Meant.{future_at}
use Rattle.task_meaning.specs.Frame.{FrameOf, CallOf, number_passed, future_passed, entry}
use Rattle.frame_code.specs.Words.{BodyOf, OfKind, OfMembers, variables_at, body_of}
use Rattle.frame_code.specs.Frames.{IsFrame}
use Rattle.frame_code.specs.Stops.{numbers_passed, variables_passed}
use Rattle.frame_code.specs.declared.act.SpawnRequest.{SpawnRequest}
use Rattle.frame_code.specs.declared.entries.Passed.{Passed}
use Rattle.frame_code.specs.declared.entries.Passed.TheVariants.{Number, Future}

abbrev pub sort_of_passed : Passed → Sort
sort_of_passed (Number n) = sort.Number
sort_of_passed (Future unit) = sort.Future

-- the number that is passed; a future has the number 0
abbrev pub number_of : Passed → ℕ
number_of (Number n) = n
number_of (Future unit) = 0

-- the unit that is passed; a number has none
abbrev pub future_of : Passed → Option ℕ
future_of (Number n) = None
future_of (Future unit) = Some unit

-- the call of a kind with what is passed
abbrev pub call_of : ℕ → List Passed → CallOf ℕ
call_of kind passed = record { kind = kind; numbers = map number_of passed; futures = map future_of passed }

-- the request comes of these arguments at this frame; they agree with the variables of the kind, and each future among
-- them names a unit
pub record Requests (p : Program) (q : FrameOf ℕ) (request : SpawnRequest) (arguments : List Argument) : Type 0 where
  pub numbers : numbers_passed q.numbers arguments ≡ request.numbers
  pub futures : variables_passed arguments ≡ request.futures
  pub agrees : (kind : Kind) → slice_get p.kinds request.kind ≡ Some kind → Agrees sort_of kind arguments
  pub named : Each (variables_passed arguments) (λ x. (unit : ℕ) × (future_at q.futures x ≡ Some unit))

-- a frame of a task may pass what is requested
abbrev pub BodyMaySpawn : Program → SpawnRequest → BodyOf ℕ → Type 0
BodyMaySpawn p request (OfKind q) = (arguments : List Argument) × Requests p q request arguments
BodyMaySpawn p request (OfMembers members next) = ⊥

-- this is what the arguments of the request are at the frame
abbrev pub BodyPasses : Program → SpawnRequest → BodyOf ℕ → List Passed → Type 0
BodyPasses p request (OfKind q) passed = (arguments : List Argument) → Requests p q request arguments
    → (map number_of passed ≡ map (number_passed q.numbers) arguments) × (map future_of passed ≡ map (future_passed q.futures) arguments)
BodyPasses p request (OfMembers members next) passed = ⊥

-- the same of the words of a frame
abbrev pub MaySpawn : Program → SpawnRequest → List ℕ → Type 0
MaySpawn p request words = BodyMaySpawn p request (body_of p words)

abbrev pub Passes : Program → SpawnRequest → List ℕ → List Passed → Type 0
Passes p request words passed = BodyPasses p request (body_of p words) passed

-- what is passed agrees with the arguments of the kind in number and sort
abbrev pub AgreesWith : Program → ℕ → List Passed → Type 0
AgreesWith p at passed = (kind : Kind) → slice_get p.kinds at ≡ Some kind → Agrees sort_of_passed kind passed

-- each agrees in sort with the variable at its place, and the units have words
pub record MayEnterWith (p : Program) (kind : ℕ) (passed : List Passed) : Type 0 where
  pub few : length passed ≤ length (variables_at p kind)
  pub sorts : (at : ℕ) (a : Passed) (v : Variable) → slice_get passed at ≡ Some a → slice_get (variables_at p kind) at ≡ Some v
      → v.sort ≡ sort_of_passed a
  pub units : Each passed (λ a. IfSome (future_of a) (λ unit. unit + 1 < 2 ^ 64))

-- the words say the first frame of the call of a kind with what is passed
abbrev pub IsEntryOf : Program → ℕ → List Passed → List ℕ → Type 0
IsEntryOf p kind passed words = body_of p words ≡ OfKind (entry p (call_of kind passed))

-- the words say an aggregate of these members that is behind its first, whatever the program is
abbrev pub IsFrameOfMembers : List ℕ → List ℕ → Type 0
IsFrameOfMembers members words = (p : Program) → IsFrame p words × (body_of p words ≡ OfMembers members 1)
