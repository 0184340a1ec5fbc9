-- What an instruction asks for in a frame: a new task, or a further activation of its own task.
use Rattle.std.specs.Prelude.{◌≡◌, ℕ, ◌⊎◌, true, Option, Some, None, List, length, map, slice_get}
use Rattle.task_syntax.specs.Places.{Each}
use Rattle.task_syntax.specs.declared.instr.Argument.{Argument}
use Rattle.task_syntax.specs.declared.instr.Argument.TheVariants.{Number, Future}
use Rattle.task_syntax.specs.declared.instr.Instr.{Instr}
use Rattle.task_syntax.specs.declared.instr.Instr.TheVariants.{Spawn, All, Again}
use Rattle.task_syntax.specs.declared.instr.Line.{Line}
use Rattle.task_syntax.specs.declared.program.Program.{Program}
use Rattle.task_meaning.specs.Meant.{future_at}
use Rattle.task_meaning.specs.Frame.{FrameOf, CallOf, code_at, spawned}
use Rattle.task_meaning.specs.FrameLaws.{NamesTask, task_waited}
use Rattle.task_meaning.specs.Worths.{Accepted, OfCall, OfAll, Respawn}
use Rattle.record_core.specs.Numbers.{by_number}
use Rattle.record_core.specs.EndSound.{kind_class, members_class}

-- the instruction stands in the code of a kind
pub record IsInKind (p : Program) (kind : ℕ) (instr : Instr) : Type 0 where
  pub state : ℕ
  pub at : ℕ
  pub line : Line
  pub there : slice_get (code_at p kind state) at ≡ Some line
  pub is : line.instr ≡ instr

-- an argument that passes a future passes a task
abbrev pub PassesTask : FrameOf ℕ → Argument → Type 0
PassesTask q (Number a) = Unit {0}
PassesTask q (Future x) = (t : ℕ) × (future_at q.futures x ≡ Some t)

-- The call is that of a spawn in this frame: the arguments of the line, and behind the task that its variable names.
pub record IsSpawned (q : FrameOf ℕ) (kind : ℕ) (arguments : List Argument) (waits : Option ℕ) (call : CallOf ℕ) (after : Option ℕ) : Type 0 where
  pub is_call : call ≡ spawned q kind arguments
  pub passes : Each arguments (PassesTask q)
  pub behind : after ≡ task_waited q waits
  pub names : NamesTask q waits

-- in this frame the instruction asks for a task with such a call
abbrev pub AsksForCall : FrameOf ℕ → Instr → CallOf ℕ → Option ℕ → Type 0
AsksForCall q (Spawn to kind arguments waits priority retry) call after = IsSpawned q kind arguments waits call after
AsksForCall q _ call after = ⊥

abbrev pub AsksForMembers : FrameOf ℕ → Instr → List ℕ → Type 0
AsksForMembers q (All to members priority retry) tasks = map (future_at q.futures) members ≡ map Some tasks
AsksForMembers q _ tasks = ⊥

abbrev pub AsksFor : FrameOf ℕ → Instr → Accepted → Type 0
AsksFor q instr (OfCall call after) = AsksForCall q instr call after
AsksFor q instr (OfAll tasks) = AsksForMembers q instr tasks
AsksFor q instr (Respawn t after) = ⊥

-- In this frame the instruction asks for a further activation of its own task, behind this one: by `again` behind the task
-- that its variable names, and with `retry` behind none.
abbrev pub AsksAgain : FrameOf ℕ → Instr → Option ℕ → Type 0
AsksAgain q (Again target waits priority) after = (after ≡ task_waited q waits) × NamesTask q waits
AsksAgain q (Spawn to kind arguments waits priority retry) after = (retry ≡ true) × (after ≡ None)
AsksAgain q (All to members priority retry) after = (retry ≡ true) × (after ≡ None)
AsksAgain q _ after = ⊥

-- the class of the block that an instruction asks for, if it asks for one
abbrev pub class_wanted : Program → Instr → Option ℕ
class_wanted p (Spawn to kind arguments waits priority retry) = Some (kind_class p kind)
class_wanted p (All to members priority retry) = Some (members_class (length members))
class_wanted p _ = None

-- the instruction asks for a number: for a new task, or for its own
abbrev pub AsksForNumber : Instr → Type 0
AsksForNumber (Spawn to kind arguments waits priority retry) = Unit {0}
AsksForNumber (All to members priority retry) = Unit {0}
AsksForNumber (Again target waits priority) = Unit {0}
AsksForNumber _ = ⊥

-- the task is a call of a kind in whose code this instruction stands
pub record HasInstr (p : Program) (calls : List Accepted) (t : ℕ) (instr : Instr) : Type 0 where
  pub call : CallOf ℕ
  pub waits : Option ℕ
  pub is_call : by_number calls t ≡ Some (OfCall call waits)
  pub in_kind : IsInKind p call.kind instr

-- the task is a call of the frame's kind, and the frame stands at this instruction
pub record StandsAt (p : Program) (calls : List Accepted) (t : ℕ) (q : FrameOf ℕ) (instr : Instr) : Type 0 where
  pub call : CallOf ℕ
  pub waits : Option ℕ
  pub is_call : by_number calls t ≡ Some (OfCall call waits)
  pub of_kind : q.kind ≡ call.kind
  pub line : Line
  pub there : slice_get (code_at p q.kind q.state) q.at ≡ Some line
  pub is : line.instr ≡ instr

-- a call, an aggregate or a further activation names task u
abbrev pub CallNames : Accepted → ℕ → Type 0
CallNames (OfCall call waits) u = ((x : ℕ) × (future_at call.futures x ≡ Some u)) ⊎ (waits ≡ Some u)
CallNames (OfAll members) u = (at : ℕ) × (slice_get members at ≡ Some u)
CallNames (Respawn t waits) u = waits ≡ Some u
