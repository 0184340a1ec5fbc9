-- A frame that asks for a task or an aggregate stands at such an instruction, and may go past it.
use Rattle.std.proofs.Common.{◌≡◌, ℕ, Option, Some, None, ap}
use Rattle.task_syntax.specs.declared.value.Value.{Value}
use Rattle.task_syntax.specs.declared.value.Value.TheVariants as value
use Rattle.task_syntax.specs.declared.instr.Instr.{Instr}
use Rattle.task_syntax.specs.declared.instr.Instr.TheVariants.{Math, Cell, Spawn, All, Copy, Drop, Get, Again, Done}
use Rattle.task_syntax.specs.declared.program.Program.{Program}
use Rattle.task_syntax.specs.declared.columns.Columns.{Columns}
use Rattle.task_meaning.specs.Frame.{FrameOf, operand}
use Rattle.task_meaning.specs.Arithmetic.{computed, cell_at}
use Rattle.frame_code.specs.Moves.{IsPassed, MayPass}
use Rattle.frame_code.specs.Words.{BodyOf, OfKind, OfMembers}
use Rattle.frame_code.specs.Stops.{numbers_passed, variables_passed, trapped, stop_at}
use Rattle.frame_code.specs.declared.act.Act.{Act}
use Rattle.frame_code.specs.declared.act.Act.TheVariants as act
use Rattle.frame_code.specs.declared.act.AllRequest.{AllRequest}
use Rattle.frame_code.specs.declared.act.SpawnRequest.{SpawnRequest}
use Rattle.schedule_rule.specs.CoveringLaws.{AsksInto, StandsAsking}
use Rattle.schedule_core.specs.Spawning.{AsksFor}

-- where an act puts its task
abbrev into : Act → Option ℕ
into (act.Spawn request) = Some request.to
into _ = None

no-trap : (v : Value) (request : SpawnRequest) → trapped v ≡ Some (act.Spawn request) → ⊥
no-trap (value.Number n) request e = cc
no-trap (value.Trapped t) request e = cc

-- such an instruction puts it there
asks-into : (c : Columns) (q : FrameOf ℕ) (request : SpawnRequest) (instr : Instr) → stop_at c instr q ≡ Some (act.Spawn request) → AsksInto request.to instr
asks-into c q request (Math op to left right) e = absurd (no-trap (computed op (operand q.numbers left) (operand q.numbers right)) request e)
asks-into c q request (Cell to column row) e = absurd (no-trap (cell_at c column (operand q.numbers row)) request e)
asks-into c q request (Spawn to kind arguments waits priority retry) e =
    let s : act.Spawn (record {
      to = to;
      kind = kind;
      numbers = numbers_passed q.numbers arguments;
      futures = variables_passed arguments;
      behind = waits;
      priority = priority;
      retry = retry;
    }) ≡ act.Spawn request = cc in let t : Some to ≡ Some request.to = ap into s in cc
asks-into c q request (All to members priority retry) e = cc
asks-into c q request (Copy to source) e = cc
asks-into c q request (Drop x) e = cc
asks-into c q request (Get to x) e = cc
asks-into c q request (Again target waits priority) e = cc
asks-into c q request (Done a) e = cc
asks-into c q request _ e = cc

pub stands-asking : (p : Program) (c : Columns) (request : SpawnRequest) (b : BodyOf ℕ) → AsksFor p c (act.Spawn request) b → StandsAsking p request.to b
stands-asking p c request (OfKind q) (line, at, stops) = (line, at, asks-into c q request line.instr stops)
stands-asking p c request (OfMembers units next) asks = absurd asks

-- the same of an aggregate
abbrev into_all : Act → Option ℕ
into_all (act.All request) = Some request.to
into_all _ = None

no-trap_all : (v : Value) (request : AllRequest) → trapped v ≡ Some (act.All request) → ⊥
no-trap_all (value.Number n) request e = cc
no-trap_all (value.Trapped t) request e = cc

asks-into_all : (c : Columns) (q : FrameOf ℕ) (request : AllRequest) (instr : Instr) → stop_at c instr q ≡ Some (act.All request) → AsksInto request.to instr
asks-into_all c q request (Math op to left right) e = absurd (no-trap_all (computed op (operand q.numbers left) (operand q.numbers right)) request e)
asks-into_all c q request (Cell to column row) e = absurd (no-trap_all (cell_at c column (operand q.numbers row)) request e)
asks-into_all c q request (Spawn to kind arguments waits priority retry) e = cc
asks-into_all c q request (All to members priority retry) e =
    let s : act.All (record { to = to; members = members; priority = priority; retry = retry }) ≡ act.All request = cc in let t : Some to ≡ Some request.to = ap into_all s in cc
asks-into_all c q request (Copy to source) e = cc
asks-into_all c q request (Drop x) e = cc
asks-into_all c q request (Get to x) e = cc
asks-into_all c q request (Again target waits priority) e = cc
asks-into_all c q request (Done a) e = cc
asks-into_all c q request _ e = cc

pub stands-asking_all : (p : Program) (c : Columns) (request : AllRequest) (b : BodyOf ℕ) → AsksFor p c (act.All request) b → StandsAsking p request.to b
stands-asking_all p c request (OfKind q) (line, at, stops) = (line, at, asks-into_all c q request line.instr stops)
stands-asking_all p c request (OfMembers units next) asks = absurd asks

into-passed : (to : ℕ) (instr : Instr) → AsksInto to instr → IsPassed instr
into-passed to (Spawn x kind arguments waits priority retry) asks = tt
into-passed to (All x members priority retry) asks = tt
into-passed to _ asks = absurd asks

-- where a task asks for another, it may go on
pub passes-on : (p : Program) (to : ℕ) (b : BodyOf ℕ) → StandsAsking p to b → MayPass p b
passes-on p to (OfKind q) (line, at, asks) = (line, at, into-passed to line.instr asks)
passes-on p to (OfMembers units next) asks = absurd asks
