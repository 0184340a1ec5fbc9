-- In a valid program what a task asks for can be met: what it passes and what it names are futures of its frame that name units.
use Rattle.std.proofs.Common.{◌≡◌, ◌∙◌, ℕ, ◌<◌, Option, Some, None, List, length, sym, ap, subst}
use Rattle.std.specs.Prelude.{IfSome, slice_get}
use Rattle.std.specs.Option.{option_map}
use Rattle.task_syntax.specs.Form.{IsWellFormed, IsFormedInstr}
use Rattle.task_syntax.specs.Places.{IsFutureAt}
use Rattle.task_syntax.specs.Valid.{IsValid}
use Rattle.task_syntax.specs.declared.columns.Columns.{Columns}
use Rattle.task_syntax.specs.declared.instr.Instr.{Instr}
use Rattle.task_syntax.specs.declared.instr.Instr.TheVariants.{Math, Cell, Spawn, All, Copy, Drop, Get, Again, Done}
use Rattle.task_syntax.specs.declared.program.Kind.{Kind}
use Rattle.task_syntax.specs.declared.program.Program.{Program}
use Rattle.task_syntax.specs.declared.program.Sort.TheVariants.{Future as FutureSort}
use Rattle.task_syntax.specs.declared.program.State.{State}
use Rattle.task_syntax.specs.declared.program.Variable.{Variable}
use Rattle.task_syntax.specs.declared.value.Value.{Value}
use Rattle.task_syntax.specs.declared.value.Value.TheVariants as value
use Rattle.task_meaning.specs.Arithmetic.{computed, cell_at}
use Rattle.task_meaning.specs.Frame.{FrameOf, operand}
use Rattle.frame_code.specs.Entries.{BodyMaySpawn, AgreesWith, IsEntryOf}
use Rattle.frame_code.specs.Moves.{MayEnter}
use Rattle.frame_code.specs.Setting.{BodyHasSort}
use Rattle.frame_code.specs.Stops.{trapped, stop_at}
use Rattle.frame_code.specs.Units.{entered_held}
use Rattle.frame_code.specs.Words.{BodyOf, OfKind, OfMembers, variable_list, body_of}
use Rattle.frame_code.specs.declared.act.Act.TheVariants as act
use Rattle.frame_code.specs.declared.act.RespawnRequest.{RespawnRequest}
use Rattle.frame_code.specs.declared.act.SpawnRequest.{SpawnRequest}
use Rattle.frame_code.specs.declared.entries.Passed.{Passed}
use Rattle.frame_code.proofs.MovedFrames.{IsLineOf, line-of}
use Rattle.table_core.specs.declared.setup.Setup.{Setup}
use Rattle.table_core.specs.declared.view.View.{View}
use Rattle.schedule_rule.specs.Frames.{HoldsNames}
use Rattle.schedule_rule.proofs.HeldNameFacts.{IsSpawnBy, spawn-by, spawns-pass, entered-hold, entries-hold}
use Rattle.schedule_core.specs.Respawning.{IsBehindName, AsksAgain}
use Rattle.schedule_core.specs.Spawning.{AsksFor, MaySpawn}
use Rattle.schedule_core.specs.declared.running.Running.{Running}
use Rattle.schedule_core.proofs.RespawnFacts.{member-name}

-- the task that a frame asks for is one of a kind of the program, its variable and its predecessor's are futures, and what is asked for
-- may be passed
pub record IsSpawnable (p : Program) (request : SpawnRequest) (b : BodyOf ℕ) : Type 0 where
  pub kind_fits : request.kind < length p.kinds
  pub variable : BodyHasSort p FutureSort request.to b
  pub passes : BodyMaySpawn p request b
  pub behind : IfSome request.behind (λ y. BodyHasSort p FutureSort y b)

-- a future variable of a kind is one of each of its frames
sort-there : (p : Program) (kind : Kind) (q : FrameOf ℕ) (x : ℕ) → slice_get p.kinds q.kind ≡ Some kind → IsFutureAt kind x → BodyHasSort p FutureSort x (OfKind q)
sort-there p kind q x is_kind is = ap (λ (o : Option Kind). option_map (λ (v : Variable). v.sort) (slice_get (variable_list o) x)) is_kind ∙ is

sort-if : (p : Program) (kind : Kind) (q : FrameOf ℕ) (x : Option ℕ) → slice_get p.kinds q.kind ≡ Some kind → IfSome x (IsFutureAt kind) → IfSome x (λ y. BodyHasSort p FutureSort y (OfKind q))
sort-if p kind q None is_kind is = tt
sort-if p kind q (Some x) is_kind is = sort-there p kind q x is_kind is

-- that is so where a task asks for a spawn and names what it holds
asks-spawnable : (p : Program) (c : Columns) (request : SpawnRequest) (b : BodyOf ℕ) → IsWellFormed p → IsValid p → AsksFor p c (act.Spawn request) b → HoldsNames p b → IsSpawnable p request b
asks-spawnable p c request (OfMembers units next) formed valid asks names = absurd asks
asks-spawnable p c request (OfKind q) formed valid asks names = record {
  kind_fits = its.1;
  variable = sort-there p line.of_kind q request.to line.is_kind its.0;
  passes = spawns-pass p c q request formed valid asks names;
  behind = sort-if p line.of_kind q request.behind line.is_kind its.4;
}
  where
    by : IsSpawnBy q request (asks.0).instr
    by = spawn-by c q request (asks.0).instr asks.2

    line : IsLineOf p q.kind q.state q.at asks.0
    line = line-of p q.kind q.state q.at asks.0 asks.1

    its : IsFormedInstr p line.of_kind line.of_state q.at (Spawn request.to request.kind by.arguments request.behind request.priority request.retry)
    its = subst (λ (instr : Instr). IsFormedInstr p line.of_kind line.of_state q.at instr) by.instr_is
        (((formed.kinds q.kind line.of_kind line.is_kind).states q.state line.of_state line.is_state).instrs q.at asks.0 line.is_line)

pub spawnable : (g : Setup) (x : Running) (request : SpawnRequest) (v : View) → IsWellFormed g.checked → IsValid g.checked → MaySpawn g x request v → IsSpawnable g.checked request (body_of g.checked x.frame.items)
spawnable g x request v formed valid may = asks-spawnable g.checked g.columns request (body_of g.checked x.frame.items) formed valid may.asks (may.in_step).names

no-trap : (v : Value) (request : RespawnRequest) → trapped v ≡ Some (act.Again request) → ⊥
no-trap (value.Number n) request e = cc
no-trap (value.Trapped t) request e = cc

-- the same of a program that is the table's
pub spawnable-in : (g : Setup) (x : Running) (request : SpawnRequest) (v : View) (program : Program) → program ≡ g.checked → IsWellFormed program → IsValid program → MaySpawn g x request v
    → IsSpawnable program request (body_of program x.frame.items)
spawnable-in g x request v program same formed valid may = subst (λ (p : Program). IsSpawnable p request (body_of p x.frame.items)) (sym same)
    (spawnable g x request v (subst IsWellFormed same formed) (subst IsValid same valid) may)

-- the predecessor of a next activation is in a future variable
again-name : (p : Program) (c : Columns) (request : RespawnRequest) (q : FrameOf ℕ) (kind : Kind) (instr : Instr) → slice_get p.kinds q.kind ≡ Some kind → (state : State) → IsFormedInstr p kind state q.at instr
    → stop_at c instr q ≡ Some (act.Again request) → IsBehindName p request.behind (OfKind q)
again-name p c request q kind (Math op to left right) is_kind state formed e = absurd (no-trap (computed op (operand q.numbers left) (operand q.numbers right)) request e)
again-name p c request q kind (Cell to column row) is_kind state formed e = absurd (no-trap (cell_at c column (operand q.numbers row)) request e)
again-name p c request q kind (Spawn to callee arguments waits priority retry) is_kind state formed e = cc
again-name p c request q kind (All to members priority retry) is_kind state formed e = cc
again-name p c request q kind (Copy to source) is_kind state formed e = cc
again-name p c request q kind (Drop x) is_kind state formed e = cc
again-name p c request q kind (Get to x) is_kind state formed e = cc
again-name p c request q kind (Again target waits priority) is_kind state formed e =
    let made : RespawnRequest = record { target = target; behind = waits; priority = priority } in
    let same : made ≡ request = cc in
    subst (λ (r : RespawnRequest). IsBehindName p r.behind (OfKind q)) same (sort-if p kind q waits is_kind formed.1)
again-name p c request q kind (Done a) is_kind state formed e = cc
again-name p c request q kind _ is_kind state formed e = cc

pub asks-name : (p : Program) (c : Columns) (request : RespawnRequest) (b : BodyOf ℕ) → IsWellFormed p → AsksAgain p c request b → IsBehindName p request.behind b
asks-name p c request (OfMembers us n) formed asks = member-name us n request asks
asks-name p c request (OfKind q) formed (line, at, stops) =
    let its = line-of p q.kind q.state q.at line at in
    again-name p c request q its.of_kind line.instr its.is_kind its.of_state (((formed.kinds q.kind its.of_kind its.is_kind).states q.state its.of_state its.is_state).instrs q.at line its.is_line) stops

-- the frame that a task enters names what its state holds
pub entered-names : (p program : Program) (target : ℕ) (b : BodyOf ℕ) (next : List ℕ) → program ≡ p → IsWellFormed program → IsValid program → MayEnter p target b → body_of p next ≡ entered_held p target b → HoldsNames p b
    → HoldsNames p (body_of p next)
entered-names p program target b next same formed valid may moved names =
    subst (λ (c : BodyOf ℕ). HoldsNames p c) (sym moved) (entered-hold p target b (subst IsWellFormed same formed) (subst IsValid same valid) may names)

-- and so does the first frame of a new task
pub first-names : (p : Program) (kind : ℕ) (given : List Passed) (words : List ℕ) → IsWellFormed p → IsValid p → kind < length p.kinds → AgreesWith p kind given → IsEntryOf p kind given words → HoldsNames p (body_of p words)
first-names p kind given words formed valid fits agrees entry = subst (λ (b : BodyOf ℕ). HoldsNames p b) (sym entry) (entries-hold p kind given formed valid fits agrees)
