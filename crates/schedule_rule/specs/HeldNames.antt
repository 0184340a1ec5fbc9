-- What a frame holds goes on to name units where it moves, and names them where a task begins and where it goes on to a next activation.
use Rattle.std.specs.Prelude.{◌≡◌, ℕ, ◌<◌, Some, None, List, length}
use Rattle.task_syntax.specs.Form.{IsWellFormed}
use Rattle.task_syntax.specs.Places.{Each}
use Rattle.task_syntax.specs.Valid.{IsValid}
use Rattle.task_syntax.specs.declared.columns.Columns.{Columns}
use Rattle.task_syntax.specs.declared.instr.Instr.{Instr}
use Rattle.task_syntax.specs.declared.instr.Instr.TheVariants.{Spawn, All, Copy, Drop}
use Rattle.task_syntax.specs.declared.program.Program.{Program}
use Rattle.task_meaning.specs.Frame.{FrameOf, entry}
use Rattle.task_meaning.specs.Meant.{future_at}
use Rattle.frame_code.specs.Entries.{call_of, AgreesWith, BodyMaySpawn}
use Rattle.frame_code.specs.Meant.{futures_in}
use Rattle.frame_code.specs.Moves.{BodyIsGiven, MayEnter, passed_on}
use Rattle.frame_code.specs.Setting.{with_future}
use Rattle.frame_code.specs.Stops.{StandsAt, StopsAt, BodyAdvances}
use Rattle.frame_code.specs.Units.{entered_held}
use Rattle.frame_code.specs.Ways.{BodyHasWay}
use Rattle.frame_code.specs.Words.{BodyOf, OfKind, OfMembers, body_at}
use Rattle.frame_code.specs.declared.act.Act.{Act}
use Rattle.frame_code.specs.declared.act.Act.TheVariants as act
use Rattle.frame_code.specs.declared.act.SpawnRequest.{SpawnRequest}
use Rattle.frame_code.specs.declared.entries.Passed.{Passed}
use Rattle.schedule_rule.specs.Frames.{HoldsNames}

-- the instruction puts a future into this variable
abbrev pub PutsInto : ℕ → Instr → Type 0
PutsInto x (Spawn to kind arguments behind priority retry) = to ≡ x
PutsInto x (All to members priority retry) = to ≡ x
PutsInto x (Copy to source) = to ≡ x
PutsInto x _ = ⊥

-- the frame stands at such an instruction
abbrev pub StandsPutting : Program → ℕ → BodyOf ℕ → Type 0
StandsPutting p x (OfKind q) = StandsAt p (λ line. PutsInto x line.instr) q
StandsPutting p x (OfMembers units next) = ⊥

-- it stands where it drops this variable
abbrev pub StandsDropping : Program → ℕ → BodyOf ℕ → Type 0
StandsDropping p x (OfKind q) = StandsAt p (λ line. line.instr ≡ Drop x) q
StandsDropping p x (OfMembers units next) = ⊥

-- over lines where a frame does not stop
abbrev pub LinesHoldNames : Type 0
LinesHoldNames = (p : Program) (c : Columns) (body last : BodyOf ℕ) (asked : Act) → BodyAdvances p c body asked last → HoldsNames p body → HoldsNames p last

-- past a read
abbrev pub ReadsHoldNames : Type 0
ReadsHoldNames = (p : Program) (body last : BodyOf ℕ) (n : ℕ) → BodyIsGiven p body n last → HoldsNames p body → HoldsNames p last

-- past a spawn, an aggregate or a copy, whose variable names a unit then
abbrev pub PutsHoldNames : Type 0
PutsHoldNames = (p : Program) (words : ℕ → ℕ) (x u : ℕ) → IsWellFormed p → StandsPutting p x (body_at p words) → HoldsNames p (body_at p words)
    → HoldsNames p (with_future x (Some u) (passed_on (body_at p words)))

-- past a drop, whose variable names nothing then
abbrev pub DropsHoldNames : Type 0
DropsHoldNames = (p : Program) (body : BodyOf ℕ) (x : ℕ) → StandsDropping p x body → BodyHasWay p body → HoldsNames p body → HoldsNames p (with_future x None (passed_on body))

-- in the frame of a task's next activation, with the futures that its state holds
abbrev pub EnteredHoldNames : Type 0
EnteredHoldNames = (p : Program) (target : ℕ) (body : BodyOf ℕ) → IsWellFormed p → IsValid p → MayEnter p target body → HoldsNames p body → HoldsNames p (entered_held p target body)

-- in the first frame of a task to which is passed what its kind asks for
abbrev pub EntriesHoldNames : Type 0
EntriesHoldNames = (p : Program) (kind : ℕ) (passed : List Passed) → IsWellFormed p → IsValid p → kind < length p.kinds → AgreesWith p kind passed
    → HoldsNames p (OfKind (entry p (call_of kind passed)))

-- each future that is named where a frame stops names a unit
abbrev pub ActsNameUnits : Type 0
ActsNameUnits = (p : Program) (c : Columns) (q : FrameOf ℕ) (asked : Act) → IsWellFormed p → IsValid p → StopsAt p c q asked → HoldsNames p (OfKind q)
    → Each (futures_in asked) (λ x. (unit : ℕ) × (future_at q.futures x ≡ Some unit))

-- so what a spawn asks for may be passed
abbrev pub SpawnsMayPass : Type 0
SpawnsMayPass = (p : Program) (c : Columns) (q : FrameOf ℕ) (request : SpawnRequest) → IsWellFormed p → IsValid p → StopsAt p c q (act.Spawn request) → HoldsNames p (OfKind q)
    → BodyMaySpawn p request (OfKind q)
