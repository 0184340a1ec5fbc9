-- What a frame asks for is what its task does next by the meaning, and the futures that it names are held where it stands.
use Rattle.std.specs.Prelude.{◌≡◌, ℕ, suc, ◌++◌, Option, Some, None, List, [], ◌∷◌, drop}
use Rattle.std.specs.Option.{option_to_list}
use Rattle.task_syntax.specs.Places.{Each}
use Rattle.task_syntax.specs.Form.{IsWellFormed}
use Rattle.task_syntax.specs.Valid.{IsValid, Held, Settled}
use Rattle.task_syntax.specs.declared.value.Value.{Value}
use Rattle.task_syntax.specs.declared.value.Value.TheVariants.{Number, Trapped}
use Rattle.task_syntax.specs.declared.instr.Argument.{Argument}
use Rattle.task_syntax.specs.declared.program.State.{State}
use Rattle.task_syntax.specs.declared.program.Program.{Program}
use Rattle.task_syntax.specs.declared.columns.Columns.{Columns}
use Rattle.task_meaning.specs.Meant.{future_at}
use Rattle.task_meaning.specs.Frame.{FrameOf, state_at, frame_with, spawned, set_future}
use Rattle.task_meaning.specs.Meaning.{rest}
use Rattle.task_meaning.specs.Acts.{Act as Does, Steps, Calls, Gathers, Reads, Respawns, Finishes, ActsAt, act_with, followed}
use Rattle.frame_code.specs.Words.{BodyOf, OfKind, OfMembers}
use Rattle.frame_code.specs.Stops.{GoesTo, StopsAt, numbers_passed, variables_passed}
use Rattle.frame_code.specs.Members.{members_mean, member_follows}
use Rattle.frame_code.specs.declared.act.Act.{Act}
use Rattle.frame_code.specs.declared.act.Act.TheVariants as act

-- what is asked for is what the meaning does at the frame
abbrev pub IsActOf : FrameOf ℕ → Act → Does ℕ → Type 0
IsActOf q (act.Spawn request) does = (arguments : List Argument) × (does ≡ Calls request.to (spawned q request.kind arguments) request.behind)
    × (numbers_passed q.numbers arguments ≡ request.numbers) × (variables_passed arguments ≡ request.futures)
IsActOf q (act.All request) does = does ≡ Gathers request.to request.members
IsActOf q (act.Copy to source) does = does ≡ Steps (set_future q to (future_at q.futures source))
IsActOf q (act.Drop x) does = does ≡ Steps (set_future q x None)
IsActOf q (act.NeedsValue x) does = (to : ℕ) × (does ≡ Reads to x)
IsActOf q (act.Again request) does = does ≡ Respawns request.target request.behind
IsActOf q (act.Done n) does = does ≡ Finishes (Number n)
IsActOf q (act.Trap trap) does = does ≡ Finishes (Trapped trap)

-- Whatever the futures mean, what follows from the frame before is the act, and what follows it from the frame after.
abbrev pub KeepsMeaning : Program → Columns → BodyOf ℕ → Act → BodyOf ℕ → Type 0
KeepsMeaning p c (OfKind q) asked (OfKind last) = (does : Does ℕ) × ActsAt p c last does × IsActOf last asked does
    × ((n : ℕ) (meant : ℕ → Option Value) → rest p c (suc n) (frame_with meant q) ≡ followed p c n (act_with meant does) (frame_with meant last))
KeepsMeaning p c (OfMembers members next) asked _ = (meant : ℕ → Option Value) → members_mean meant (drop next members) ≡ member_follows meant members asked
KeepsMeaning p c _ asked _ = ⊥

-- the future variables that an act names
abbrev pub futures_in : Act → List ℕ
futures_in (act.Spawn request) = request.futures ++ option_to_list request.behind
futures_in (act.All request) = request.members
futures_in (act.Copy to source) = source ∷ []
futures_in (act.Drop x) = x ∷ []
futures_in (act.NeedsValue x) = x ∷ []
futures_in (act.Again request) = option_to_list request.behind
futures_in _ = []

-- what is read is settled
abbrev pub IsSettledIn : State → ℕ → Act → Type 0
IsSettledIn state at (act.NeedsValue x) = Settled state at x
IsSettledIn state at _ = Unit {0}

-- the futures of the act are held where the frame stands, and what it reads is settled there
abbrev pub AreHeld : Program → Act → BodyOf ℕ → Type 0
AreHeld p asked (OfKind q) = (state : State) → state_at p q.kind q.state ≡ Some state
    → Each (futures_in asked) (Held state q.at) × IsSettledIn state q.at asked
AreHeld p asked (OfMembers members next) = Unit {0}

-- to go on changes nothing of what follows, whatever the futures mean
abbrev pub GoingKeepsMeaning : Type 0
GoingKeepsMeaning = (p : Program) (c : Columns) (n : ℕ) (meant : ℕ → Option Value) (q last : FrameOf ℕ) → IsWellFormed p → GoesTo p c q last
    → rest p c n (frame_with meant q) ≡ rest p c n (frame_with meant last)

-- where a frame stops, it stands at an act of the meaning
abbrev pub StopsAreActs : Type 0
StopsAreActs = (p : Program) (c : Columns) (q : FrameOf ℕ) (asked : Act) → StopsAt p c q asked → (does : Does ℕ) × ActsAt p c q does × IsActOf q asked does

-- in a valid program the futures of what it asks for are held there, and what is read is settled
abbrev pub ActsAreHeld : Type 0
ActsAreHeld = (p : Program) (c : Columns) (q : FrameOf ℕ) (asked : Act) → IsWellFormed p → IsValid p → StopsAt p c q asked → AreHeld p asked (OfKind q)
