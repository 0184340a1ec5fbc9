-- The laws of worths, and of the rest of a frame.
use Rattle.std.specs.Prelude.{◌≡◌, ℕ, suc, ◌≤◌, Option, Some, List, ◌++◌, length, slice_get, IfSome}
use Rattle.task_syntax.specs.Places.{Each}
use Rattle.task_syntax.specs.Form.{IsWellFormed}
use Rattle.task_syntax.specs.declared.value.Value.{Value}
use Rattle.task_syntax.specs.declared.value.Value.TheVariants.{Number}
use Rattle.task_syntax.specs.declared.instr.Instr.{Instr}
use Rattle.task_syntax.specs.declared.program.Program.{Program}
use Rattle.task_syntax.specs.declared.columns.Columns.{Columns}
use Rattle.task_meaning.specs.Meant.{gives, future_at, behind, behind_all}
use Rattle.task_meaning.specs.Frame.{FrameOf, CallOf, entry, frame_with, call_with}
use Rattle.task_meaning.specs.Meaning.{mean}
use Rattle.task_meaning.specs.Worths.{Accepted, OfCall, OfAll, worths, rest_of}
use Rattle.task_meaning.specs.Acts.{Steps, act_of, act_with, ActsAt}

-- a task that is named has at most this number
abbrev pub NamesUpTo : ℕ → Option ℕ → Type 0
NamesUpTo most o = IfSome o (λ t. t ≤ most)

-- a later accepted call changes no earlier worth
abbrev pub LaterCallsKeepWorths : Type 0
LaterCallsKeepWorths = (p : Program) (c : Columns) (n : ℕ) (accepted more : List Accepted) (t : ℕ) → t ≤ length accepted
    → future_at (worths p c n (accepted ++ more)) t ≡ future_at (worths p c n accepted) t

abbrev pub MoreFuelKeepsWorths : Type 0
MoreFuelKeepsWorths = (p : Program) (c : Columns) (n m : ℕ) (accepted : List Accepted) (t : ℕ) (v : Value) → n ≤ m
    → future_at (worths p c n accepted) t ≡ Some v → future_at (worths p c m accepted) t ≡ Some v

-- an accepted call that names earlier tasks is worth what its call means with their worths
abbrev pub CallsAreWorthTheirMean : Type 0
CallsAreWorthTheirMean = (p : Program) (c : Columns) (n : ℕ) (accepted : List Accepted) (at : ℕ) (call : CallOf ℕ) (waits : Option ℕ)
    → slice_get accepted at ≡ Some (OfCall call waits) → Each call.futures (NamesUpTo at) → NamesUpTo at waits
    → future_at (worths p c n accepted) (suc at)
    ≡ (behind waits (worths p c n accepted) (mean p c n (call_with (future_at (worths p c n accepted)) call))).value

-- an aggregate is worth 0 where each member has a worth
abbrev pub AggregatesAreWorthZero : Type 0
AggregatesAreWorthZero = (p : Program) (c : Columns) (n : ℕ) (accepted : List Accepted) (at : ℕ) (members : List ℕ)
    → slice_get accepted at ≡ Some (OfAll members) → Each members (λ t. t ≤ at)
    → future_at (worths p c n accepted) (suc at) ≡ (behind_all members (worths p c n accepted) (gives (Number 0))).value

-- what follows from the first frame of an accepted call is the call's worth
abbrev pub FirstFrameGivesWorth : Type 0
FirstFrameGivesWorth = (p : Program) (c : Columns) (n : ℕ) (accepted : List Accepted) (at : ℕ) (call : CallOf ℕ) (waits : Option ℕ)
    → slice_get accepted at ≡ Some (OfCall call waits) → Each call.futures (NamesUpTo at) → NamesUpTo at waits
    → (rest_of p c n accepted waits (entry p call)).value ≡ future_at (worths p c n accepted) (suc at)

-- a later accepted call changes nothing of what follows from a frame
abbrev pub LaterCallsKeepRest : Type 0
LaterCallsKeepRest = (p : Program) (c : Columns) (n : ℕ) (accepted more : List Accepted) (waits : Option ℕ) (q : FrameOf ℕ)
    → Each q.futures (NamesUpTo (length accepted)) → NamesUpTo (length accepted) waits
    → rest_of p c n (accepted ++ more) waits q ≡ rest_of p c n accepted waits q

-- what follows from a frame is what follows from the next one, where it steps
abbrev pub StepsKeepRest : Type 0
StepsKeepRest = (p : Program) (c : Columns) (n : ℕ) (accepted : List Accepted) (waits : Option ℕ) (q next : FrameOf ℕ) → IsWellFormed p
    → ActsAt p c q (Steps next) → rest_of p c n accepted waits q ≡ rest_of p c n accepted waits next

-- an instruction does the same under other names of the futures
abbrev pub ActsKeepUnderNames : Type 0
ActsKeepUnderNames = (c : Columns) (instr : Instr) (name : ℕ → Option Value) (q : FrameOf ℕ) → act_of c instr (frame_with name q) ≡ act_with name (act_of c instr q)
