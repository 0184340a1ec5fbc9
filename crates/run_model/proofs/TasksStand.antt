-- What stands of frames and aggregates, said of each task under way by its body and its live number.
use Rattle.std.proofs.Common.{◌≡◌, ℕ, suc, ◌<◌, ◌≤◌, Bool, Option, Some, List, length, slice_get, sym, ◌∙◌, ap, subst, arith}
use Rattle.std.proofs.lemmas.Option.{same_Some}
use Rattle.task_syntax.specs.declared.value.Value.{Value}
use Rattle.task_syntax.specs.declared.program.Program.{Program}
use Rattle.task_meaning.specs.Frame.{FrameOf, CallOf}
use Rattle.task_meaning.specs.Worths.{Accepted, OfCall, OfAll}
use Rattle.frame_code.specs.Words.{OfKind, OfMembers}
use Rattle.record_core.specs.Numbers.{by_number, found}
use Rattle.record_core.specs.declared.rows.ActivationRow.{ActivationRow}
use Rattle.run_model.specs.State.{Body, Gave, Run}
use Rattle.run_model.proofs.NumbersInvariant.{NumbersStand, IsLive}
use Rattle.run_model.proofs.LiveFacts.{body_task}
use Rattle.run_model.proofs.FramesInvariant.{IsGiven, IsSeated, has_started, FramesStand}
use Rattle.run_model.proofs.SeatFacts.{Grows, given_grows, seat_grows}

-- the frame is seated, and of the kind of the task's call
pub record IsFramed (p : Program) (s : Run) (t : ℕ) (after : Option ℕ) (started : Bool) (q : FrameOf ℕ) : Type 0 where
  pub seat : IsSeated p s after started q
  pub of_call : (call : CallOf ℕ) × (waits : Option ℕ) × (by_number s.calls t ≡ Some (OfCall call waits)) × (q.kind ≡ call.kind)

-- the aggregate is behind the member before the next one, and those before that one gave values
pub record IsGathering (s : Run) (t : ℕ) (after : Option ℕ) (members : List ℕ) (next : ℕ) : Type 0 where
  pub of_call : by_number s.calls t ≡ Some (OfAll members)
  pub at : (before : ℕ) × (next ≡ suc before) × (after ≡ slice_get members before)
  pub within : next ≤ length members
  pub given : (at u : ℕ) → suc at < next → slice_get members at ≡ Some u → IsGiven s u

-- what stands of a body of a task, whose live number is behind `after`
abbrev pub BodyStands : Program → Run → ℕ → Option ℕ → Bool → Body → Type 0
BodyStands p s t after started (OfKind q) = IsFramed p s t after started q
BodyStands p s t after started (OfMembers members next) = IsGathering s t after members next

-- an aggregate that gave a value has members that all gave values
abbrev pub IsComplete : Run → Type 0
IsComplete s = (t at u : ℕ) (v : Value) (members : List ℕ) → by_number s.calls t ≡ Some (OfAll members) → found s.outcomes t ≡ Some (Gave v) → slice_get members at ≡ Some u → IsGiven s u

-- what runs is behind none, or behind a task that gave a value
abbrev pub RunsBehind : Run → Type 0
RunsBehind s = (n u : ℕ) (row : ActivationRow) → s.running ≡ Some n → by_number s.journal.rows n ≡ Some row → row.after ≡ Some u → IsGiven s u

-- all of this together
pub record TasksStand (p : Program) (s : Run) : Type 0 where
  pub tasks : (t n : ℕ) (row : ActivationRow) (body : Body) → IsLive s t n row → found s.bodies t ≡ Some body → BodyStands p s t row.after (has_started row) body
  pub complete : IsComplete s
  pub runs_behind : RunsBehind s

-- it stays where more is known
pub body_grows : (p : Program) (r s : Run) (t : ℕ) (after : Option ℕ) (started : Bool) (body : Body) → Grows r s → BodyStands p r t after started body → BodyStands p s t after started body
body_grows p r s t after started (OfKind q) grows now = record {
  seat = seat_grows p r s after started q grows now.seat;
  of_call = let (call, waits, e, kind) = now.of_call in (call, waits, grows.calls t (OfCall call waits) e, kind);
}
body_grows p r s t after started (OfMembers members next) grows now = record {
  of_call = grows.calls t (OfAll members) now.of_call;
  at = now.at;
  within = now.within;
  given = λ at u lt e. given_grows r s u grows (now.given at u lt e);
}

-- a call is not both of a kind and of an aggregate
pub kinds_differ : (o : Option Accepted) (call : CallOf ℕ) (waits : Option ℕ) (members : List ℕ) → o ≡ Some (OfCall call waits) → o ≡ Some (OfAll members) → ⊥
kinds_differ o call waits members e f = wrong (same_Some (OfCall call waits) (OfAll members) (sym e ∙ f))
  where
    wrong : OfCall call waits ≡ OfAll members → ⊥
    wrong h = cc

-- two member lists of one call are the same
pub same_members : (o : Option Accepted) (members other : List ℕ) → o ≡ Some (OfAll members) → o ≡ Some (OfAll other) → members ≡ other
same_members o members other e f = same (same_Some (OfAll members) (OfAll other) (sym e ∙ f))
  where
    same : OfAll members ≡ OfAll other → members ≡ other
    same h = cc

-- the invariant says this of each task under way
pub tasks_of : (p : Program) (r : Run) → FramesStand p r → TasksStand p r
tasks_of p r now = record { tasks = tasks; complete = now.complete; runs_behind = now.runs_behind }
  where
    tasks : (t n : ℕ) (row : ActivationRow) (body : Body) → IsLive r t n row → found r.bodies t ≡ Some body → BodyStands p r t row.after (has_started row) body
    tasks t n row (OfKind q) live has = record { seat = now.seated t n row q live has; of_call = now.of_call t q has }
    tasks t n row (OfMembers members next) live has =
        let call = now.gathers t next members has in
        let (other, same, some, within) = now.gathered t members (OfMembers members next) call has in
        record { of_call = call; at = now.at t n next row members live has; within = subst (λ k. k ≤ length members) (sym (same_next members members next other same)) within; given = λ at u lt e. now.before t next at u members has lt e }
      where
        same_next : (members others : List ℕ) (next other : ℕ) → ◌≡◌ {A = Body} (OfMembers members next) (OfMembers others other) → next ≡ other
        same_next members others next other h = cc

-- and the other way round, where numbers stand
pub frames_of : (p : Program) (s : Run) → NumbersStand s → TasksStand p s → FramesStand p s
frames_of p s held now = record {
  seated = λ t n row q live has. (now.tasks t n row (OfKind q) live has).seat;
  of_call = λ t q has. let (n, row, live) = live_of t (OfKind q) has in (now.tasks t n row (OfKind q) live has).of_call;
  gathers = λ t next members has. gathers t next members has;
  gathered = gathered;
  at = λ t n next row members live has. (now.tasks t n row (OfMembers members next) live has).at;
  before = λ t next at u members has lt e. let (n, row, live) = live_of t (OfMembers members next) has in (now.tasks t n row (OfMembers members next) live has).given at u lt e;
  complete = now.complete;
  runs_behind = now.runs_behind;
}
  where
    live_of : (t : ℕ) (body : Body) → found s.bodies t ≡ Some body → (n : ℕ) × (row : ActivationRow) × IsLive s t n row
    live_of t body has = let task = body_task s.journal.rows s.journal.tasks s.outcomes s.bodies s.running held.live t body has in held.live.current t task.0 task.1

    gathers : (t next : ℕ) (members : List ℕ) → found s.bodies t ≡ Some (OfMembers members next) → by_number s.calls t ≡ Some (OfAll members)
    gathers t next members has = let (n, row, live) = live_of t (OfMembers members next) has in (now.tasks t n row (OfMembers members next) live has).of_call

    gathered : (t : ℕ) (members : List ℕ) (body : Body) → by_number s.calls t ≡ Some (OfAll members) → found s.bodies t ≡ Some body → (next : ℕ) × (body ≡ OfMembers members next) × (1 ≤ next) × (next ≤ length members)
    gathered t members (OfKind q) call has =
        let (n, row, live) = live_of t (OfKind q) has in let (other, waits, e, kind) = (now.tasks t n row (OfKind q) live has).of_call in absurd (kinds_differ (by_number s.calls t) other waits members e call)
    gathered t members (OfMembers others next) call has =
        let (n, row, live) = live_of t (OfMembers others next) has in
        let g = now.tasks t n row (OfMembers others next) live has in
        let same = same_members (by_number s.calls t) others members g.of_call call in
        (next, ap (λ m. OfMembers m next) same, omega (arith, g.at.1), omega (arith, g.within, ap length same))
