-- What the rows of an ended run may stand for: a call for each number, and who made it.
use Rattle.std.specs.Prelude.{◌≡◌, ℕ, ◌+◌, ◌<◌, ◌≤◌, ◌⊎◌, cond, nat_eq, Option, Some, None, IsSome, List, length, slice_get}
use Rattle.task_syntax.specs.declared.instr.Instr.{Instr}
use Rattle.task_syntax.specs.declared.program.Root.{Root as RootLine}
use Rattle.task_syntax.specs.declared.program.Program.{Program}
use Rattle.task_meaning.specs.Meant.{future_at}
use Rattle.task_meaning.specs.Frame.{FrameOf}
use Rattle.task_meaning.specs.RootLaws.{AreRootTasks}
use Rattle.task_meaning.specs.Worths.{Accepted, OfCall, OfAll, Respawn}
use Rattle.record_core.specs.Sums.{total, below}
use Rattle.record_core.specs.Numbers.{by_number, HasTask}
use Rattle.record_core.specs.Journal.{start_of, cause_of}
use Rattle.record_core.specs.EndSeen.{EndSeen}
use Rattle.record_core.specs.EndSound.{kind_class, IsNoRetry, null_ends}
use Rattle.record_core.specs.EndAsks.{AsksFor, AsksAgain, AsksForNumber, CallNames, HasInstr, StandsAt, class_wanted}
use Rattle.record_core.specs.declared.rows.ActivationRow.{ActivationRow}
use Rattle.record_core.specs.declared.rows.TaskRow.{TaskRow}
use Rattle.record_core.specs.declared.rows.Cause.TheVariants as cause
use Rattle.record_core.specs.declared.rows.RootEnd.TheVariants.{Cut}
use Rattle.record_core.specs.declared.rows.CutTag.TheVariants.{Null}
use Rattle.record_core.specs.declared.rows.CutFrom.TheVariants.{Host}

-- A new task is behind what its call waits for, an aggregate behind its first member, and a further activation of a task
-- behind what it was asked to be.
abbrev pub IsRowOf : ℕ → Accepted → ActivationRow → Type 0
IsRowOf n (OfCall call waits) row = (row.task ≡ n) × (row.after ≡ waits)
IsRowOf n (OfAll members) row = (row.task ≡ n) × (row.after ≡ slice_get members 0)
IsRowOf n (Respawn t waits) row = (row.task ≡ t) × (row.after ≡ waits) × (t < n)

-- how many of the first m numbers are of task t
abbrev pub is_number_of : ℕ → Option ActivationRow → ℕ
is_number_of t None = 0
is_number_of t (Some row) = cond (nat_eq row.task t) 1 0

abbrev pub numbers_in : ℕ → ℕ → List ActivationRow → ℕ
numbers_in t m rows = below (λ at. is_number_of t (slice_get rows at)) m

-- how many numbers a task has
abbrev pub numbers_of : ℕ → List ActivationRow → ℕ
numbers_of t rows = numbers_in t (length rows) rows

-- Activation n may have made task t in frame q: its task stands there at an instruction that asks for just this call; it had
-- started before t was drawn and started; and its task drew no number from then on until t was drawn.
pub record MayMake (p : Program) (rows : List ActivationRow) (calls : List Accepted) (t n : ℕ) (q : FrameOf ℕ) : Type 0 where
  pub row : ActivationRow
  pub there : by_number rows n ≡ Some row
  pub instr : Instr
  pub stands : StandsAt p calls row.task q instr
  pub made : Accepted
  pub is_made : by_number calls t ≡ Some made
  pub asks : AsksFor q instr made
  pub drawn : n < t
  pub begun : IsSome row.start
  pub before : (s : ℕ) → start_of rows t ≡ Some s → (q : ℕ) × (row.start ≡ Some q) × (q < s)
  pub next : (m : ℕ) (other : ActivationRow) → by_number rows m ≡ Some other → other.task ≡ row.task → n < m → t < m

-- the task is a root's own
abbrev pub IsOwn : List (Option ℕ) → ℕ → Type 0
IsOwn own t = (at : ℕ) × (future_at own at ≡ Some t)

-- the task is no root's own, and activation n, which was not cut behind its predecessor, may have made it in frame q
pub record IsMade (p : Program) (e : EndSeen) (calls : List Accepted) (t n : ℕ) (q : FrameOf ℕ) : Type 0 where
  pub not_own : IsOwn e.own t → ⊥
  pub maker : MayMake p e.rows calls t n q
  pub uncut : (u : ℕ) → maker.row.after ≡ Some u → cause_of e.tasks u ≡ cause.Clear

-- who made each task, and in which frame
pub record Makers : Type 0 where
  pub number : ℕ → ℕ
  pub frame : ℕ → FrameOf ℕ

abbrev pub IsMadeBy : Program → EndSeen → List Accepted → Makers → ℕ → Type 0
IsMadeBy p e calls makers t = IsMade p e calls t (makers.number t) (makers.frame t)

-- The task is of this root: it is the root's own, or its maker is an activation of a task of the root.
pub data IsOf (p : Program) (e : EndSeen) (calls : List Accepted) (makers : Makers) (at : ℕ) : ℕ → Type 0 where
  own : {t : ℕ} → future_at e.own at ≡ Some t → IsOf p e calls makers at t
  made : {t : ℕ} → (is : IsMadeBy p e calls makers t) → IsOf p e calls makers at is.maker.row.task → IsOf p e calls makers at t

-- Behind the first `before` numbers task t drew one more, behind `after`: a line of it asked for that, or it is an aggregate,
-- and goes on behind its next member.
pub data IsAskedAgain (p : Program) (rows : List ActivationRow) (calls : List Accepted) (before t : ℕ) (after : Option ℕ) : Type 0 where
  by_line : (q : FrameOf ℕ) (instr : Instr) → StandsAt p calls t q instr → AsksAgain q instr after → IsAskedAgain p rows calls before t after
  by_member : (members : List ℕ) (u : ℕ) → by_number calls t ≡ Some (OfAll members) → after ≡ Some u → slice_get members (numbers_in t before rows) ≡ Some u
      → IsAskedAgain p rows calls before t after

-- the task asked for a number: at a line, or as an aggregate with a member left
pub data AskedForNumber (p : Program) (rows : List ActivationRow) (calls : List Accepted) (t : ℕ) : Type 0 where
  by_line : (q : FrameOf ℕ) (instr : Instr) → StandsAt p calls t q instr → AsksForNumber instr → AskedForNumber p rows calls t
  by_member : (members : List ℕ) → by_number calls t ≡ Some (OfAll members) → numbers_of t rows < length members → AskedForNumber p rows calls t

-- the task asked for a block, with no `retry`
pub record AskedForBlock (p : Program) (calls : List Accepted) (t : ℕ) : Type 0 where
  pub frame : FrameOf ℕ
  pub instr : Instr
  pub stands : StandsAt p calls t frame instr
  pub wanted : IsSome (class_wanted p instr)
  pub no_retry : IsNoRetry instr

-- Nothing was drawn and nothing refused that was not asked for; an aggregate with a value has a number for each member.
pub record OnlyAsked (p : Program) (e : EndSeen) (calls : List Accepted) : Type 0 where
  pub again : (before t : ℕ) (after : Option ℕ) → slice_get calls before ≡ Some (Respawn t after) → IsAskedAgain p e.rows calls before t after
  pub null : (t : ℕ) → cause_of e.tasks t ≡ cause.Null → AskedForBlock p calls t
  pub limit : (t : ℕ) → cause_of e.tasks t ≡ cause.Limit → AskedForNumber p e.rows calls t
  pub gathered : (t : ℕ) (members : List ℕ) → by_number calls t ≡ Some (OfAll members) → cause_of e.tasks t ≡ cause.Clear → numbers_of t e.rows ≡ length members

-- a null answer made the task draw a further number, behind none, or met the limit then
abbrev pub HasGoneOn : EndSeen → List Accepted → ℕ → Type 0
HasGoneOn e calls t = ((m : ℕ) × (by_number calls m ≡ Some (Respawn t None))) ⊎ (cause_of e.tasks t ≡ cause.Limit)

-- A block of this class was refused: to a root, to a task that was cut so, or to one that asked again.
pub data IsWanted (p : Program) (e : EndSeen) (calls : List Accepted) (class : ℕ) : Type 0 where
  of_root : (at : ℕ) (root : RootLine) → slice_get p.roots at ≡ Some root → slice_get e.roots at ≡ Some (Cut Null Host) → kind_class p root.kind ≡ class
      → IsWanted p e calls class
  of_task : (t : ℕ) (instr : Instr) → HasInstr p calls t instr → class_wanted p instr ≡ Some class → cause_of e.tasks t ≡ cause.Null → IsWanted p e calls class
  again : (t : ℕ) (instr : Instr) → HasInstr p calls t instr → class_wanted p instr ≡ Some class → (IsNoRetry instr → ⊥) → HasGoneOn e calls t → IsWanted p e calls class

-- a further number behind none, which a null answer may have made the task draw
abbrev pub again_at_once : Accepted → ℕ
again_at_once (Respawn t None) = 1
again_at_once _ = 0

-- a task that was cut by the limit, which may have asked for its number after a null answer
abbrev pub limit_task : TaskRow → ℕ
limit_task task = elim task.cause [ cause.Clear ↦ 0 | cause.Null ↦ 0 | cause.Limit ↦ 1 | cause.By u ↦ 0 ]

-- An activation makes its tasks at lines further and further on in one state, and so at most one task at a line.
abbrev pub MakesInOrder : EndSeen → Makers → Type 0
MakesInOrder e makers = (t u : ℕ) → HasTask e.rows t → HasTask e.rows u → (IsOwn e.own t → ⊥) → (IsOwn e.own u → ⊥) → makers.number t ≡ makers.number u → t < u
    → ((makers.frame t).state ≡ (makers.frame u).state) × ((makers.frame t).at < (makers.frame u).at)

-- The calls and the makers tell the run: each row is as its call says, and a call names earlier tasks; each root's own task is
-- the root's call, every other task was made by its maker; nothing was drawn or refused that was not asked for; the evidence
-- is of a block that was refused; and each null answer ended a task or a root, or one task drew a further number or met the limit.
pub record TellRun (p : Program) (e : EndSeen) (calls : List Accepted) (makers : Makers) : Type 0 where
  pub as_many : length calls ≡ length e.rows
  pub rows : (n : ℕ) (call : Accepted) (row : ActivationRow) → by_number calls n ≡ Some call → by_number e.rows n ≡ Some row → IsRowOf n call row
  pub earlier : (n u : ℕ) (call : Accepted) → by_number calls n ≡ Some call → CallNames call u → (u < n) × HasTask e.rows u
  pub own : AreRootTasks p calls e.own
  pub of_root : (t : ℕ) → HasTask e.rows t → IsOwn e.own t ⊎ IsMadeBy p e calls makers t
  pub in_order : MakesInOrder e makers
  pub asked : OnlyAsked p e calls
  pub wanted : (class : ℕ) → e.evidence_class ≡ Some class → IsWanted p e calls class
  pub nulls : e.nulls ≤ null_ends e + total again_at_once calls + total limit_task e.tasks
