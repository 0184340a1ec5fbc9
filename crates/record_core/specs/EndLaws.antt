-- What a sound end, and a faithful one, can not show.
use Rattle.std.specs.Prelude.{◌≡◌, ◌≢◌, ◌↔◌, ◌⊎◌, ℕ, ◌+◌, ◌<◌, ◌≤◌, Bool, true, Option, Some, None, IsSome, List, length, slice_get}
use Rattle.std.specs.Option.{is_some}
use Rattle.task_syntax.specs.Form.{IsWellFormed}
use Rattle.task_syntax.specs.declared.instr.Argument.{Argument}
use Rattle.task_syntax.specs.declared.instr.Instr.{Instr}
use Rattle.task_syntax.specs.declared.instr.Instr.TheVariants.{Spawn, All, Again}
use Rattle.task_syntax.specs.declared.value.Priority.{Priority}
use Rattle.task_syntax.specs.declared.value.Value.{Value as ValueOf}
use Rattle.task_syntax.specs.declared.program.Root.{Root as RootLine}
use Rattle.task_syntax.specs.declared.program.Program.{Program}
use Rattle.task_syntax.specs.declared.columns.Columns.{Columns}
use Rattle.task_meaning.specs.Meant.{Counts, future_at}
use Rattle.task_meaning.specs.Roots.{RootGives, RootsCount}
use Rattle.task_meaning.specs.RootLaws.{root_waits}
use Rattle.record_core.specs.Sums.{total}
use Rattle.task_meaning.specs.Frame.{CallOf}
use Rattle.task_meaning.specs.Worths.{Accepted, OfCall, OfAll}
use Rattle.kt_words.specs.Ranges.{IsGeometry}
use Rattle.kt_words.specs.Capacity.{capacity}
use Rattle.kt_words.specs.declared.super_word.SuperWord.{SuperWord}
use Rattle.record_core.specs.Numbers.{by_number, HasTask}
use Rattle.record_core.specs.Journal.{IsRefusal, is_cut, finish_of, cause_of, task_count}
use Rattle.record_core.specs.EndSeen.{EndSeen, RunPlan}
use Rattle.record_core.specs.EndSound.{EndSound, HasEvidence, IsNoRetry, kind_class, null_ends}
use Rattle.record_core.specs.EndItems.{EndItems}
use Rattle.record_core.specs.EndCounts.{EndCounts, NothingRefused}
use Rattle.record_core.specs.EndAsks.{AsksForNumber, CallNames, IsInKind, class_wanted}
use Rattle.record_core.specs.EndCalls.{Makers, TellRun, IsMadeBy, IsOf, IsOwn, limit_task}
use Rattle.record_core.specs.EndFaithful.{EndFaithful}
use Rattle.record_core.specs.declared.rows.ActivationRow.{ActivationRow}
use Rattle.record_core.specs.declared.rows.Cause.{Cause}
use Rattle.record_core.specs.declared.rows.Cause.TheVariants as cause
use Rattle.record_core.specs.declared.rows.RootEnd.{RootEnd}
use Rattle.record_core.specs.declared.rows.RootEnd.TheVariants.{Value, Cut}
use Rattle.record_core.specs.declared.rows.CutTag.{CutTag}
use Rattle.record_core.specs.declared.rows.CutTag.TheVariants.{Null, Limit}
use Rattle.record_core.specs.declared.rows.CutFrom.{CutFrom}
use Rattle.record_core.specs.declared.rows.CutFrom.TheVariants.{Host, Root, Task}

-- a root's value is no other than the meaning's
abbrev pub NoOtherValue : Type 0
NoOtherValue = (p : Program) (c : Columns) (plan : RunPlan) (e : EndSeen) (at : ℕ) (shown meant : ValueOf) → EndSound p c plan e
    → slice_get e.roots at ≡ Some (Value shown) → RootGives p c at meant → shown ≡ meant

-- some task, or some root at the host, was refused itself in this way
abbrev pub HasRefusal : EndSeen → CutTag → Type 0
HasRefusal e tag = ((t : ℕ) × IsRefusal tag (cause_of e.tasks t)) ⊎ ((at : ℕ) × (slice_get e.roots at ≡ Some (Cut tag Host)))

-- each cut of a root comes from a refusal
abbrev pub NoCutWithoutRefusal : Type 0
NoCutWithoutRefusal = (p : Program) (c : Columns) (plan : RunPlan) (e : EndSeen) (at : ℕ) (tag : CutTag) (from : CutFrom) → IsWellFormed p → EndSound p c plan e
    → slice_get e.roots at ≡ Some (Cut tag from) → HasRefusal e tag

-- no root is cut by the limit while activations are left, and none by a null answer without evidence
abbrev pub NoLimitToSpare : Type 0
NoLimitToSpare = (p : Program) (c : Columns) (plan : RunPlan) (e : EndSeen) (at : ℕ) (from : CutFrom) → IsWellFormed p → EndSound p c plan e
    → slice_get e.roots at ≡ Some (Cut Limit from) → length e.rows ≡ plan.limit

abbrev pub NoNullWithoutEvidence : Type 0
NoNullWithoutEvidence = (p : Program) (c : Columns) (plan : RunPlan) (e : EndSeen) (at : ℕ) (from : CutFrom) → IsWellFormed p → EndSound p c plan e
    → slice_get e.roots at ≡ Some (Cut Null from) → HasEvidence e plan.limit

-- the root got a task
abbrev pub one_own : RootEnd → ℕ
one_own (Value v) = 1
one_own (Cut tag Host) = 0
one_own (Cut tag (Root r)) = 0
one_own (Cut tag (Task t)) = 1

-- as many blocks are held as roots got a task
abbrev pub NoOtherBlocks : Type 0
NoOtherBlocks = (p : Program) (c : Columns) (plan : RunPlan) (e : EndSeen) → EndSound p c plan e → total (λ n. n) e.held ≡ total one_own e.roots

-- whoever cuts a task was cut itself, and finished earlier
pub record IsCutEarlier (e : EndSeen) (t u : ℕ) : Type 0 where
  pub finish : ℕ
  pub earlier : ℕ
  pub of_task : finish_of e.tasks t ≡ Some finish
  pub of_other : finish_of e.tasks u ≡ Some earlier
  pub before : earlier < finish
  pub cut : is_cut (cause_of e.tasks u) ≡ true

abbrev pub NoCutByALater : Type 0
NoCutByALater = (p : Program) (c : Columns) (plan : RunPlan) (e : EndSeen) (t u : ℕ) → EndSound p c plan e → cause_of e.tasks t ≡ cause.By u → IsCutEarlier e t u

-- a root whose own task was cut shows no value
abbrev pub NoCutShownAsValue : Type 0
NoCutShownAsValue = (p : Program) (e : EndSeen) (at t : ℕ) (v : ValueOf) → EndFaithful p e → future_at e.own at ≡ Some t
    → is_cut (cause_of e.tasks t) ≡ true → slice_get e.roots at ≢ Some (Value v)

-- a task behind a cut one has no cause but that cut: it is neither uncut, nor refused itself, nor cut by another
abbrev pub NoCutHidden : Type 0
NoCutHidden = (p : Program) (e : EndSeen) (n u : ℕ) (row : ActivationRow) (other : Cause) → EndFaithful p e → by_number e.rows n ≡ Some row → row.after ≡ Some u
    → is_cut (cause_of e.tasks u) ≡ true → other ≢ cause.By u → cause_of e.tasks row.task ≢ other

-- the own task of a root that is behind another is behind that one's, and else behind none
abbrev pub NoOtherPredecessor : Type 0
NoOtherPredecessor = (p : Program) (e : EndSeen) (at t : ℕ) (root : RootLine) (row : ActivationRow) (other : Option ℕ) → EndFaithful p e
    → slice_get p.roots at ≡ Some root → future_at e.own at ≡ Some t → by_number e.rows t ≡ Some row → other ≢ root_waits e.own root.behind → row.after ≢ other

-- a task that was not cut is behind no cut task
abbrev pub NoValueBehindACut : Type 0
NoValueBehindACut = (p : Program) (e : EndSeen) (n u : ℕ) (row : ActivationRow) → EndFaithful p e → by_number e.rows n ≡ Some row → row.after ≡ Some u
    → cause_of e.tasks row.task ≡ cause.Clear → cause_of e.tasks u ≡ cause.Clear

-- a task draws no number after that of an activation behind a cut task
abbrev pub NoRespawnOfTheCut : Type 0
NoRespawnOfTheCut = (p : Program) (e : EndSeen) (n m u : ℕ) (row other : ActivationRow) → EndFaithful p e → by_number e.rows n ≡ Some row → row.after ≡ Some u
    → is_cut (cause_of e.tasks u) ≡ true → by_number e.rows m ≡ Some other → other.task ≡ row.task → n < m → ⊥

-- two roots do not have each other's tasks: the earlier root has the smaller number
abbrev pub NoOwnExchanged : Type 0
NoOwnExchanged = (p : Program) (e : EndSeen) (i j t u : ℕ) → EndFaithful p e → i < j → future_at e.own i ≡ Some t → future_at e.own j ≡ Some u → u < t → ⊥

-- the task is of one root, and of no other
abbrev pub IsOfOneRoot : Program → EndSeen → List Accepted → Makers → ℕ → Type 0
IsOfOneRoot p e calls makers t = (at : ℕ) × IsOf p e calls makers at t × ((other : ℕ) → IsOf p e calls makers other t → other ≡ at)

-- there are calls and makers that tell the run, and by these each task is of one root
abbrev pub NoTaskWithoutRoot : Type 0
NoTaskWithoutRoot = (p : Program) (e : EndSeen) → EndFaithful p e
    → (calls : List Accepted) × (makers : Makers) × TellRun p e calls makers × ((t : ℕ) → HasTask e.rows t → IsOfOneRoot p e calls makers t)

-- the first task is a root's own
abbrev pub NoOtherFirst : Type 0
NoOtherFirst = (p : Program) (e : EndSeen) → EndFaithful p e → HasTask e.rows 1 → IsOwn e.own 1

-- a root, or an instruction of the program, asks for a block of this class
abbrev pub AsksForClass : Program → ℕ → Type 0
AsksForClass p class =
    ((at : ℕ) × (root : RootLine) × (slice_get p.roots at ≡ Some root) × (kind_class p root.kind ≡ class))
    ⊎ ((kind : ℕ) × (instr : Instr) × IsInKind p kind instr × (class_wanted p instr ≡ Some class))

-- there is no evidence of a class that nothing asks for
abbrev pub NoEvidenceUnasked : Type 0
NoEvidenceUnasked = (p : Program) (e : EndSeen) (class : ℕ) → EndFaithful p e → (AsksForClass p class → ⊥) → e.evidence_class ≢ Some class

-- and none where no answer was null
abbrev pub NoEvidenceOfNothing : Type 0
NoEvidenceOfNothing = (p : Program) (e : EndSeen) (class : ℕ) → EndFaithful p e → e.nulls ≡ 0 → e.evidence_class ≢ Some class

-- no superblock of the evidence has more blocks than it has room for
abbrev pub NoCountTooLarge : Type 0
NoCountTooLarge = (p : Program) (e : EndSeen) (superblock : ℕ) (word : SuperWord) → EndFaithful p e → slice_get e.evidence superblock ≡ Some word
    → capacity e.units word.class < word.count → ⊥

-- nor words of it
abbrev pub NoWordsOfNothing : Type 0
NoWordsOfNothing = (p : Program) (e : EndSeen) (superblock : ℕ) (word : SuperWord) → EndFaithful p e → e.nulls ≡ 0 → slice_get e.evidence superblock ≢ Some word

-- Where an answer was null and the limit was not met, there are no more superblocks than tasks: each one held a block.
abbrev pub NoNullWithRoom : Type 0
NoNullWithRoom = (p : Program) (c : Columns) (plan : RunPlan) (e : EndSeen) → IsGeometry plan.superblocks plan.units → EndSound p c plan e → 1 ≤ e.nulls
    → length e.rows < plan.limit → task_count e.rows < plan.superblocks → ⊥

-- no root with a task is behind a root without one
abbrev pub NoRootBehindNone : Type 0
NoRootBehindNone = (p : Program) (e : EndSeen) (at earlier t : ℕ) (root : RootLine) → EndFaithful p e → slice_get p.roots at ≡ Some root → root.behind ≡ Some earlier
    → future_at e.own at ≡ Some t → future_at e.own earlier ≢ None

-- by the calls and makers that tell an end, a call names no task with a number as great as its own
abbrev pub NoLaterNamed : Type 0
NoLaterNamed = (p : Program) (e : EndSeen) (calls : List Accepted) (makers : Makers) (n u : ℕ) (call : Accepted) → TellRun p e calls makers → by_number calls n ≡ Some call
    → CallNames call u → n ≤ u → ⊥

-- and a task that a spawn made has its kind and as many arguments as its line, and is behind a task exactly where its line is
pub record IsAsTheLine (kind : ℕ) (arguments : List Argument) (waits : Option ℕ) (call : CallOf ℕ) (after : Option ℕ) : Type 0 where
  pub of_kind : call.kind ≡ kind
  pub numbers : length call.numbers ≡ length arguments
  pub futures : length call.futures ≡ length arguments
  pub behind : is_some after ≡ is_some waits

abbrev pub NoOtherSpawn : Type 0
NoOtherSpawn = (p : Program) (e : EndSeen) (calls : List Accepted) (makers : Makers) (t to kind : ℕ) (arguments : List Argument) (waits : Option ℕ) (priority : Priority) (retry : Bool)
    (call : CallOf ℕ) (after : Option ℕ) → TellRun p e calls makers → (is : IsMadeBy p e calls makers t) → is.maker.instr ≡ Spawn to kind arguments waits priority retry
    → by_number calls t ≡ Some (OfCall call after) → IsAsTheLine kind arguments waits call after

-- two tasks of one maker are made at two lines
abbrev pub NoTwoOfOneLine : Type 0
NoTwoOfOneLine = (p : Program) (e : EndSeen) (calls : List Accepted) (makers : Makers) (t u : ℕ) → TellRun p e calls makers → HasTask e.rows t → HasTask e.rows u
    → (IsOwn e.own t → ⊥) → (IsOwn e.own u → ⊥) → makers.number t ≡ makers.number u → (makers.frame t).at ≡ (makers.frame u).at → t ≡ u

-- the instruction makes a task that is behind another
abbrev pub MakesBehind : Instr → Type 0
MakesBehind (Spawn to kind arguments waits priority retry) = IsSome waits
MakesBehind (All to members priority retry) = Unit {0}
MakesBehind _ = ⊥

-- some instruction of the program is such
abbrev pub HasInstrWith : Program → (Instr → Type 0) → Type 0
HasInstrWith p P = (kind : ℕ) × (instr : Instr) × IsInKind p kind instr × P instr

-- where no line makes a task behind another, no task that is no root's own is behind one
abbrev pub NoBehindUnasked : Type 0
NoBehindUnasked = (p : Program) (e : EndSeen) (t u : ℕ) (row : ActivationRow) → EndFaithful p e → (HasInstrWith p MakesBehind → ⊥) → by_number e.rows t ≡ Some row → row.task ≡ t
    → (IsOwn e.own t → ⊥) → row.after ≢ Some u

-- the instruction may make its own task, or an aggregate, draw a further number
abbrev pub GoesOn : Instr → Type 0
GoesOn (Spawn to kind arguments waits priority retry) = retry ≡ true
GoesOn (All to members priority retry) = Unit {0}
GoesOn (Again target waits priority) = Unit {0}
GoesOn _ = ⊥

-- where no line of the program does, each number is a task's first
abbrev pub NoRespawnUnasked : Type 0
NoRespawnUnasked = (p : Program) (c : Columns) (plan : RunPlan) (e : EndSeen) (n : ℕ) (row : ActivationRow) → EndSound p c plan e → EndFaithful p e → (HasInstrWith p GoesOn → ⊥)
    → by_number e.rows n ≡ Some row → row.task ≡ n

-- the instruction asks for a block, and takes no second try
abbrev pub MayBeNull : Program → Instr → Type 0
MayBeNull p instr = IsSome (class_wanted p instr) × IsNoRetry instr

-- a root's own task whose kind asks for no block is not refused one, and one whose kind asks for no number is not cut by the limit
abbrev pub NoNullUnasked : Type 0
NoNullUnasked = (p : Program) (e : EndSeen) (at t : ℕ) (root : RootLine) → EndFaithful p e → slice_get p.roots at ≡ Some root → future_at e.own at ≡ Some t
    → ((instr : Instr) → IsInKind p root.kind instr → MayBeNull p instr → ⊥) → cause_of e.tasks t ≢ cause.Null

abbrev pub NoLimitUnasked : Type 0
NoLimitUnasked = (p : Program) (e : EndSeen) (at t : ℕ) (root : RootLine) → EndFaithful p e → slice_get p.roots at ≡ Some root → future_at e.own at ≡ Some t
    → ((instr : Instr) → IsInKind p root.kind instr → AsksForNumber instr → ⊥) → cause_of e.tasks t ≢ cause.Limit

-- the task finished earlier, and was not cut
pub record IsDoneBefore (e : EndSeen) (u t : ℕ) : Type 0 where
  pub earlier : ℕ
  pub finish : ℕ
  pub of_member : finish_of e.tasks u ≡ Some earlier
  pub of_task : finish_of e.tasks t ≡ Some finish
  pub before : earlier < finish
  pub clear : cause_of e.tasks u ≡ cause.Clear

-- there are calls and makers that tell the run, and by these an aggregate with a value is done after each of its members
abbrev pub NoAggregateBeforeMembers : Type 0
NoAggregateBeforeMembers = (p : Program) (c : Columns) (plan : RunPlan) (e : EndSeen) → EndSound p c plan e → EndFaithful p e
    → (calls : List Accepted) × (makers : Makers) × TellRun p e calls makers
    × ((t at u : ℕ) (members : List ℕ) → by_number calls t ≡ Some (OfAll members) → cause_of e.tasks t ≡ cause.Clear → slice_get members at ≡ Some u → IsDoneBefore e u t)

-- no more null answers are counted than ended a task or a root, made a number be drawn, or met the limit
abbrev pub NoNullsUncounted : Type 0
NoNullsUncounted = (p : Program) (e : EndSeen) → EndFaithful p e → null_ends e + length e.rows + total limit_task e.tasks < e.nulls → ⊥

-- where nothing was refused, no work is left out and none is added: there are no other numbers of tasks and activations than the
-- meaning counts, and no root is without its value
abbrev pub NoWorkLeftOut : Type 0
NoWorkLeftOut = (p : Program) (c : Columns) (e : EndSeen) (k : Counts) → EndCounts p c e → RootsCount p c k → NothingRefused e
    → ((task_count e.rows ≢ k.tasks) ⊎ ((length e.rows ≢ k.activations) ⊎ ((at : ℕ) × (tag : CutTag) × (from : CutFrom) × (slice_get e.roots at ≡ Some (Cut tag from))))) → ⊥

-- an end is sound exactly where it has all items
abbrev pub SoundByItems : Type 0
SoundByItems = (p : Program) (c : Columns) (plan : RunPlan) (e : EndSeen) → EndSound p c plan e ↔ EndItems p c plan e
