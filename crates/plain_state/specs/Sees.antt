-- When the state of an engine stands for a state of the run.
use Rattle.std.specs.Prelude.{◌≡◌, ℕ, ◌+◌, ◌*◌, ◌≤◌, cond, nat_eq, Option, Some, None, IsTrue, List, [], ◌∷◌, ◌++◌, map, length, slice_get}
use Rattle.std.specs.Option.{option_map}
use Rattle.task_syntax.specs.declared.program.Program.{Program}
use Rattle.task_syntax.specs.declared.columns.Columns.{Columns}
use Rattle.kt_words.specs.Capacity.{block_units}
use Rattle.kt_words.specs.declared.super_word.SuperWord.{SuperWord}
use Rattle.pool_core.specs.Blocks.{BlockState}
use Rattle.pool_core.specs.Pool.{IsSound, IsOut}
use Rattle.frame_code.specs.Words.{body_of}
use Rattle.frame_code.specs.Frames.{IsFrame}
use Rattle.frame_code.specs.Names.{names_of, body_with}
use Rattle.record_core.specs.Sums.{total}
use Rattle.record_core.specs.Numbers.{by_number, found}
use Rattle.record_core.specs.EndSeen.{RunPlan}
use Rattle.record_core.specs.declared.rows.ActivationRow.{ActivationRow}
use Rattle.record_core.specs.declared.rows.CutTag.{CutTag}
use Rattle.run_model.specs.State.{Body, Outcome as RunOutcome, RootWord, Evidence, Run}
use Rattle.run_model.specs.State as run
use Rattle.run_model.specs.Placing.{pool_of, is_in_use, is_open}
use Rattle.run_model.specs.Step.{priority_of, waiters_of}
use Rattle.run_model.specs.End.{state_at}
use Rattle.run_model.specs.Move.{RunsAt}
use Rattle.plain_state.specs.declared.record.Outcome.{Outcome}
use Rattle.plain_state.specs.declared.record.Outcome.TheVariants.{Gave, WasCut}
use Rattle.plain_state.specs.declared.record.RootState.{RootState}
use Rattle.plain_state.specs.declared.record.RootState.TheVariants as root
use Rattle.plain_state.specs.declared.record.Record.{Record}
use Rattle.plain_state.specs.Store.{StoreState, IsShaped, Chained, cut_of, frame_at}
use Rattle.plain_state.specs.Engine.{EngineState}

-- units for tasks

-- the first unit of the block of a task
abbrev pub unit_of : List (Option BlockState) → ℕ → Option ℕ
unit_of blocks t = option_map (λ (b : BlockState). b.unit) (found blocks t)

abbrev pub unit_of_row : List (Option BlockState) → Option ActivationRow → Option ℕ
unit_of_row blocks None = None
unit_of_row blocks (Some row) = unit_of blocks row.task

-- the first unit of the block of the task of an activation
abbrev pub unit_of_number : Run → ℕ → Option ℕ
unit_of_number r n = unit_of_row r.blocks (by_number r.journal.rows n)

-- these are the units of the tasks of these activations
abbrev pub AreUnitsOf : Run → List ℕ → List ℕ → Type 0
AreUnitsOf r units numbers = map (unit_of_number r) numbers ≡ map (λ unit. Some unit) units

abbrev pub root_state : List (Option BlockState) → RootWord → Option RootState
root_state blocks (run.Named t) = option_map root.Named (unit_of blocks t)
root_state blocks (run.Refused tag) = Some (root.Refused tag)
root_state blocks (run.Skipped at tag) = Some (root.Skipped at tag)

abbrev pub outcome_seen : RunOutcome → Outcome
outcome_seen (run.Gave v) = Gave v
outcome_seen (run.WasCut tag) = WasCut tag

abbrev pub class_seen : Option Evidence → Option ℕ
class_seen None = None
class_seen (Some e) = Some e.class

abbrev pub words_seen : Option Evidence → List SuperWord
words_seen None = []
words_seen (Some e) = e.words

-- references

-- how often a task stands in a list
abbrev pub times : ℕ → List ℕ → ℕ
times t xs = total (λ x. cond (nat_eq x t) 1 0) xs

abbrev pub body_times : ℕ → Option Body → ℕ
body_times t None = 0
body_times t (Some body) = times t (names_of body)

abbrev pub root_times : ℕ → RootWord → ℕ
root_times t (run.Named u) = cond (nat_eq u t) 1 0
root_times t (run.Refused tag) = 0
root_times t (run.Skipped at tag) = 0

-- One while the task is under way, one for each future and member and root that names it, and one for each time that it
-- stands in `hand`, the tasks that the engine holds for a moment besides.
abbrev pub references : List ℕ → Run → ℕ → ℕ
references hand r t = cond (is_open (found r.bodies t)) 1 0 + total (body_times t) r.bodies + total (root_times t) r.roots + times t hand

-- the run as if a root named each task in hand
abbrev pub with_hand : List ℕ → Run → Run
with_hand hand r = record r { roots = map run.Named hand ++ r.roots }

-- something refers to the task, or it is in hand
abbrev pub InUse : List ℕ → Run → ℕ → Type 0
InUse hand r t = IsTrue (is_in_use (with_hand hand r).roots r.bodies t)

-- activations

-- activation n of task t has not started, or it runs
pub record IsCurrent (r : Run) (t n : ℕ) (row : ActivationRow) : Type 0 where
  pub there : by_number r.journal.rows n ≡ Some row
  pub of_task : row.task ≡ t
  pub current : Rattle.std.specs.Prelude.◌⊎◌ (row.start ≡ None) (r.running ≡ Some n)

-- how the task was cut that something is behind, where that is known: behind none nothing is cut
abbrev pub cut_behind : List (Option RunOutcome) → Option ℕ → Option (Option CutTag)
cut_behind outcomes None = Some None
cut_behind outcomes (Some u) = option_map (λ o. cut_of (outcome_seen o)) (found outcomes u)

-- frames

-- the words are a frame, and say this body, with units for tasks
pub record SeesBody (p : Program) (blocks : List (Option BlockState)) (words : List ℕ) (body : Body) : Type 0 where
  pub frame : IsFrame p words
  pub says : body_of p words ≡ body_with (unit_of blocks) body

abbrev pub frame_or : Option (ℕ × List ℕ) → ℕ → List ℕ → List ℕ
frame_or None t words = words
frame_or (Some own) t words = cond (nat_eq own.0 t) own.1 words

-- a task and its record; `own` is the task whose frame is with the engine and not in the record, with its words
pub record SeesTask (p : Program) (hand : List ℕ) (own : Option (ℕ × List ℕ)) (s : StoreState) (r : Run) (t : ℕ) : Type 0 where
  pub block : BlockState
  pub known : Record
  pub has_block : found r.blocks t ≡ Some block
  pub stands : slice_get s.blocks block.unit ≡ Some (Some block)
  pub there : slice_get s.records block.unit ≡ Some known
  pub task : known.task ≡ t
  pub referred : known.references ≡ references hand r t
  pub outcome : known.outcome ≡ option_map outcome_seen (found r.outcomes t)
  pub number : (n : ℕ) (row : ActivationRow) → IsCurrent r t n row → (known.number ≡ n) × (known.priority ≡ priority_of r.priorities n)
  pub cut : (n : ℕ) (row : ActivationRow) (cut : Option CutTag) → IsCurrent r t n row → row.start ≡ None → cut_behind r.outcomes row.after ≡ Some cut → known.cut ≡ cut
  pub waiters : List ℕ
  pub of_waiters : AreUnitsOf r waiters (waiters_of r.waiters t)
  pub chain : Chained s.records known.first waiters
  pub fits : known.length ≤ block_units block.class * 8
  pub body : (body : Body) → found r.bodies t ≡ Some body → SeesBody p r.blocks (frame_or own t (frame_at s block.unit)) body
  pub size : (words : List ℕ) → own ≡ Some (t, words) → length words ≡ known.length

-- the engine stands for the run; `hand` are the tasks that it holds for a moment besides
pub record Sees (p : Program) (units : ℕ) (hand : List ℕ) (own : Option (ℕ × List ℕ)) (e : EngineState) (r : Run) : Type 0 where
  pub shaped : IsShaped e.store
  pub sound : IsSound e.store.pool
  pub pool : e.store.pool ≡ pool_of units (with_hand hand r)
  -- the block of a task in use is out of the pool, and no other such task has it
  pub out : (t : ℕ) (block : BlockState) → found r.blocks t ≡ Some block → InUse hand r t → IsOut e.store.pool block
  pub apart : (t u : ℕ) (block : BlockState) → found r.blocks t ≡ Some block → found r.blocks u ≡ Some block → InUse hand r t → InUse hand r u → t ≡ u
  pub tasks : (t : ℕ) → InUse hand r t → SeesTask p hand own e.store r t
  pub journal : e.journal ≡ r.journal
  pub roots : map (root_state r.blocks) r.roots ≡ map (λ state. Some state) e.roots
  pub high : AreUnitsOf r e.store.ready.high r.ready.high
  pub regular : AreUnitsOf r e.store.ready.regular r.ready.regular
  pub low : AreUnitsOf r e.store.ready.low r.ready.low
  pub nulls : e.nulls ≡ r.nulls
  pub class : e.evidence_class ≡ class_seen r.evidence
  pub words : e.evidence ≡ words_seen r.evidence

-- moments of a run

-- the run comes to this state once all roots were asked for
abbrev pub IsReached : Program → Columns → RunPlan → Run → Type 0
IsReached p c plan r = (taken : ℕ) × (state_at p c plan taken ≡ r)

-- nothing runs
pub record Rests (p : Program) (c : Columns) (plan : RunPlan) (e : EngineState) (r : Run) : Type 0 where
  pub reached : IsReached p c plan r
  pub idle : r.running ≡ None
  pub sees : Sees p plan.units [] None e r

-- the task at this unit runs, and the engine has its frame
pub record Runs (p : Program) (c : Columns) (plan : RunPlan) (e : EngineState) (unit : ℕ) (words : List ℕ) (r : Run) : Type 0 where
  pub reached : IsReached p c plan r
  pub t : ℕ
  pub n : ℕ
  pub body : Body
  pub runs : RunsAt r t n body
  pub at : unit_of r.blocks t ≡ Some unit
  pub sees : Sees p plan.units [] (Some (t, words)) e r
