-- What the steps need that load and raise the total of drawn numbers, and what they tell.
use Rattle.std.specs.Prelude.{◌≡◌, ℕ, ◌+◌, ◌<◌, ◌≤◌, Bool, true, false, Option, Some, None, List, [], ◌∷◌, length, slice_get, slice_index}
use Rattle.record_core.specs.Counting.{times}
use Rattle.task_syntax.specs.declared.program.Root.{Root as RootLine}
use Rattle.task_meaning.specs.Worths.{Accepted, Respawn}
use Rattle.frame_code.specs.Control.{is_aggregate}
use Rattle.frame_code.specs.Words.{body_at}
use Rattle.table_core.specs.Addresses.{sum}
use Rattle.table_core.specs.Asking.{Asker, OfRoot, OfTask}
use Rattle.table_core.specs.Holdings.{Made, Run, RootSays}
use Rattle.table_core.specs.Views.{saw}
use Rattle.table_core.specs.declared.setup.Setup.{Setup}
use Rattle.table_core.specs.declared.view.View.{View}
use Rattle.schedule_rule.specs.Counts.{class_in}
use Rattle.schedule_rule.specs.DrawViews.{permitted, told_limit, drew_for_run, drew_for_root, drew_again, drew_none, MayAsk, KnowsCall, NextBehind, IsRootCall}
use Rattle.schedule_rule.specs.LifeViews.{moved_on, IsMovedFrame}
use Rattle.schedule_rule.specs.Numbers.{in_hand}
use Rattle.schedule_rule.specs.Parts.{places, seen}
use Rattle.schedule_rule.specs.PlacingLaws.{StillCovers}
use Rattle.schedule_rule.specs.SoundViews.{IsUpTo}
use Rattle.step_table.specs.declared.pass.Pass.{Pass}
use Rattle.step_table.specs.Passes.{view}
use Rattle.step_table.specs.RecordHands.{MadeAt, RunAt}

-- a running frame that has moved on, and its words now
pub record Move : Type 0 where
  pub unit : ℕ
  pub words : List ℕ

-- for whom the total is loaded, if for one, and the frame that has moved on since the step before, if one has
pub record Asking : Type 0 where
  pub asker : Option Asker
  pub move : Option Move

-- the view knows of the move
abbrev pub moved : Option Move → View → View
moved None v = v
moved (Some move) v = moved_on move.unit move.words v

-- The frame of a running record moves on to these words: none of its numbers is unplaced, there is a way to where it stands then, and
-- the references are enough for it.
pub record MayMoveTo (g : Setup) (move : Move) (v : View) : Type 0 where
  pub run : Run
  pub at : RunAt g.plan move.unit v run
  pub idle : run.unplaced ≡ 0
  pub frame : IsMovedFrame g.checked run.words move.words
  pub covers : StillCovers g v (moved_on move.unit move.words v)

abbrev pub MayMove : Setup → Option Move → View → Type 0
MayMove g None v = Unit {0}
MayMove g (Some move) v = MayMoveTo g move v

-- the total may be loaded for this asker, with this move
pub record MaySeeDrawn (g : Setup) (asking : Asking) (v : View) : Type 0 where
  pub asks : MayAsk g v asking.asker
  pub moves : MayMove g asking.move v

-- fewer numbers are drawn than there may be, so the pass may draw one; or not, and the asker is told so
abbrev pub SeesDrawn : ℕ → Asking → Pass → Bool → Pass → Type 0
SeesDrawn limit asking old true new = (found : ℕ) × (found < limit) × (view new ≡ saw (sum 0) found (permitted (moved asking.move (view old))))
SeesDrawn limit asking old false new = (found : ℕ) × (limit ≤ found) × (view new ≡ saw (sum 0) found (told_limit asking.asker (moved asking.move (view old))))

-- a made record without a number, in a block of the class that the call needs
pub record HasUnnumbered (g : Setup) (unit : ℕ) (call : Accepted) (v : View) : Type 0 where
  pub made : Made
  pub at : MadeAt g.plan unit v made
  pub unnumbered : made.number ≡ 0
  pub class_is : made.class ≡ class_in g.checked (Some call)

-- The pass may draw a number for a made record, by an act of the run of this task: it knows the call, and the run has no number to
-- place and is no aggregate's.
pub record MayDrawForRun (g : Setup) (unit by task : ℕ) (call : Accepted) (v : View) : Type 0 where
  pub permission : v.may_draw ≡ 1
  pub knows : KnowsCall g.checked v call
  pub made : HasUnnumbered g unit call v
  pub run : Run
  pub at : RunAt g.plan by v run
  pub task_is : run.task ≡ task
  pub single : is_aggregate (slice_index run.words 0) ≡ false
  pub idle : run.unplaced ≡ 0

-- The pass may draw a number for a made record, by the next root of its turn: the call is that of the root's line.
pub record MayDrawForRoot (g : Setup) (unit root : ℕ) (call : Accepted) (v : View) : Type 0 where
  pub permission : v.may_draw ≡ 1
  pub asked : List RootSays
  pub has_turn : v.turn ≡ asked ∷ []
  pub is_next : length asked ≡ root
  pub inside : root < g.plan.roots
  pub undrawn : v.root_task ≡ 0
  pub line : RootLine
  pub line_there : slice_get g.checked.roots root ≡ Some line
  pub call_is : IsRootCall v asked line call
  pub made : HasUnnumbered g unit call v

-- The pass may draw the next number of a run of this task, which has asked for none and has none to place; what that activation is
-- behind is known.
pub record MayDrawAgain (g : Setup) (unit task : ℕ) (behind : Option ℕ) (v : View) : Type 0 where
  pub permission : v.may_draw ≡ 1
  pub run : Run
  pub at : RunAt g.plan unit v run
  pub task_is : run.task ≡ task
  pub unasked : run.asked ≡ false
  pub idle : run.unplaced ≡ 0
  pub behind_is : NextBehind v behind (body_at g.checked (slice_index run.words))

-- a number within the limit that the pass has nowhere, neither drawn nor taken, and of which it lacks no row
pub record IsNewNumber (limit number : ℕ) (v : View) : Type 0 where
  pub within : IsUpTo limit number
  pub nowhere : in_hand number (seen places v) ≡ 0
  pub task_written : times number v.no_task ≡ 0
  pub after_written : times number v.no_after ≡ 0

-- so many numbers were found drawn, and this is the next one
pub record DrewNumber (limit number : ℕ) (old new won : View) : Type 0 where
  pub found : ℕ
  pub is_next : number ≡ found + 1
  pub is_new : IsNewNumber limit number old
  pub view_is : new ≡ saw (sum 0) found won

-- as many numbers were found drawn as there may be, or more
pub record DrewNone (limit : ℕ) (new lost : View) : Type 0 where
  pub found : ℕ
  pub is_met : limit ≤ found
  pub view_is : new ≡ saw (sum 0) found lost

-- what a draw answers: the number, or that the limit is met
abbrev pub Draws : ℕ → (ℕ → View) → View → View → Option ℕ → View → Type 0
Draws limit won lost old (Some number) new = DrewNumber limit number old new (won number)
Draws limit won lost old None new = DrewNone limit new lost

-- the draw for the made record at the unit, by the run of this task
abbrev pub DrawsForRun : ℕ → (unit by task : ℕ) → Accepted → Pass → Option ℕ → Pass → Type 0
DrawsForRun limit unit by task call old drawn new =
    Draws limit (λ n. drew_for_run unit by task call n (view old)) (drew_none (OfTask task) (view old)) (view old) drawn (view new)

-- the draw for it by this root
abbrev pub DrawsForRoot : ℕ → (unit root : ℕ) → Accepted → Pass → Option ℕ → Pass → Type 0
DrawsForRoot limit unit root call old drawn new = Draws limit (λ n. drew_for_root unit root call n (view old)) (drew_none (OfRoot root) (view old)) (view old) drawn (view new)

-- the draw for the next activation of the run of this task
abbrev pub DrawsAgain : ℕ → (unit task : ℕ) → Option ℕ → Pass → Option ℕ → Pass → Type 0
DrawsAgain limit unit task behind old drawn new =
    Draws limit (λ n. drew_again unit task (Respawn task behind) n (view old)) (drew_none (OfTask task) (view old)) (view old) drawn (view new)
