-- That the scheduler's rule is kept by the steps that place a number.
use Rattle.std.specs.Prelude.{◌≡◌, ℕ, ◌≤◌, Bool, List, slice_index}
use Rattle.record_core.specs.Counting.{Has}
use Rattle.task_meaning.specs.Worths.{Accepted}
use Rattle.frame_code.specs.Names.{named}
use Rattle.table_core.specs.Addresses.{state}
use Rattle.table_core.specs.Asking.{Drawn, OfRoot, OfTask}
use Rattle.table_core.specs.Holdings.{Made, Run}
use Rattle.table_core.specs.Views.{saw}
use Rattle.table_core.specs.declared.setup.Setup.{Setup}
use Rattle.table_core.specs.declared.view.View.{View}
use Rattle.table_core.specs.Steps.{placing}
use Rattle.schedule_rule.specs.Frames.{BagSound}
use Rattle.schedule_rule.specs.LifeViews.{IsMovedFrame}
use Rattle.schedule_rule.specs.Parts.{bags, seen, Keeps}
use Rattle.schedule_rule.specs.PlacingViews.{placed_for_run, placed_for_root, placed_again, logged, IsPlacedWord, MayPlace, MayPlaceAgain}

-- the references that are left are enough for the frames that run afterwards, provided they were enough before
abbrev pub StillCovers : Setup → View → View → Type 0
StillCovers g before after = BagSound g.checked (seen bags before) → BagSound g.checked (seen bags after)

module _ (g : Setup) (id : ℕ) (v : View) where
  -- The number of a made record is placed by an act of the run x, whose frame has the words `past` behind that act.
  abbrev pub PlaceForRunKeeps : Type 0
  PlaceForRunKeeps = (waits : Bool) (r : Made) (d : Drawn) (call : Accepted) (words : List ℕ) → MayPlace g.checked v waits r d call words
      → (x : Run) → Has x v.runs → d.asker ≡ OfTask x.task → (past : List ℕ) → IsMovedFrame g.checked x.words past
      → StillCovers g v (placed_for_run waits r.unit r.class d.number (named g.checked (slice_index words)) x.unit past v) → 1 ≤ v.parts
      → (word : ℕ) → IsPlacedWord waits d.number word
      → Keeps g id v (state r.unit) (λ n. word)
      (λ k w. (n : ℕ) × (w ≡ saw (state r.unit) n (logged (placing r.unit word words) (placed_for_run waits r.unit r.class d.number (named g.checked (slice_index words)) x.unit past v))))

  -- the number of a made record is placed that was drawn for the root of the turn
  abbrev pub PlaceForRootKeeps : Type 0
  PlaceForRootKeeps = (waits : Bool) (r : Made) (d : Drawn) (call : Accepted) (words : List ℕ) → MayPlace g.checked v waits r d call words
      → (root : ℕ) → d.asker ≡ OfRoot root
      → StillCovers g v (placed_for_root waits r.unit r.class d.number (named g.checked (slice_index words)) v) → 1 ≤ v.parts
      → (word : ℕ) → IsPlacedWord waits d.number word
      → Keeps g id v (state r.unit) (λ n. word)
      (λ k w. (n : ℕ) × (w ≡ saw (state r.unit) n (logged (placing r.unit word words) (placed_for_root waits r.unit r.class d.number (named g.checked (slice_index words)) v))))

  -- the number that a run drew for its next activation is placed
  abbrev pub PlaceAgainKeeps : Type 0
  PlaceAgainKeeps = (waits : Bool) (r : Run) (d : Drawn) (words : List ℕ) → MayPlaceAgain g.checked v waits r d words
      → StillCovers g v (placed_again waits r.unit r.class r.task d.number (named g.checked (slice_index words)) v) → 1 ≤ v.parts
      → (word : ℕ) → IsPlacedWord waits d.number word
      → Keeps g id v (state r.unit) (λ n. word)
      (λ k w. (n : ℕ) × (w ≡ saw (state r.unit) n (logged (placing r.unit word words) (placed_again waits r.unit r.class r.task d.number (named g.checked (slice_index words)) v))))

-- the steps that place the number of a made record keep the scheduler's rule
abbrev pub MadePlacingsKeep : Type 0
MadePlacingsKeep = (g : Setup) (id : ℕ) (v : View) → PlaceForRunKeeps g id v × PlaceForRootKeeps g id v

-- and so do those that place a run's next number
abbrev pub NextPlacingsKeep : Type 0
NextPlacingsKeep = (g : Setup) (id : ℕ) (v : View) → PlaceAgainKeeps g id v
