-- That the scheduler's rule is kept where the next root is named, and where a reference to the record of an earlier root is taken.
use Rattle.std.specs.Prelude.{◌≡◌, ◌≢◌, ℕ, ◌+◌, ◌%◌, ◌^◌, ◌<◌, List, [], ◌∷◌, length, ◌≤◌}
use Rattle.record_core.specs.Counting.{At, Has}
use Rattle.table_core.specs.Addresses.{refs, root}
use Rattle.table_core.specs.Asking.{OfRoot, IsLimit}
use Rattle.table_core.specs.Holdings.{SawTask, RootSays, Record, Null, Limit, Skipped}
use Rattle.table_core.specs.Naming.{MayName}
use Rattle.table_core.specs.RecordViews.{referred, put_root}
use Rattle.table_core.specs.Roots.{root_word}
use Rattle.table_core.specs.Views.{saw}
use Rattle.table_core.specs.declared.setup.Setup.{Setup}
use Rattle.table_core.specs.declared.view.View.{View}
use Rattle.schedule_rule.specs.Parts.{Keeps}
use Rattle.schedule_rule.specs.PlacingLaws.{StillCovers}

-- The record is that of the task that was drawn for the root of the turn. The references that are left once the root has its own
-- are enough for the frames that run, provided they were enough before.
pub record IsRecordOfRoot (g : Setup) (v : View) (u : ℕ) : Type 0 where
  pub drawn : v.root_task ≢ 0
  pub sees : Has (SawTask u v.root_task) v.sights
  pub spare : StillCovers g v (put_root (Record u) v)

-- What is said of the root of the turn comes of what was done for it: its record is that of its task, and nothing else is said
-- once a number is drawn for it. That the limit is met was answered to it.
abbrev pub MaySay : Setup → List RootSays → View → RootSays → Type 0
MaySay g asked v (Record u) = IsRecordOfRoot g v u
MaySay g asked v Null = v.root_task ≡ 0
MaySay g asked v Limit = (v.root_task ≡ 0) × Has (record { asker = OfRoot (length asked); refusal = IsLimit }) v.answers
MaySay g asked v (Skipped j) = v.root_task ≡ 0

module _ (g : Setup) (id : ℕ) (v : View) where
  -- one reference more to the record that the word of a root names, by the pass with the turn
  abbrev pub MoreRootKeeps : Type 0
  MoreRootKeeps = (asked : List RootSays) → v.turn ≡ asked ∷ [] → (r u : ℕ) → r < 16 → At asked r (Record u) → 1 ≤ v.parts → length v.futures < 4294967296
      → Keeps g id v (refs u) (λ n. (n + 1) % 2 ^ 64) (λ k w. w ≡ saw (refs u) k (referred u v))

  -- the next root is named, by the pass with the turn
  abbrev pub NameKeeps : Type 0
  NameKeeps = (asked : List RootSays) → v.turn ≡ asked ∷ [] → (says : RootSays) → length asked < g.plan.roots → MayName g asked v says → MaySay g asked v says → 1 ≤ v.parts
      → Keeps g id v (root (length asked)) (λ n. root_word says) (λ r w. (n : ℕ) × (w ≡ saw (root (length asked)) n (put_root says v)))

-- the steps of asking for roots keep the scheduler's rule
abbrev pub RootStepsKeep : Type 0
RootStepsKeep = (g : Setup) (id : ℕ) (v : View) → MoreRootKeeps g id v × NameKeeps g id v
