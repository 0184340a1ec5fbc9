-- The pass of the host, and how it publishes what came of the roots.
use Rattle.std.specs.Prelude.{◌≡◌, ℕ, Option, Some, None}
use Rattle.ready_queues.specs.Moments.{Moment}
use Rattle.ready_queues.specs.declared.entry.Entry.{Entry}
use Rattle.schedule_core.specs.Publishing.{Publishes}
use Rattle.schedule_core.specs.declared.answers.HostSpawned.{HostSpawned}
use Rattle.schedule_core.specs.declared.answers.HostSpawned.TheVariants as hosted
use Rattle.table_core.specs.declared.view.View.{View}

-- the view has fewer parts, and is the same else
abbrev pub KeepsAll : View → View → Type 0
KeepsAll old new = new ≡ record old { parts = new.parts }

-- the entry of a root that waits for nothing
abbrev pub entry_told : HostSpawned → Option Entry
entry_told (hosted.Named entry) = entry
entry_told _ = None

-- An entry is published. Where there is none, nothing is done.
abbrev pub PublishesAny : ℕ → ℕ → (Moment → Type 0) → Option Entry → View → View → Type 0
PublishesAny lanes begun tells (Some entry) old new = Publishes lanes begun tells entry old new
PublishesAny lanes begun tells None old new = new ≡ old
