-- What an allocation answers.
use Rattle.std.specs.Prelude.{◌≡◌, ℕ, ◌<◌, ◌∷◌, ⊤, true, slice_index}
use Rattle.kt_words.specs.Capacity.{IsWithoutRoom}
use Rattle.kt_words.specs.SuperWords.{class_of, count_of}
use Rattle.kt_words.specs.declared.plan.Plan.{Plan}
use Rattle.table_core.specs.Holdings.{Block as BlockOf}
use Rattle.table_core.specs.Pool.{IsBlock, superblock_of}
use Rattle.table_core.specs.Views.{place}
use Rattle.table_core.specs.declared.view.View.{View}
use Rattle.step_table.specs.declared.last_looks.LastLooks.{LastLooks}
use Rattle.step_table.specs.declared.pass.Pass.{Pass}
use Rattle.step_table.specs.Passes.{block_of}
use Rattle.memory_pool.specs.declared.allocated.Allocated.{Allocated}
use Rattle.memory_pool.specs.declared.allocated.Allocated.TheVariants as allocated
use Rattle.memory_pool.specs.Searches.{like, SawNoneBelow}

-- a fresh block of the class, which the hand has beside what it had; it is one win of the pass
pub record Gives (g : Plan) (c : ℕ) (old : View) (b : BlockOf) (new : View) : Type 0 where
  pub is_block : IsBlock g b.unit c
  pub of_class : b.class ≡ c
  pub fresh : b.fresh ≡ true
  pub view_is : new ≡ record (like new old) { blocks = b ∷ old.blocks; wins = place (superblock_of g b.unit) c ∷ old.wins }

-- in this call each superblock was seen without room, and nothing else has changed
pub record Refuses (g : Plan) (c : ℕ) (old new : View) : Type 0 where
  pub stays : new ≡ like new old
  pub saw : SawNoneBelow g c g.geometry.superblocks old.looks new.looks

abbrev pub Allocates : Plan → ℕ → View → Allocated → View → Type 0
Allocates g c old (allocated.Block b) new = Gives g c old (block_of b) new
Allocates g c old allocated.Null new = Refuses g c old new

-- what is kept of superblock i is a look for class c that saw no room
abbrev pub KeepsNoRoom : Plan → ℕ → ℕ → LastLooks → Type 0
KeepsNoRoom g c i last =
    (slice_index last.classes i ≡ c)
    × IsWithoutRoom g.geometry.units c (class_of (slice_index last.words i)) (count_of (slice_index last.words i))

-- after a null answer the pass keeps such a look of each superblock
abbrev pub KeepsRefusal : Plan → ℕ → Allocated → Pass → Type 0
KeepsRefusal g c (allocated.Block b) p = ⊤
KeepsRefusal g c allocated.Null p = (i : ℕ) → i < g.geometry.superblocks → KeepsNoRoom g c i p.last
