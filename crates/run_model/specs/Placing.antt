-- Which blocks are in use, the pool that they make, and where it places the next block.
use Rattle.std.specs.Prelude.{ℕ, zero, suc, ◌+◌, ◌*◌, ◌/◌, Bool, true, false, ◌&&◌, ◌||◌, cond, nat_eq, nat_lt, Option, Some, None, List, [], ◌∷◌, map}
use Rattle.std.specs.List.{list_any}
use Rattle.std.specs.Option.{option_map, option_or}
use Rattle.task_syntax.specs.Facts.{has}
use Rattle.kt_words.specs.Capacity.{block_units, capacity}
use Rattle.kt_words.specs.SuperWords.{risen}
use Rattle.kt_words.specs.declared.super_word.SuperWord.{SuperWord}
use Rattle.pool_core.specs.Blocks.{BlockState, block_at}
use Rattle.pool_core.specs.Superblocks.{SuperblockState}
use Rattle.pool_core.specs.Pool.{PoolState}
use Rattle.record_core.specs.Numbers.{by_number, put_number, found}
use Rattle.frame_code.specs.Words.{OfKind, OfMembers}
use Rattle.run_model.specs.State.{Body, RootWord, Named, Refused, Skipped, Super, Run}

-- references: which futures and roots name a task

abbrev pub is_task : ℕ → Option ℕ → Bool
is_task t None = false
is_task t (Some u) = nat_eq u t

abbrev pub body_names : ℕ → Body → Bool
body_names t (OfKind frame) = list_any (is_task t) frame.futures
body_names t (OfMembers members next) = has t members

abbrev pub task_names : ℕ → Option Body → Bool
task_names t None = false
task_names t (Some body) = body_names t body

abbrev pub root_names : ℕ → RootWord → Bool
root_names t (Named u) = nat_eq u t
root_names t (Refused tag) = false
root_names t (Skipped r tag) = false

abbrev pub is_open : Option Body → Bool
is_open None = false
is_open (Some body) = true

-- A block is in use while its task has not ended, and after that while a root or the body of a task that has not ended
-- names the task. An aggregate names its members until it ends.
abbrev pub is_in_use : List RootWord → List (Option Body) → ℕ → Bool
is_in_use roots bodies t = is_open (found bodies t) || (list_any (root_names t) roots || list_any (task_names t) bodies)

-- the blocks in use of the tasks from number t on, where these are their blocks
abbrev pub used_from : List RootWord → List (Option Body) → ℕ → List (Option BlockState) → List BlockState
used_from roots bodies t [] = []
used_from roots bodies t (None ∷ more) = used_from roots bodies (suc t) more
used_from roots bodies t (Some block ∷ more) =
    cond (is_in_use roots bodies t) (block ∷ used_from roots bodies (suc t) more) (used_from roots bodies (suc t) more)

abbrev pub used : Run → List BlockState
used r = used_from r.roots r.bodies 1 r.blocks

-- the pool that these blocks make

-- whether the block lies in this superblock, and at this bit of it
abbrev pub stands_in : ℕ → ℕ → BlockState → Bool
stands_in units place block = nat_eq (block.unit / units) place

abbrev pub stands_at : ℕ → ℕ → ℕ → BlockState → Bool
stands_at units place bit block = stands_in units place block && nat_eq block.unit (place * units + bit * block_units block.class)

-- how many of the blocks lie in the superblock, and for each bit from this one on whether one stands there
abbrev pub count_in : ℕ → ℕ → List BlockState → ℕ
count_in units place [] = 0
count_in units place (block ∷ blocks) = cond (stands_in units place block) 1 0 + count_in units place blocks

abbrev pub set_in : ℕ → ℕ → List BlockState → ℕ → ℕ → List Bool
set_in units place blocks bit zero = []
set_in units place blocks bit (suc left) = list_any (stands_at units place bit) blocks ∷ set_in units place blocks (suc bit) left

abbrev pub superblock_of : ℕ → List BlockState → ℕ → Super → SuperblockState
superblock_of units blocks place super = record { class = super.class; count = count_in units place blocks; ever = super.ever; set = set_in units place blocks 0 units }

abbrev pub superblocks_from : ℕ → List BlockState → ℕ → List Super → List SuperblockState
superblocks_from units blocks place [] = []
superblocks_from units blocks place (super ∷ supers) = superblock_of units blocks place super ∷ superblocks_from units blocks (suc place) supers

-- the pool at this moment
abbrev pub pool_of : ℕ → Run → PoolState
pool_of units r = record { units = units; superblocks = superblocks_from units (used r) 0 r.supers }

-- where the next block is placed

-- the first superblock that passes the test, with its position
abbrev pub first_where : (SuperblockState → Bool) → ℕ → List SuperblockState → Option (ℕ × SuperblockState)
first_where test place [] = None
first_where test place (s ∷ more) = cond (test s) (Some (place, s)) (first_where test (suc place) more)

abbrev pub has_room : ℕ → ℕ → SuperblockState → Bool
has_room class room s = nat_eq s.class class && nat_lt s.count room

abbrev pub is_empty : SuperblockState → Bool
is_empty s = nat_eq s.count 0

abbrev pub lowest_clear : List Bool → ℕ
lowest_clear [] = 0
lowest_clear (true ∷ set) = suc (lowest_clear set)
lowest_clear (false ∷ set) = 0

-- The block goes to the first superblock of its class with room, or, where there is none, to the first that is empty,
-- and stands at the lowest clear bit there. Without such a superblock there is no block.
abbrev pub placed : PoolState → ℕ → Option BlockState
placed pool class =
    option_map (λ chosen. block_at pool.units chosen.0 class (lowest_clear chosen.1.set))
    (option_or (first_where (has_room class (capacity pool.units class)) 0 pool.superblocks) (first_where is_empty 0 pool.superblocks))

-- the superblock after a block of this class was placed there
abbrev pub super_with : Option Super → ℕ → Super
super_with None class = record { class = class; ever = 1 }
super_with (Some super) class = record { class = class; ever = risen super.ever }

abbrev pub supers_with : ℕ → List Super → BlockState → List Super
supers_with units supers block = put_number supers (suc (block.unit / units)) (super_with (by_number supers (suc (block.unit / units))) block.class)

-- the superblocks as words
abbrev pub word_of : SuperblockState → SuperWord
word_of s = record { count = s.count; class = s.class; ever = s.ever }

abbrev pub words_of : PoolState → List SuperWord
words_of pool = map word_of pool.superblocks
