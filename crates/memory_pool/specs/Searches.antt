-- What a search of the pool has seen, and what it leaves.
use Rattle.std.specs.Prelude.{◌≡◌, ◌≢◌, ℕ, ◌+◌, ◌<◌, ◌⊎◌, List, ◌++◌, Bool, true, false, Option, Some, None}
use Rattle.kt_words.specs.declared.plan.Plan.{Plan}
use Rattle.kt_words.specs.declared.super_word.SuperWord.{SuperWord}
use Rattle.kt_words.specs.Capacity.{IsWithoutRoom}
use Rattle.kt_words.specs.SuperWords.{class_of, count_of}
use Rattle.table_core.specs.Holdings.{Look}
use Rattle.table_core.specs.Pool.{cap, unit_of}
use Rattle.table_core.specs.Views.{place, block, reserved, claimed}
use Rattle.table_core.specs.declared.view.View.{View}
use Rattle.step_table.specs.declared.pass.Pass.{Pass}
use Rattle.step_table.specs.declared.tokens.Reserved.{Reserved}
use Rattle.step_table.specs.declared.tokens.Block.{Block}
use Rattle.step_table.specs.Passes.{view, place_of, block_of}
use Rattle.step_table.specs.LastLooks.{newest}
use Rattle.memory_pool.specs.declared.found.Found.{Found}
use Rattle.memory_pool.specs.declared.found.Found.TheVariants as found

-- the view v with all that w has seen
abbrev pub like : View → View → View
like w v = record v { seen = w.seen; looks = w.looks }

-- the list is the old one with newer members before it
abbrev pub Grows : {A : Type 0} → List A → List A → Type 0
Grows {A} old new = (added : List A) × (new ≡ added ++ old)

-- looks and steps are kept, and newer ones may be there
pub record SeesMore (old new : View) : Type 0 where
  pub looks : Grows old.looks new.looks
  pub steps : Grows old.seen new.seen

-- the word of a superblock says that no block of the class fits in
abbrev pub IsFull : Plan → SuperWord → ℕ → Type 0
IsFull g word c = IsWithoutRoom g.geometry.units c word.class word.count

-- the newest of these looks at superblock i was for class c, and saw it without room
pub record SawNoRoom (g : Plan) (c i : ℕ) (looks : List Look) : Type 0 where
  pub look : Look
  pub newest_is : newest i looks ≡ Some look
  pub for_class : look.class ≡ c
  pub no_room : IsWithoutRoom g.geometry.units c (class_of look.word) (count_of look.word)

-- of the looks made since the old ones, there is such a one at each superblock below n
pub record SawNoneBelow (g : Plan) (c n : ℕ) (old new : List Look) : Type 0 where
  pub added : List Look
  pub since : new ≡ added ++ old
  pub each : (i : ℕ) → i < n → SawNoRoom g c i added

-- a place of the superblock is reserved
pub record FindsPlace (i c : ℕ) (old : Pass) (won : Reserved) (new : Pass) : Type 0 where
  pub place_is : place_of won ≡ place i c
  pub view_is : view new ≡ reserved (place i c) (like (view new) (view old))

-- nothing has changed but what the pass has seen
abbrev pub OnlySaw : Pass → Pass → Type 0
OnlySaw old new = view new ≡ like (view new) (view old)

-- the looks made since are all at superblock i
pub record LooksAt (i : ℕ) (old new : Pass) : Type 0 where
  pub added : List Look
  pub since : (view new).looks ≡ added ++ (view old).looks
  pub elsewhere : (j : ℕ) → j ≢ i → newest j added ≡ None

-- the last of them saw it without room, and nothing else has changed
pub record SeesNoRoom (g : Plan) (i c : ℕ) (old new : Pass) : Type 0 where
  pub stays : OnlySaw old new
  pub looks : LooksAt i old new
  pub saw : SawNoRoom g c i looks.added

-- what one try in superblock i comes to; an empty superblock is left only where its class may not change
abbrev pub Tries : Plan → ℕ → ℕ → Bool → Pass → Found → Pass → Type 0
Tries g i c changes old (found.Place won) new = FindsPlace i c old won new
Tries g i c changes old (found.Empty at) new = (changes ≡ false) × (at ≡ i) × OnlySaw old new
Tries g i c changes old found.Nothing new = SeesNoRoom g i c old new

-- a place of some superblock is reserved
pub record FindsOnce (g : Plan) (c : ℕ) (old : Pass) (won : Reserved) (new : Pass) : Type 0 where
  pub superblock : ℕ
  pub near : superblock < g.geometry.superblocks
  pub place : FindsPlace superblock c old won new

-- each superblock was seen without room, and nothing else has changed
pub record SeesNone (g : Plan) (c : ℕ) (old new : Pass) : Type 0 where
  pub stays : OnlySaw old new
  pub saw : SawNoneBelow g c g.geometry.superblocks (view old).looks (view new).looks

-- what a try in each superblock comes to
abbrev pub GoesRound : Plan → ℕ → Bool → Pass → Found → Pass → Type 0
GoesRound g c changes old (found.Place won) new = FindsOnce g c old won new
GoesRound g c changes old (found.Empty at) new = (changes ≡ false) × (at < g.geometry.superblocks) × OnlySaw old new
GoesRound g c changes old found.Nothing new = SeesNone g c old new

-- of n superblocks the one after i, and the first after the last
abbrev pub Follows : ℕ → ℕ → ℕ → Type 0
Follows n i next = (next ≡ i + 1) ⊎ ((i + 1 ≡ n) × (next ≡ 0))

-- the empty superblock that was left first
abbrev pub IsFirstEmpty : Option ℕ → Found → Option ℕ → Type 0
IsFirstEmpty (Some at) now first = first ≡ Some at
IsFirstEmpty None (found.Place won) first = first ≡ None
IsFirstEmpty None (found.Empty at) first = first ≡ Some at
IsFirstEmpty None found.Nothing first = first ≡ None

-- the reserved place has become a block
pub record TurnsInto (g : Plan) (r : Reserved) (old : Pass) (won : Block) (new : Pass) : Type 0 where
  pub bit : ℕ
  pub below : bit < cap g r.class
  pub block_is : block_of won ≡ block (unit_of g r.superblock r.class bit) r.class true
  pub view_is : view new ≡ claimed g (place_of r) bit (like (view new) (view old))
